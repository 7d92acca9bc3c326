-- The first faults of XML instances as they are told, and what readers tell of them.
use Rattle.std.proofs.Common.{◌≡◌, ℕ, List, Result, Ok, Err, IfErr, ap}
use Rattle.lexical_core.specs.declared.rule.Rule.TheVariants.{Truncated}
use Rattle.message_model.specs.Tables.{Tables}
use Rattle.message_model.specs.declared.fault.Fault.{Fault}
use Rattle.message_model.specs.declared.fault.InstanceError.{InstanceError}
use Rattle.message_model.specs.declared.fault.InstanceError.TheVariants.{Refused, Memory}
use Rattle.xml_instances.specs.XmlFaults.{FaultInXml}
use Rattle.xml_instances.specs.Checking.{XmlStops, xml_fault_of}
use Rattle.transcoder.specs.Checked.{IsXmlFault}
use Rattle.transcoder.specs.inner.Reading.{StopsAt}

pub stops_at : {W : Type 0} (T : Tables) (bytes : List ℕ) (r : Result W InstanceError) → IfErr r (λ e. XmlStops T bytes e) → IfErr r (λ e. StopsAt (IsXmlFault T) Truncated bytes e)
stops_at T bytes (Ok x) h = tt
stops_at T bytes (Err (Refused fault)) h = record { has_fault = h.has_fault; no_cut = h.no_cut }
stops_at T bytes (Err Memory) h = tt

-- a fault as it is told is known by what it is
pub told_once : (f g : Fault) → xml_fault_of f ≡ xml_fault_of g → f ≡ g
told_once f g same =
    let rules : f.rule ≡ g.rule = ap (λ (x : FaultInXml). x.broken.rule) same in
    let paths : f.path ≡ g.path = ap (λ (x : FaultInXml). x.broken.path) same in
    let places : f.place ≡ g.place = ap (λ (x : FaultInXml). x.place) same in
    λ i. record { rule = rules i; place = places i; path = paths i }

abbrev pub as_told : FaultInXml → Fault
as_told f = record { rule = f.broken.rule; place = f.place; path = f.broken.path }
