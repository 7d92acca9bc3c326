-- The first faults of DER as they are told, and what readers tell of them.
use Rattle.std.proofs.Common.{◌≡◌, ℕ, List, Result, Ok, Err, IfErr, ap}
use Rattle.lexical_core.specs.declared.rule.Rule.TheVariants.{DerTruncated}
use Rattle.message_model.specs.Tables.{Tables}
use Rattle.message_model.specs.declared.fault.Fault.{Fault}
use Rattle.message_model.specs.declared.fault.InstanceError.{InstanceError}
use Rattle.message_model.specs.declared.fault.InstanceError.TheVariants.{Refused, Memory}
use Rattle.der_model.specs.Faults.{FaultInDer}
use Rattle.der_codec.specs.Checking.{DerStops, der_fault_of}
use Rattle.transcoder.specs.Checked.{IsDerFault}
use Rattle.transcoder.specs.inner.Reading.{StopsAt}

pub stops_at : {W : Type 0} (T : Tables) (bytes : List ℕ) (r : Result W InstanceError) → IfErr r (λ e. DerStops T bytes e) → IfErr r (λ e. StopsAt (IsDerFault T) DerTruncated bytes e)
stops_at T bytes (Ok x) h = tt
stops_at T bytes (Err (Refused fault)) h = record { has_fault = h.has_fault; no_cut = h.no_cut }
stops_at T bytes (Err Memory) h = tt

-- a fault as it is told is known by what it is
pub told_once : (f g : Fault) → der_fault_of f ≡ der_fault_of g → f ≡ g
told_once f g same =
    let rules : f.rule ≡ g.rule = ap (λ (x : FaultInDer). x.rule) same in
    let paths : f.path ≡ g.path = ap (λ (x : FaultInDer). x.path) same in
    let places : f.place ≡ g.place = ap (λ (x : FaultInDer). x.place) same in
    λ i. record { rule = rules i; place = places i; path = paths i }

abbrev pub as_told : FaultInDer → Fault
as_told f = record { rule = f.rule; place = f.place; path = f.path }
