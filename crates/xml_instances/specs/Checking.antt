-- What a checker of an instance was given, and what it answers.
use Rattle.std.specs.Prelude.{◌≡◌, ◌≢◌, ℕ, List, [], ◌∷◌, ◌++◌, ◌+◌, ◌≤◌, map, length, take, IfOk, IfErr, Option, Some, None, Result, Ok, Err}
use Rattle.lexical_core.specs.declared.rule.Rule.TheVariants.{Truncated}
use Rattle.lexical_core.specs.Tree.{Item}
use Rattle.data_types.specs.Value.{Value, Piece}
use Rattle.markup.specs.Events.{Placed}
use Rattle.markup.specs.EventItems.{item_of}
use Rattle.markup.specs.Reading.{HasTaken, bytes_taken}
use Rattle.markup.specs.declared.event.Event.{Event}
use Rattle.markup.specs.declared.reader.MarkFault.{MarkFault as MarkTold}
use Rattle.fragments.specs.Fragment.{fragment}
use Rattle.message_model.specs.Message.{Message}
use Rattle.message_model.specs.Tables.{Tables, message_of, types_of, pieces_of}
use Rattle.message_model.specs.declared.fault.Fault.{Fault as Told}
use Rattle.message_model.specs.declared.fault.InstanceError.{InstanceError}
use Rattle.message_model.specs.declared.fault.InstanceError.TheVariants.{Refused, Memory}
use Rattle.xml_instances.specs.Levels.{Level, levels_over, levels_path}
use Rattle.xml_instances.specs.EventFaults.{Broken, AreFine, EventFault}
use Rattle.xml_instances.specs.XmlFaults.{FaultInXml, XmlFault, items, items_told}
use Rattle.xml_instances.specs.SpellsXml.{SpellsXml}
use Rattle.xml_instances.specs.Open.{IsOpen, AreMade}
use Rattle.xml_instances.specs.Keeping.{IsBuilt}
use Rattle.xml_instances.specs.declared.content.Content.{Content}
use Rattle.xml_instances.specs.declared.opened.Refusal.{Refusal}
use Rattle.xml_instances.specs.declared.opened.Refusal.TheVariants.{Breaks, Memory as NoMemory}
use Rattle.xml_instances.specs.declared.checker.XmlChecker.{XmlChecker}

-- a fault that is told, as one of the definitions
abbrev pub xml_fault_of : Told → FaultInXml
xml_fault_of f = record { broken = record { rule = f.rule; path = f.path }; place = f.place }

abbrev pub items_in_events : List Event → List Item
items_in_events events = map (λ (e : Event). item_of e.what) events

-- the checker goes on: it was given these bytes, and none of their events breaks a rule
pub record HasFedXml (checker : XmlChecker) (T : Tables) (bytes : List ℕ) : Type 0 where
  pub told : List Placed
  pub given : HasTaken checker.reader bytes told
  pub counted : bytes_taken checker.reader ≡ length bytes
  pub placed : checker.place ≡ length bytes
  pub fine : AreFine (message_of T) [] (items_told told)
  pub open_are : IsOpen checker.content (message_of T) (levels_over (message_of T) [] (items_told told))
  pub built : IsBuilt checker.content.pieces T (items_told told)
  pub none : checker.events ≡ []
  pub sound : checker.failed ≡ None

-- what the checker keeps for leaves is for the types of these tables, as it is of one that was made for their message
abbrev pub IsXmlCheckerFor : XmlChecker → Tables → Type 0
IsXmlCheckerFor checker T = AreMade (types_of T) checker.content

-- how many bytes the checker was given
abbrev pub xml_bytes_fed : XmlChecker → ℕ
xml_bytes_fed checker = bytes_taken checker.reader

-- the answer that it gives for good, where there is one
abbrev pub xml_failure : XmlChecker → Option InstanceError
xml_failure checker = checker.failed

-- what the comparison of the events that were told together answers: all break no rule, or the first that breaks one
pub record BreaksAt (m : Message ℕ) (ls : List (Level ℕ)) (events : List Event) (b : Broken) (place : ℕ) : Type 0 where
  pub before : List Event
  pub event : Event
  pub behind : List Event
  pub events_are : events ≡ before ++ event ∷ behind
  pub fine : AreFine m ls (items_in_events before)
  pub broken : EventFault m (levels_over m ls (items_in_events before)) (item_of event.what) (Some b)
  pub place_is : place ≡ event.place

-- a refusal of an event at the place, as it is told
abbrev pub IsTold : Refusal → ℕ → InstanceError → Type 0
IsTold (Breaks rule path) place (Refused fault) = (fault.rule ≡ rule) × (fault.path ≡ path) × (fault.place ≡ place)
IsTold NoMemory place Memory = Unit {0}
IsTold refusal place e = ⊥

abbrev pub AreTaken : {T : Type 0} → Message ℕ → List (Level ℕ) → List Event → Content → Result T InstanceError → Type 0
AreTaken m ls events content (Ok x) = AreFine m ls (items_in_events events) × IsOpen content m (levels_over m ls (items_in_events events))
AreTaken m ls events content (Err (Refused fault)) = BreaksAt m ls events (xml_fault_of fault).broken fault.place
AreTaken m ls events content (Err Memory) = Unit {0}

-- The bytes have this first fault, whatever follows them, and it is not that they end too early.
pub record ShowsXmlFault (T : Tables) (bytes : List ℕ) (fault : Told) : Type 0 where
  pub has_fault : (behind : List ℕ) → XmlFault (message_of T) (bytes ++ behind) (xml_fault_of fault)
  pub no_cut : fault.rule ≢ Truncated

-- a fault of markup, as it is told where these elements are open
abbrev pub IsMarkTold : MarkTold → List (Level ℕ) → InstanceError → Type 0
IsMarkTold mark ls (Refused fault) = (fault.rule ≡ mark.rule) × (fault.path ≡ levels_path ls) × (fault.place ≡ mark.place)
IsMarkTold mark ls Memory = Unit {0}

-- why a checker does not go on
abbrev pub XmlStops : Tables → List ℕ → InstanceError → Type 0
XmlStops T bytes (Refused fault) = ShowsXmlFault T bytes fault
XmlStops T bytes Memory = Unit {0}

-- A front of the piece is taken, of so many bytes.
pub record TakesXmlFront (T : Tables) (old new : XmlChecker) (piece : List ℕ) (result : Result ℕ InstanceError) : Type 0 where
  pub ok : (bytes : List ℕ) → HasFedXml old T bytes → IfOk result (λ n. HasFedXml new T (bytes ++ take n piece))
  pub err : (bytes : List ℕ) → HasFedXml old T bytes → IfErr result (λ e. XmlStops T (bytes ++ piece) e)
  pub within : IfOk result (λ n. n ≤ length piece)
  pub count : IfOk result (λ n. xml_bytes_fed new ≡ xml_bytes_fed old + n)

-- the bytes spell an instance
abbrev pub IsSpelledXml : Tables → List ℕ → Type 0
IsSpelledXml T bytes = (v : Value) × SpellsXml (message_of T) bytes v

-- the same, where these are their events
abbrev pub IsSpelledBy : Tables → List ℕ → List Item → Type 0
IsSpelledBy T bytes told = (v : Value) × (s : SpellsXml (message_of T) bytes v) × (items s.tokens ≡ told)

-- the bytes spell an instance with these pieces
abbrev pub IsSpelledAs : Tables → List ℕ → List Piece → Type 0
IsSpelledAs T bytes pieces = (v : Value) × SpellsXml (message_of T) bytes v × (pieces ≡ pieces_of fragment T v)

-- why the bytes are refused at their end
abbrev pub XmlEndsAs : Tables → List ℕ → InstanceError → Type 0
XmlEndsAs T bytes (Refused fault) = XmlFault (message_of T) bytes (xml_fault_of fault)
XmlEndsAs T bytes Memory = Unit {0}
