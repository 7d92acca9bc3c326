-- That no bytes are without an answer, and what this asks of a message beside its being sound.
use Rattle.std.specs.Prelude.{◌≡◌, ◌⊎◌, ℕ, List, Some, Result, slice_get}
use Rattle.lexical_core.specs.declared.rule.Rule.{Rule}
use Rattle.data_types.specs.Leaf.{Leaf}
use Rattle.data_types.specs.Value.{Value}
use Rattle.facets.specs.declared.simple.Simple.{Simple}
use Rattle.repo_objects.specs.Repository.{Contents}
use Rattle.reference_check.specs.Forms.{Graph, Form, Slot, form_slots}
use Rattle.reference_check.specs.Forms as form
use Rattle.message_model.specs.Ready.{IsReady}
use Rattle.message_model.specs.Compiled.{IsReachedList, Compiles}
use Rattle.message_model.specs.Tables.{Tables, types_of}
use Rattle.der_model.specs.DerMessage.{DerMessage}
use Rattle.der_model.specs.LeafContents.{ContentsUnder}
use Rattle.der_model.specs.Der.{SpellsDer}
use Rattle.der_model.specs.Faults.{FaultInDer, DerFault}

-- there is a type, of a kind that instances have
abbrev pub HasKind : {P L : Type 0} → Form P L → Type 0
HasKind form.LeftOut = ⊥
HasKind form.Missing = ⊥
HasKind f = Unit {0}

-- Each element leads to such a type.
abbrev pub HaveKinds : {P L : Type 0} → Graph P L → Type 0
HaveKinds {P} types = (p : P) (k : ℕ) (s : Slot P) → slice_get (form_slots (types p)) k ≡ Some s → HasKind (types s.target)

-- Each element leads to such a type in the compiled types of a message that breaks no rule.
abbrev pub CompiledHaveKinds : Type 0
CompiledHaveKinds = (R : Contents) (m : List ℕ) (ids : List (List ℕ)) (T : Tables) → IsReady R m → IsReachedList R m ids → Compiles R m ids T → HaveKinds (types_of T)

-- No contents octets are without an answer under a simple type.
abbrev pub SomeContents : Type 0
SomeContents = (simple : Simple) (octets : List ℕ) → ¬ (¬ ((one : Result Leaf Rule) × ContentsUnder simple octets one))

-- No bytes are neither the DER of an instance nor have a first fault.
abbrev pub DerSpelledOrFaulty : {P : Type 0} → DerMessage P → Type 0
DerSpelledOrFaulty m = (bytes : List ℕ) → ¬ (¬ (((v : Value) × SpellsDer m bytes v) ⊎ ((f : FaultInDer) × DerFault m bytes f)))
