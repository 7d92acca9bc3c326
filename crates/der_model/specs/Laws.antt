-- What the laws on the DER of a message say.
use Rattle.std.specs.Prelude.{◌≡◌, ◌≢◌, ◌↔◌, ℕ, ◌<◌, ◌^◌, List, [], ◌++◌, length, Result, Ok, Err}
use Rattle.lexical_core.specs.declared.rule.Rule.TheVariants.{DerTruncated}
use Rattle.data_types.specs.Value.{Value}
use Rattle.fragments.specs.Fragment.{fragment}
use Rattle.message_model.specs.Sound.{AreSound, HaveCodes, HaveSortedCodes, HasRoot}
use Rattle.message_model.specs.Tables.{Tables, types_of}
use Rattle.der_model.specs.DerMessage.{DerMessage, der_message}
use Rattle.der_model.specs.Der.{SpellsDer}
use Rattle.der_model.specs.Faults.{FaultInDer, DerFault, IsWholeDer}
use Rattle.der_model.specs.Sound.{TellsApart, IsSoundDer}

-- What bytes are: the DER of an instance that the message admits, or bytes with a first fault.
abbrev pub DerAnswer : {P : Type 0} → DerMessage P → List ℕ → Result Value FaultInDer → Type 0
DerAnswer m bytes (Ok v) = SpellsDer m bytes v
DerAnswer m bytes (Err fault) = DerFault m bytes fault

-- Bytes are the DER of at most one instance.
abbrev pub OneValue : {P : Type 0} → DerMessage P → Type 0
OneValue m = (bytes : List ℕ) (one two : Value) → SpellsDer m bytes one → SpellsDer m bytes two → one ≡ two

-- No DER of an instance begins that of another.
abbrev pub NoProperDerFront : {P : Type 0} → DerMessage P → Type 0
NoProperDerFront m = (front more : List ℕ) (one two : Value) → SpellsDer m front one → SpellsDer m (front ++ more) two → (one ≡ two) × (more ≡ [])

-- Bytes have at most one first fault.
abbrev pub OneDerFault : {P : Type 0} → DerMessage P → Type 0
OneDerFault m = (bytes : List ℕ) (one two : FaultInDer) → DerFault m bytes one → DerFault m bytes two → one ≡ two

-- The DER of an instance has no fault.
abbrev pub SpelledHasNoDerFault : {P : Type 0} → DerMessage P → Type 0
SpelledHasNoDerFault m = (bytes : List ℕ) (v : Value) (fault : FaultInDer) → length bytes < 2 ^ 63 → SpellsDer m bytes v → DerFault m bytes fault → ⊥

-- Whole bytes, and these alone, are the DER of an instance.
abbrev pub WholeIsSpelled : {P : Type 0} → DerMessage P → Type 0
WholeIsSpelled m = (bytes : List ℕ) → length bytes < 2 ^ 63 → IsWholeDer m bytes ↔ ((v : Value) × SpellsDer m bytes v)

-- Bytes have at most one answer.
abbrev pub OneAnswer : {P : Type 0} → DerMessage P → Type 0
OneAnswer m = (bytes : List ℕ) (one two : Result Value FaultInDer) → length bytes < 2 ^ 63 → DerAnswer m bytes one → DerAnswer m bytes two → one ≡ two

-- A fault stays, whatever follows the bytes, but for one that the bytes end too early.
abbrev pub FaultStays : {P : Type 0} → DerMessage P → Type 0
FaultStays m = (bytes more : List ℕ) (fault : FaultInDer) → fault.rule ≢ DerTruncated → DerFault m bytes fault → DerFault m (bytes ++ more) fault

-- What the laws ask of a message holds of that of these tables: of each message that breaks no rule, since canonical fragments tell trees apart.
abbrev pub TablesAreSound : Type 0
TablesAreSound = (T : Tables) → AreSound (types_of T) → HaveCodes (types_of T) → HaveSortedCodes (types_of T) → HasRoot (types_of T) → TellsApart fragment → IsSoundDer (der_message T)
