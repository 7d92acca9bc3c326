-- What the laws of this crate say.
use Rattle.std.specs.Prelude.{◌≡◌, ◌⊎◌, ℕ, List}
use Rattle.data_types.specs.Value.{Value}
use Rattle.message_model.specs.Tables.{Tables, message_of, types_of}
use Rattle.message_model.specs.Sound.{AreSound, HaveCodes, HaveSortedCodes, HasRoot}
use Rattle.message_model.specs.declared.fault.Fault.{Fault}
use Rattle.der_model.specs.DerMessage.{der_message}
use Rattle.der_model.specs.Der.{SpellsDer}
use Rattle.der_model.specs.SomeAnswers.{HaveKinds}
use Rattle.xml_instances.specs.SpellsXml.{SpellsXml}
use Rattle.transcoder.specs.Checked.{IsAccepted, HasXmlFault, IsDerAccepted, HasDerFault}

-- the types are those of a message that breaks no rule
abbrev pub AreSoundTypes : Tables → Type 0
AreSoundTypes T = AreSound (types_of T) × HaveCodes (types_of T) × HaveSortedCodes (types_of T) × HasRoot (types_of T)

-- the bytes spell at most one value as XML, have at most one first fault, and none where they are accepted
pub record HaveOneVerdict (T : Tables) (bytes : List ℕ) : Type 0 where
  pub value : (v w : Value) → SpellsXml (message_of T) bytes v → SpellsXml (message_of T) bytes w → v ≡ w
  pub one : (f g : Fault) → HasXmlFault T bytes f → HasXmlFault T bytes g → f ≡ g
  pub none : (f : Fault) → IsAccepted T bytes → HasXmlFault T bytes f → ⊥

-- Bytes are accepted as XML or have one first fault, and not both.
abbrev pub OneVerdict : Type 0
OneVerdict = (T : Tables) (bytes : List ℕ) → AreSoundTypes T → HaveOneVerdict T bytes

-- No bytes are neither accepted nor have a first fault.
abbrev pub SomeVerdict : Type 0
SomeVerdict = (T : Tables) (bytes : List ℕ) → AreSoundTypes T → ¬ (¬ (IsAccepted T bytes ⊎ ((f : Fault) × HasXmlFault T bytes f)))

-- the same of DER
pub record HaveOneDerVerdict (T : Tables) (bytes : List ℕ) : Type 0 where
  pub value : (v w : Value) → SpellsDer (der_message T) bytes v → SpellsDer (der_message T) bytes w → v ≡ w
  pub one : (f g : Fault) → HasDerFault T bytes f → HasDerFault T bytes g → f ≡ g
  pub none : (f : Fault) → IsDerAccepted T bytes → HasDerFault T bytes f → ⊥

abbrev pub OneDerVerdict : Type 0
OneDerVerdict = (T : Tables) (bytes : List ℕ) → AreSoundTypes T → HaveOneDerVerdict T bytes

abbrev pub SomeDerVerdict : Type 0
SomeDerVerdict = (T : Tables) (bytes : List ℕ) → AreSoundTypes T → HaveKinds (types_of T) → ¬ (¬ (IsDerAccepted T bytes ⊎ ((f : Fault) × HasDerFault T bytes f)))
