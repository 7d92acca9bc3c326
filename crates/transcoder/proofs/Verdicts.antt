-- Bytes are an instance or have one first fault, and not both.
use Rattle.std.proofs.Common.{◌≡◌, ◌⊎◌, inl, inr, ℕ, ◌≤◌, List, length, arith}
use Rattle.lexical_core.specs.declared.rule.Rule.TheVariants.{Truncated, DerTruncated}
use Rattle.data_types.specs.Value.{Value}
use Rattle.respell.specs.Laws.{OneTree}
use Rattle.message_model.specs.Tables.{Tables, message_of}
use Rattle.message_model.specs.declared.fault.Fault.{Fault}
use Rattle.der_model.specs.Der.{SpellsDer}
use Rattle.der_model.specs.DerMessage.{DerMessage, der_message}
use Rattle.der_model.specs.Faults.{FaultInDer, DerFault}
use Rattle.der_model.specs.Laws.{OneValue, OneDerFault, SpelledHasNoDerFault, TablesAreSound}
use Rattle.der_model.specs.SomeAnswers.{HaveKinds, DerSpelledOrFaulty}
use Rattle.der_model.specs.Sound.{IsSoundDer}
use Rattle.der_codec.specs.Checking.{IsSpelledDer, der_fault_of}
use Rattle.xml_instances.specs.Checking.{IsSpelledXml, xml_fault_of}
use Rattle.xml_instances.specs.Laws.{OneSpelled, OneXmlFault, SpelledHasNoXmlFault, XmlSpelledOrFaulty}
use Rattle.xml_instances.specs.SpellsXml.{SpellsXml}
use Rattle.xml_instances.specs.XmlFaults.{FaultInXml, XmlFault}
use Rattle.transcoder.specs.Checked.{IsXmlFault, IsDerFault}
use Rattle.transcoder.specs.Limited.{most_bytes}
use Rattle.transcoder.specs.Laws.{AreSoundTypes, OneVerdict, SomeVerdict, OneDerVerdict, SomeDerVerdict}
use Rattle.transcoder.proofs.Limits.{accepted_has_none, one_limited, some_limited}
use Rattle.transcoder.proofs.DerFaults as der
use Rattle.transcoder.proofs.XmlFaults as xml

-- ---- XML

pub one_verdict : OneSpelled → OneXmlFault → SpelledHasNoXmlFault → OneVerdict
one_verdict spelled one none T bytes (sound, money, sorted, root) = record {
  value = λ v w s r. spelled (message_of T) bytes v w sound sorted s r;
  one = one_limited (IsXmlFault T) (IsSpelledXml T) Truncated one_fault no_fault bytes;
  none = λ f (is, short) h. accepted_has_none (IsXmlFault T) (IsSpelledXml T) Truncated no_fault bytes f is short h;
}
  where
    one_fault : (b : List ℕ) (f g : Fault) → IsXmlFault T b f → IsXmlFault T b g → f ≡ g
    one_fault b f g h k = xml.told_once f g (one (message_of T) b (xml_fault_of f) (xml_fault_of g) h k)

    no_fault : (b : List ℕ) (f : Fault) → length b ≤ most_bytes → IsSpelledXml T b → IsXmlFault T b f → ⊥
    no_fault b f short (v, s) h = none (message_of T) b v (xml_fault_of f) sound s h

pub some_verdict : XmlSpelledOrFaulty → SomeVerdict
some_verdict some T bytes (sound, money, sorted, root) = some_limited (IsXmlFault T) (IsSpelledXml T) Truncated some_answer bytes
  where
    some_answer : (b : List ℕ) → ¬ (¬ (IsSpelledXml T b ⊎ ((f : Fault) × IsXmlFault T b f)))
    some_answer b lacks = some (message_of T) b sound money told
      where
        told : (((v : Value) × SpellsXml (message_of T) b v) ⊎ ((f : FaultInXml) × XmlFault (message_of T) b f)) → ⊥
        told (inl is) = lacks (inl is)
        told (inr (f, h)) = lacks (inr (xml.as_told f, h))

-- ---- DER

-- the message of types that are sound is sound
sound_message : OneTree → TablesAreSound → (T : Tables) → AreSoundTypes T → IsSoundDer (der_message T)
sound_message one_tree sound T (forms, codes, sorted, root) = sound T forms codes sorted root one_tree

pub one_der_verdict : OneTree → TablesAreSound → ((m : DerMessage ℕ) → IsSoundDer m → OneValue m) → ((m : DerMessage ℕ) → IsSoundDer m → OneDerFault m)
    → ((m : DerMessage ℕ) → IsSoundDer m → SpelledHasNoDerFault m) → OneDerVerdict
one_der_verdict one_tree tables value one none T bytes types = record {
  value = λ v w s r. value (der_message T) sound bytes v w s r;
  one = one_limited (IsDerFault T) (IsSpelledDer T) DerTruncated one_fault no_fault bytes;
  none = λ f (is, short) h. accepted_has_none (IsDerFault T) (IsSpelledDer T) DerTruncated no_fault bytes f is short h;
}
  where
    sound : IsSoundDer (der_message T)
    sound = sound_message one_tree tables T types

    one_fault : (b : List ℕ) (f g : Fault) → IsDerFault T b f → IsDerFault T b g → f ≡ g
    one_fault b f g h k = der.told_once f g (one (der_message T) sound b (der_fault_of f) (der_fault_of g) h k)

    no_fault : (b : List ℕ) (f : Fault) → length b ≤ most_bytes → IsSpelledDer T b → IsDerFault T b f → ⊥
    no_fault b f short (v, s) h = none (der_message T) sound b v (der_fault_of f) (omega (arith, short)) s h

pub some_der_verdict : OneTree → TablesAreSound → ((m : DerMessage ℕ) → IsSoundDer m → HaveKinds m.forms → DerSpelledOrFaulty m) → SomeDerVerdict
some_der_verdict one_tree tables some T bytes types kinds = some_limited (IsDerFault T) (IsSpelledDer T) DerTruncated some_answer bytes
  where
    some_answer : (b : List ℕ) → ¬ (¬ (IsSpelledDer T b ⊎ ((f : Fault) × IsDerFault T b f)))
    some_answer b lacks = some (der_message T) (sound_message one_tree tables T types) kinds b told
      where
        told : (((v : Value) × SpellsDer (der_message T) b v) ⊎ ((f : FaultInDer) × DerFault (der_message T) b f)) → ⊥
        told (inl is) = lacks (inl is)
        told (inr (f, h)) = lacks (inr (der.as_told f, h))
