-- What a module and the message it was made of have in common, however the fragments of envelopes are written.
use Rattle.std.specs.Prelude.{◌≡◌, ◌↔◌, List, ℕ, codes}
use Rattle.lexical_core.specs.Tree.{Tree}
use Rattle.data_types.specs.Value.{Value}
use Rattle.message_model.specs.Tables.{Tables, message_of}
use Rattle.der_model.specs.DerMessage.{in_der}
use Rattle.der_model.specs.Der.{SpellsDer}
use Rattle.asn1_model.specs.ModuleOf.{module_of}
use Rattle.asn1_model.specs.Values.{AsnValue, HasAsnValue, asn_der}
use Rattle.asn1_model.specs.InstanceValues.{instance_value}

-- the bytes are the DER of this value of the module's `Document`
pub record EncodesAs (fragment : Tree → List ℕ) (T : Tables) (bytes : List ℕ) (a : AsnValue) : Type 0 where
  pub has : HasAsnValue fragment (module_of T) (codes "Document") a
  pub der : bytes ≡ asn_der (module_of T) (codes "Document") a

-- The module's own meaning is that of the message: the same byte lists are the DER of a value.
abbrev pub AdmitsTheSame : Tables → Type 0
AdmitsTheSame T =
    (fragment : Tree → List ℕ) (bytes : List ℕ) → ((a : AsnValue) × EncodesAs fragment T bytes a) ↔ ((v : Value) × SpellsDer (in_der fragment (message_of T)) bytes v)

-- The value of the module is known from the instance.
abbrev pub HasInstanceValue : Tables → Type 0
HasInstanceValue T =
    (fragment : Tree → List ℕ) (bytes : List ℕ) (v : Value) → SpellsDer (in_der fragment (message_of T)) bytes v → EncodesAs fragment T bytes (instance_value fragment T v)

-- Each value of the module is that of an instance.
abbrev pub HasNoOthers : Tables → Type 0
HasNoOthers T =
    (fragment : Tree → List ℕ) (bytes : List ℕ) (a : AsnValue) → EncodesAs fragment T bytes a
    → (v : Value) × SpellsDer (in_der fragment (message_of T)) bytes v × (instance_value fragment T v ≡ a)
