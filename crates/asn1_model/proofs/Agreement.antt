-- A module and its message have the same bytes.
use Rattle.std.proofs.Common.{◌≡◌, ℕ, List, refl, sym, ap, subst, ◌∙◌, codes}
use Rattle.lexical_core.specs.Tree.{Tree}
use Rattle.data_types.specs.Value.{Value}
use Rattle.data_types.specs.Value as value
use Rattle.facets.specs.declared.simple.Simple.{Simple}
use Rattle.der_octets.specs.Octets.{Nothing, Constructed, universal, octets}
use Rattle.reference_check.specs.Forms.{Form, Slot}
use Rattle.reference_check.specs.Forms as form
use Rattle.message_model.specs.Admits.{AdmitsAs}
use Rattle.message_model.specs.Tables.{Tables, types_of, message_of}
use Rattle.der_model.specs.DerMessage.{DerMessage, in_der}
use Rattle.der_model.specs.Der.{inner_of, body, der_of, SpellsDer}
use Rattle.asn1_model.specs.Values.{AsnValue, One, AsnHas, contents, values_of_item, asn_der, find_asn_type}
use Rattle.asn1_model.specs.InstanceValues.{instance_value}
use Rattle.asn1_model.specs.ModuleOf.{module_of, asn_name_of, shape_of}
use Rattle.asn1_model.specs.Sound.{IsSoundAsn, MayBeReferredTo}
use Rattle.asn1_model.specs.Agreement.{EncodesAs, AdmitsTheSame, HasInstanceValue, HasNoOthers}
use Rattle.asn1_model.proofs.Typed.{typed}
use Rattle.asn1_model.proofs.DocumentName.{document_named}
use Rattle.asn1_model.proofs.Instance.{agrees}
use Rattle.asn1_model.proofs.Decoded.{comes}

module _ (T : Tables) (sound : IsSoundAsn T) where
  document : find_asn_type (codes "Document") (module_of T).types ≡ shape_of (asn_name_of T) (types_of T 0)
  document = ap (λ n. find_asn_type n (module_of T).types) (sym (document_named T sound.document)) ∙ typed T sound.few 0

  module _ (fragment : Tree → List ℕ) where
    abbrev message : DerMessage ℕ
    message = in_der fragment (message_of T)

    sequence_item : (fs : List (Slot ℕ)) (v : Value) → AdmitsAs (types_of T) (form.Sequence fs) v
        → values_of_item (shape_of (asn_name_of T) (form.Sequence fs)) (body message (form.Sequence fs) v) Nothing ≡ Constructed (universal 16) (inner_of (body message (form.Sequence fs) v)) Nothing
    sequence_item fs (value.Component ks) a = refl
    sequence_item fs v a = absurd a

    root_item : (f : Form ℕ Simple) (v : Value) → (fs : List (Slot ℕ)) × (f ≡ form.Sequence fs) → AdmitsAs (types_of T) f v
        → values_of_item (shape_of (asn_name_of T) f) (body message f v) Nothing ≡ Constructed (universal 16) (inner_of (body message f v)) Nothing
    root_item f v (fs, e) a =
        subst (λ x. values_of_item (shape_of (asn_name_of T) x) (body message x v) Nothing ≡ Constructed (universal 16) (inner_of (body message x v)) Nothing) (sym e)
        (sequence_item fs v (subst (λ x. AdmitsAs (types_of T) x v) e a))

    encodes : (v : Value) → AdmitsAs (types_of T) (types_of T 0) v → EncodesAs fragment T (der_of message v) (instance_value fragment T v)
    encodes v a =
        let both = agrees MayBeReferredTo message (asn_name_of T) (module_of T) (λ p may. typed T sound.few p) sound.forms (types_of T 0) (sound.forms 0) v a in
        record {
          has = subst (λ s. AsnHas fragment (module_of T) (One s) (instance_value fragment T v)) (sym document) both.0;
          der = sym (
              ap (λ s. octets (values_of_item s (contents (module_of T) (One s) (instance_value fragment T v)) Nothing)) document
              ∙ ap octets (ap (λ b. values_of_item (shape_of (asn_name_of T) (types_of T 0)) b Nothing) both.1 ∙ root_item (types_of T 0) v sound.root a));
        }

    instance_encoded : (bytes : List ℕ) (v : Value) → SpellsDer message bytes v → EncodesAs fragment T bytes (instance_value fragment T v)
    instance_encoded bytes v (a, e) = subst (λ b. EncodesAs fragment T b (instance_value fragment T v)) (sym e) (encodes v a)

    value_decoded : (bytes : List ℕ) (a : AsnValue) → EncodesAs fragment T bytes a → (v : Value) × SpellsDer message bytes v × (instance_value fragment T v ≡ a)
    value_decoded bytes a h =
        go (comes MayBeReferredTo message (asn_name_of T) (module_of T) (λ p may. typed T sound.few p) sound.forms (types_of T 0) (sound.forms 0) a
        (subst (λ s. AsnHas fragment (module_of T) (One s) a) document h.has))
      where
        go : (v : Value) × AdmitsAs (types_of T) (types_of T 0) v × (instance_value fragment T v ≡ a) → (v : Value) × SpellsDer message bytes v × (instance_value fragment T v ≡ a)
        go (v, admits, same) = (v, (admits, h.der ∙ (ap (asn_der (module_of T) (codes "Document")) (sym same) ∙ sym (encodes v admits).der)), same)

  pub has_instance_value : HasInstanceValue T
  has_instance_value fragment bytes v spells = instance_encoded fragment bytes v spells

  pub has_no_others : HasNoOthers T
  has_no_others fragment bytes a h = value_decoded fragment bytes a h

  pub admits_the_same : AdmitsTheSame T
  admits_the_same fragment bytes = (
    λ (a, h). (let x = has_no_others fragment bytes a h in (x.0, x.1)),
    λ (v, spells). (instance_value fragment T v, has_instance_value fragment bytes v spells),
  )
