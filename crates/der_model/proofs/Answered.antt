-- The laws of DER and its first faults.
use Rattle.std.proofs.Common.{◌≡◌, ℕ, ◌^◌, ◌<◌, List, [], ◌++◌, length, refl, sym, ap, ◌∙◌, subst, arith}
use Rattle.std.specs.Prelude.{Ok, Err}
use Rattle.data_types.specs.Value.{Value}
use Rattle.data_types.specs.Value as value
use Rattle.der_octets.specs.Octets.{universal, Values, Nothing, Constructed, octets}
use Rattle.der_octets.proofs.OneReading.{octets_same, no_front}
use Rattle.reference_check.specs.Forms as form
use Rattle.message_model.specs.Admits.{AdmitsAs}
use Rattle.der_model.specs.DerMessage.{DerMessage}
use Rattle.der_model.specs.Der.{Inner, body, inner_of, der_values, SpellsDer}
use Rattle.der_model.specs.Faults.{IsWholeDer}
use Rattle.der_model.specs.Sound.{IsSoundDer}
use Rattle.der_model.proofs.SoundMessages.{are_sorted, no_options, few_slots}
use Rattle.der_model.specs.Laws.{OneValue, NoProperDerFront, OneDerFault, SpelledHasNoDerFault, OneAnswer, WholeIsSpelled}
use Rattle.der_model.proofs.OneFault as faults
use Rattle.der_model.specs.inner.Conforms.{Conforms}
use Rattle.der_model.specs.Structures.{form_structure}
use Rattle.der_model.proofs.Decoded.{fields_from}
use Rattle.der_model.proofs.WholeValues.{whole_of_values, values_of_whole}
use Rattle.der_model.proofs.Spelled.{instance_conforms}
use Rattle.der_model.proofs.OneValue.{body_same}
use Rattle.der_model.proofs.ShortTags.{value_short, short_lengths, inner_short}

pub inner_same : (a b : Values) → Constructed (universal 16) a Nothing ≡ Constructed (universal 16) b Nothing → a ≡ b
inner_same a b e = cc

-- values of the root with the same inner values are one
root_same : {P : Type 0} (m : DerMessage P) → IsSoundDer m → (v w : Value) → AdmitsAs m.forms (m.forms m.root) v → AdmitsAs m.forms (m.forms m.root) w → inner_of (body m (m.forms m.root) v) ≡ inner_of (body m (m.forms m.root) w) → v ≡ w
root_same m sound v w a b e =
    let fs = sound.root.0 in
    let is = sound.root.1 in
    go v w (subst (λ f. AdmitsAs m.forms f v) is a) (subst (λ f. AdmitsAs m.forms f w) is b) (subst (λ f. inner_of (body m f v) ≡ inner_of (body m f w)) is e)
  where
    go : (v w : Value) → AdmitsAs m.forms (form.Sequence sound.root.0) v → AdmitsAs m.forms (form.Sequence sound.root.0) w → inner_of (body m (form.Sequence sound.root.0) v) ≡ inner_of (body m (form.Sequence sound.root.0) w) → v ≡ w
    go (value.Component ks) (value.Component ls) a b e = body_same m sound.fragments (no_options m sound) m.root (form.Sequence sound.root.0) (value.Component ks) (value.Component ls) sound.root.1 a b (ap Inner e)
    go (value.Component ks) w a b e = absurd b
    go v w a b e = absurd a

pub one_value : {P : Type 0} (m : DerMessage P) → IsSoundDer m → OneValue m
one_value m sound bytes v w p q = root_same m sound v w p.0 q.0 (inner_same _ _ (octets_same (der_values m v) (der_values m w) (sym p.1 ∙ q.1)))

pub no_proper_front : {P : Type 0} (m : DerMessage P) → IsSoundDer m → NoProperDerFront m
no_proper_front m sound front more v w p q =
    let r = no_front (der_values m v) (der_values m w) more refl refl (ap (λ z. z ++ more) (sym p.1) ∙ q.1) in
    (root_same m sound v w p.0 q.0 (inner_same _ _ r.0), r.1)

pub one_fault : {P : Type 0} (m : DerMessage P) → IsSoundDer m → OneDerFault m
one_fault m sound bytes f g p q = faults.one_fault m (are_sorted m sound) bytes f g p q

-- the DER of an instance is whole
pub spelled_is_whole : {P : Type 0} (m : DerMessage P) → IsSoundDer m → (bytes : List ℕ) (v : Value) → length bytes < 2 ^ 63 → SpellsDer m bytes v → IsWholeDer m bytes
spelled_is_whole m sound bytes v low p =
    let inner = inner_of (body m (m.forms m.root) v) in
    let tags = inner_short (body m (m.forms m.root) v) (value_short m (few_slots m sound) m.root (m.forms m.root) v refl p.0) in
    let small : length (octets (der_values m v)) < 2 ^ 63 = subst (λ z. length z < 2 ^ 63) p.1 low in
    subst (IsWholeDer m) (sym p.1) (whole_of_values m inner (instance_conforms m (no_options m sound) sound.root.0 v sound.root.1 p.0) (short_lengths (der_values m v) (omega arith, tags, tt) small))

-- and has no fault
pub spelled_has_none : {P : Type 0} (m : DerMessage P) → IsSoundDer m → SpelledHasNoDerFault m
spelled_has_none m sound bytes v fault low p f = faults.whole_has_none m (are_sorted m sound) bytes fault (spelled_is_whole m sound bytes v low p) f

-- bytes have one answer
pub one_answer : {P : Type 0} (m : DerMessage P) → IsSoundDer m → OneAnswer m
one_answer m sound bytes (Ok v) (Ok w) low p q = ap Ok (one_value m sound bytes v w p q)
one_answer m sound bytes (Ok v) (Err f) low p q = absurd (spelled_has_none m sound bytes v f low p q)
one_answer m sound bytes (Err f) (Ok w) low p q = absurd (spelled_has_none m sound bytes w f low q p)
one_answer m sound bytes (Err f) (Err g) low p q = ap Err (one_fault m sound bytes f g p q)

-- whole bytes spell an instance
pub whole_spells : {P : Type 0} (m : DerMessage P) → IsSoundDer m → (bytes : List ℕ) → IsWholeDer m bytes → (v : Value) × SpellsDer m bytes v
whole_spells {P} m sound bytes whole =
    let r = values_of_whole m bytes whole in
    let fs = sound.root.0 in
    let root = sound.root.1 in
    let conf = subst (λ f. Conforms m (form_structure m.forms m.root f) [] r.0) root r.1 in
    let found = fields_from m sound m.root fs 0 [] r.0 root refl conf in
    let v = value.Component found.children in
    let admits : AdmitsAs m.forms (form.Sequence fs) v = (record { ordered = found.ordered; within = λ k s f. found.within k s (omega arith) f }, found.admits) in
    let written : r.0 ≡ inner_of (body m (form.Sequence fs) v) = found.written in (
      v,
      (
        subst (λ f. AdmitsAs m.forms f v) (sym root) admits,
        r.3 ∙ ap (λ z. octets (Constructed (universal 16) z Nothing)) (written ∙ ap (λ f. inner_of (body m f v)) (sym root)),
      ),
    )

pub whole_is_spelled : {P : Type 0} (m : DerMessage P) → IsSoundDer m → WholeIsSpelled m
whole_is_spelled m sound bytes low = (λ w. whole_spells m sound bytes w, λ (v, spelled). spelled_is_whole m sound bytes v low spelled)
