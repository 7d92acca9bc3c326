-- The DER of a value that a message admits shows the pieces of the value.
use Rattle.std.proofs.Common.{◌≡◌, ℕ, zero, suc, ◌+◌, ◌<◌, false, List, [], ◌∷◌, length, Some, refl, sym, ap, ◌∙◌, subst, arith, inl, inr}
use Rattle.std.specs.Prelude.{slice_get}
use Rattle.lexical_core.specs.Decimals.{Number as DecimalNumber}
use Rattle.data_types.specs.Leaf.{Leaf}
use Rattle.data_types.specs.Leaf as leaf
use Rattle.data_types.specs.Value.{Value, Children, Piece}
use Rattle.data_types.specs.Value as value
use Rattle.facets.specs.LeafUnder.{Fits}
use Rattle.facets.specs.declared.simple.Simple.{Simple}
use Rattle.der_octets.specs.Octets.{context, Values, Nothing, Primitive, Constructed}
use Rattle.reference_check.specs.Forms.{Form, Slot, form_slots}
use Rattle.reference_check.specs.Forms as form
use Rattle.reference_check.specs.Words.{times, UpTo, IsOrderedFrom}
use Rattle.reference_check.proofs.Words.{times-replicate}
use Rattle.message_model.specs.Admits.{AdmitsAs, AdmitsChildren, FitsCode, numbers_of}
use Rattle.message_model.specs.Tables.{pieces, child_pieces}
use Rattle.message_model.specs.Sound.{IsNoOption}
use Rattle.der_model.specs.LeafContents.{leaf_contents}
use Rattle.der_model.specs.DerMessage.{DerMessage}
use Rattle.der_model.specs.Structures.{Instance, Component, LeafOf, Holds, structure, form_structure, number_structure}
use Rattle.der_model.specs.Structures as structures
use Rattle.der_model.specs.Der.{inner_of, slot_values, body, values_at}
use Rattle.der_model.specs.States.{Begins, identifier_answer}
use Rattle.der_model.specs.ShownPieces.{slot_elements, component_elements, IsLeafIn}
use Rattle.der_model.proofs.SoundMessages.{HaveNoOptions}
use Rattle.der_model.proofs.ContentsLaws.{one_leaf, written_contents}
use Rattle.der_model.proofs.Spelled.{at_most_one, chosen_is}
use Rattle.der_model.proofs.ShownParts.{framed, ValuesShow}
use Rattle.der_model.proofs.ShownSlots.{BodyShows, AlternativeShows, ShowsAs, sequence_finds}
use Rattle.der_model.proofs.ShownChildren.{ChildrenShow, SlotShows, slot_pieces, slot_shown}
use Rattle.der_model.proofs.ShownFields.{slots_shown, ordered_pieces, alike_pieces}

-- the leaf of contents that were written for one
same_leaf : (s : Simple) (l x : Leaf) → Fits s l → IsLeafIn {P = ℕ} (Holds (LeafOf s)) (leaf_contents l) x → l ≡ x
same_leaf s l x fits held = one_leaf s.kind s.codes (leaf_contents l) l x (written_contents s l fits).0 held.0

same_code : (m : DerMessage ℕ) (c : ℕ) (f : Form ℕ Simple) (l x : Leaf) → FitsCode f l → IsLeafIn (form_structure m.forms c f) (leaf_contents l) x → l ≡ x
same_code m c (form.Simple s) l x fits held = same_leaf s l x fits held
same_code m c (form.Sequence fs) l x fits held = absurd fits
same_code m c (form.Choice fs) l x fits held = absurd fits
same_code m c (form.Money d s) l x fits held = absurd fits
same_code m c form.Envelope l x fits held = absurd fits
same_code m c form.LeftOut l x fits held = absurd fits
same_code m c form.Missing l x fits held = absurd fits

begins_same : (j k : ℕ) (c d : Component ℕ) → Begins j c ≡ Begins k d → (j ≡ k) × (c ≡ d)
begins_same j k c d e = (cc, cc)

-- the code and the number of an amount
amount_shows : (m : DerMessage ℕ) (p c : ℕ) (s : Simple) (l : Leaf) (n : DecimalNumber) → m.forms p ≡ form.Money c s → FitsCode (m.forms c) l → Fits s (leaf.Number n)
    → BodyShows m (structures.Value p) (body m (form.Money c s) (value.Amount l n)) (value.Holds l ∷ value.Holds (leaf.Number n) ∷ [])
amount_shows m p c s l n at code number shown (k, d, x, more, e, held, (j, b, y, none, q, holds, end, told), is) =
    let one = begins_same 0 k _ d (subst (λ f. identifier_answer (form_structure m.forms p f) [] false (context 0) ≡ Begins k d) at e) in
    let two = begins_same 1 j _ b (subst (λ z. identifier_answer (form_structure m.forms p (form.Money c s)) (z ∷ []) false (context 1) ≡ Begins j b) (sym one.0)
    (subst (λ f. identifier_answer (form_structure m.forms p f) (k ∷ []) false (context 1) ≡ Begins j b) at q)) in
    let first : l ≡ x = same_code m c (m.forms c) l x code (subst (λ (z : Component ℕ). IsLeafIn (structure m z.spot) (leaf_contents l) x) (sym one.1) held) in
    let there : IsLeafIn (number_structure (m.forms p)) (leaf_contents (leaf.Number n)) y = subst (λ (z : Component ℕ). IsLeafIn (structure m z.spot) (leaf_contents (leaf.Number n)) y) (sym two.1) holds in
    let second : leaf.Number n ≡ y = same_leaf s (leaf.Number n) y number (subst (λ f. IsLeafIn (number_structure f) (leaf_contents (leaf.Number n)) y) at there) in
    is ∙ (ap (λ z. framed z (value.Holds x ∷ []) more) (no_elements k) ∙ (ap (λ z. value.Holds x ∷ z) (told ∙ (ap (λ z. framed z (value.Holds y ∷ []) none) (no_elements j) ∙ ap (λ z. value.Holds y ∷ z) end))
    ∙ (ap (λ z. value.Holds z ∷ value.Holds y ∷ []) (sym first) ∙ ap (λ z. value.Holds l ∷ value.Holds z ∷ []) (sym second))))
  where
    no_elements : (i : ℕ) → component_elements m (structures.Value p) i ≡ []
    no_elements i = ap (λ f. slot_elements p i (slice_get (form_slots f) i)) at

-- a component, by what its children show
sequence_shows : (m : DerMessage ℕ) (p : ℕ) (fs : List (Slot ℕ)) (ks : Children) → m.forms p ≡ form.Sequence fs → AdmitsAs m.forms (form.Sequence fs) (value.Component ks) → ChildrenShow m fs ks
    → BodyShows m (structures.Value p) (body m (form.Sequence fs) (value.Component ks)) (child_pieces m.fragment m.forms p ks)
sequence_shows m p fs ks at (word, admits) shows shown values =
    let slots : form_slots (m.forms p) ≡ fs = ap form_slots at in
    slots_shown m (structures.Value p) p fs (sequence_finds m p fs at) fs 0 (λ k s. values_at m k s ks) (λ k s. slot_pieces m p k s ks)
    (λ j n s e found.
    let there : slice_get fs n ≡ Some s = subst (λ z. slice_get fs z ≡ Some s) (let q : j ≡ n = omega (arith, e) in q) found in
    (there, times n (numbers_of ks), slot_shown m p fs n s ks there (λ single. at_most_one (times n (numbers_of ks)) s.max single (word.within n s there).1) shows))
    [] shown values
    ∙ ordered_pieces m p ks 0 fs (λ j n s e found. subst (λ z. slice_get z n ≡ Some s) (sym slots) (subst (λ z. slice_get fs z ≡ Some s) (let q : j ≡ n = omega (arith, e) in q) found))
    (subst (λ z. IsOrderedFrom 0 z (numbers_of ks)) (let q : length fs ≡ 0 + length fs = omega arith in q) word.ordered)

-- a choice, by what its children show
choice_shown : (m : DerMessage ℕ) → HaveNoOptions m → (p : ℕ) (fs : List (Slot ℕ)) (ks : Children) → m.forms p ≡ form.Choice fs → AdmitsAs m.forms (form.Choice fs) (value.Component ks) → ChildrenShow m fs ks
    → AlternativeShows m p fs (inner_of (body m (form.Choice fs) (value.Component ks))) (child_pieces m.fragment m.forms p ks)
choice_shown m opts p fs ks at ((k, zero, s, found, within, is), admits) shows = absurd (let some : 0 < s.min = subst IsNoOption at (opts p) k s found in omega (arith, within.0))
choice_shown m opts p fs ks at ((k, suc n, s, found, within, is), admits) shows =
    go (slot_shown m p fs k s ks found (λ single. at_most_one (times k (numbers_of ks)) s.max single (subst (λ z. UpTo z s.max) (sym counted) within.1)) shows)
  where
    counted : times k (numbers_of ks) ≡ suc n
    counted = ap (times k) is ∙ times-replicate k (suc n)

    go : SlotShows m p k s (times k (numbers_of ks)) (slot_values k s (values_at m k s ks) Nothing) (slot_pieces m p k s ks) → AlternativeShows m p fs (inner_of (body m (form.Choice fs) (value.Component ks))) (child_pieces m.fragment m.forms p ks)
    go (inl (none, nothing, silent)) = absurd (omega (arith, counted, none))
    go (inr (b, here, values, body_shows, told)) = record {
      number = k;
      slot = s;
      there = found;
      held = b;
      here = here;
      values = chosen_is fs (numbers_of ks) k n s (λ k s. values_at m k s ks) found is ∙ values;
      shows = body_shows;
      is = sym (alike_pieces m p k (suc n) s ks (ap (λ f. slice_get (form_slots f) k) at ∙ found) is) ∙ told;
    }

mutual
  pub value_shows : (m : DerMessage ℕ) → HaveNoOptions m → (p : ℕ) (f : Form ℕ Simple) (v : Value) → m.forms p ≡ f → AdmitsAs m.forms f v → ShowsAs m p f (body m f v) (pieces m.fragment m.forms p v)
  value_shows m opts p (form.Sequence fs) (value.Component ks) at admits = sequence_shows m p fs ks at admits (children_show m opts fs ks admits.1)
  value_shows m opts p (form.Choice fs) (value.Component ks) at admits = choice_shown m opts p fs ks at admits (children_show m opts fs ks admits.1)
  value_shows m opts p (form.Simple s) (value.Simple l) at fits = λ x held. ap (λ z. value.Holds z ∷ []) (same_leaf s l x fits (subst (λ f. IsLeafIn (form_structure m.forms p f) (leaf_contents l) x) at held))
  value_shows m opts p (form.Money c s) (value.Amount l n) at (code, number) = amount_shows m p c s l n at code number
  value_shows m opts p form.Envelope (value.External tree) at admits = λ x held. ap (λ z. value.Holds z ∷ []) (sym (subst (λ f. IsLeafIn (form_structure m.forms p f) (m.fragment tree) x) at held))
  value_shows m opts p (form.Sequence fs) v at a = absurd a
  value_shows m opts p (form.Choice fs) v at a = absurd a
  value_shows m opts p (form.Simple s) v at a = absurd a
  value_shows m opts p (form.Money c s) v at a = absurd a
  value_shows m opts p form.Envelope v at a = absurd a
  value_shows m opts p form.LeftOut v at a = absurd a
  value_shows m opts p form.Missing v at a = absurd a

  pub children_show : (m : DerMessage ℕ) → HaveNoOptions m → (fs : List (Slot ℕ)) (ks : Children) → AdmitsChildren m.forms fs ks → ChildrenShow m fs ks
  children_show m opts fs value.Nothing admits = tt
  children_show m opts fs (value.Child j v rest) ((t, there, a), more) = (
    λ s found. subst (λ (z : Slot ℕ). ShowsAs m z.target (m.forms z.target) (body m (m.forms z.target) v) (pieces m.fragment m.forms z.target v)) (let q : t ≡ s = cc in q) (value_shows m opts t.target (m.forms t.target) v refl a),
    children_show m opts fs rest more,
  )

-- the values of an instance are those of its root
instance_shown : (m : DerMessage ℕ) (vs : Values) (came : List ℕ) (shown : List Piece) → ValuesShow m Instance came vs shown → ValuesShow m (structures.Value m.root) came vs shown
instance_shown m Nothing came shown values = values
instance_shown m (Primitive tag o rest) came shown (k, c, l, more, e, held, others, is) = (k, c, l, more, e, held, instance_shown m rest (k ∷ came) more others, is)
instance_shown m (Constructed tag inner rest) came shown (k, c, here, more, e, values, others, is) = (k, c, here, more, e, values, instance_shown m rest (k ∷ came) more others, is)

pub root_shows : (m : DerMessage ℕ) → HaveNoOptions m → (fs : List (Slot ℕ)) (v : Value) (shown : List Piece) → m.forms m.root ≡ form.Sequence fs → AdmitsAs m.forms (m.forms m.root) v → ValuesShow m Instance [] (inner_of (body m (m.forms m.root) v)) shown
    → shown ≡ pieces m.fragment m.forms m.root v
root_shows m opts fs v shown root admits values =
    go v (subst (λ f. AdmitsAs m.forms f v) root admits) (subst (λ f. ValuesShow m (structures.Value m.root) [] (inner_of (body m f v)) shown) root (instance_shown m (inner_of (body m (m.forms m.root) v)) [] shown values))
  where
    go : (v : Value) → AdmitsAs m.forms (form.Sequence fs) v → ValuesShow m (structures.Value m.root) [] (inner_of (body m (form.Sequence fs) v)) shown → shown ≡ pieces m.fragment m.forms m.root v
    go (value.Component ks) a values = value_shows m opts m.root (form.Sequence fs) (value.Component ks) root a shown values
    go v a values = absurd a
