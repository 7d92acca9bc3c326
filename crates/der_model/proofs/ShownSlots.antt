-- Which pieces the values of a slot show.
use Rattle.std.proofs.Common.{◌≡◌, ℕ, Bool, true, false, List, [], ◌∷◌, ◌++◌, length, Some, refl, sym, ap, ◌∙◌, subst, arith, append_assoc, append-nil}
use Rattle.std.specs.Prelude.{slice_get}
use Rattle.data_types.specs.Leaf.{Leaf}
use Rattle.data_types.specs.Value.{Piece, Edge}
use Rattle.data_types.specs.Value as value
use Rattle.facets.specs.declared.simple.Simple.{Simple}
use Rattle.der_octets.specs.Octets.{Tag, context, Values, Nothing}
use Rattle.reference_check.specs.Forms.{Form, Slot, form_slots}
use Rattle.reference_check.specs.Forms as form
use Rattle.reference_check.specs.Steps.{has_room}
use Rattle.message_model.specs.Tables.{edge_at}
use Rattle.der_model.specs.DerMessage.{DerMessage}
use Rattle.der_model.specs.Structures.{Spot, Value, ListOf, Component, OneOf, structure, form_structure, component, components, item_components}
use Rattle.der_model.specs.Der.{Body, Octets, Inner, under, inner_of}
use Rattle.der_model.specs.States.{IdentifierAnswer, Begins, Breaks, any_answer, item_answer, one_answer, identifier_answer, next_number}
use Rattle.der_model.specs.ShownPieces.{begin_each, end_each, alternatives_of, slot_elements, component_elements, IsLeafIn}
use Rattle.der_model.proofs.WholeValues.{under_same}
use Rattle.der_model.proofs.BegunSlots.{any_slot, begun_slot}
use Rattle.der_model.proofs.ShownParts.{framed, framed_then, ValuesShow}

begin_then : (a b : List Edge) → begin_each (a ++ b) ≡ begin_each a ++ begin_each b
begin_then [] b = refl
begin_then (e ∷ a) b = ap (λ z. value.Begins e ∷ z) (begin_then a b)

end_then : (a b : List Edge) → end_each (a ++ b) ≡ end_each b ++ end_each a
end_then [] b = sym (append-nil (end_each b))
end_then (e ∷ a) b = ap (λ z. z ++ value.Ends e ∷ []) (end_then a b) ∙ append_assoc (end_each b) (end_each a) (value.Ends e ∷ [])

-- elements within others
pub framed_within : (a b : List Edge) (here behind : List Piece) → framed (a ++ b) here behind ≡ framed a (framed b here []) behind
framed_within a b here behind =
    let rest = end_each a ++ behind in
    let ends : end_each (a ++ b) ++ behind ≡ end_each b ++ rest = ap (λ z. z ++ behind) (end_then a b) ∙ append_assoc (end_each b) (end_each a) behind in
    let inner : framed b here [] ++ rest ≡ begin_each b ++ (here ++ (end_each b ++ rest)) = framed_then b here [] rest in
    ap (λ z. z ++ (here ++ (end_each (a ++ b) ++ behind))) (begin_then a b)
    ∙ (append_assoc (begin_each a) (begin_each b) _ ∙ ap (λ z. begin_each a ++ z) (ap (λ z. begin_each b ++ (here ++ z)) ends ∙ sym inner))

-- What a value at a spot holds shows these pieces.
abbrev pub BodyShows : DerMessage ℕ → Spot ℕ → Body → List Piece → Type 0
BodyShows m spot (Octets o) here = (leaf : Leaf) → IsLeafIn (structure m spot) o leaf → here ≡ value.Holds leaf ∷ []
BodyShows m spot (Inner vs) here = (shown : List Piece) → ValuesShow m spot [] vs shown → shown ≡ here

-- one alternative, of these slots of a type, shows the pieces
pub record AlternativeShows (m : DerMessage ℕ) (p : ℕ) (fs : List (Slot ℕ)) (vs : Values) (shown : List Piece) : Type 0 where
  pub number : ℕ
  pub slot : Slot ℕ
  pub there : slice_get fs number ≡ Some slot
  pub held : Body
  pub here : List Piece
  pub values : vs ≡ under (context number) held Nothing
  pub shows : BodyShows m (component m.forms p number slot).spot held here
  pub is : shown ≡ framed (slot_elements p number (Some slot)) here []

-- What a value of a form holds shows the pieces.
abbrev pub ShowsAs : DerMessage ℕ → ℕ → Form ℕ Simple → Body → List Piece → Type 0
ShowsAs m p (form.Choice fs) b here = AlternativeShows m p fs (inner_of b) here
ShowsAs m p f b here = BodyShows m (Value p) b here

-- what begins at a spot is the component of a slot of the type, within these elements
abbrev pub FindsSlot : DerMessage ℕ → Spot ℕ → ℕ → List (Slot ℕ) → List Edge → Type 0
FindsSlot m spot p fs edges =
    (came : List ℕ) (b : Bool) (tag : Tag) (k : ℕ) (c : Component ℕ) → identifier_answer (structure m spot) came b tag ≡ Begins k c
    → (s : Slot ℕ) × (slice_get fs k ≡ Some s) × (c ≡ component m.forms p k s) × (context k ≡ tag) × (component_elements m spot k ≡ edges ++ slot_elements p k (Some s))

-- a component that is that of the slot
record Same (m : DerMessage ℕ) (spot : Spot ℕ) (p j : ℕ) (t : Slot ℕ) (edges : List Edge) (k : ℕ) (c : Component ℕ) : Type 0 where
  component_is : c ≡ component m.forms p j t
  elements_are : component_elements m spot k ≡ edges ++ slot_elements p j (Some t)

same_slot : (m : DerMessage ℕ) (spot : Spot ℕ) (p : ℕ) (fs : List (Slot ℕ)) (edges : List Edge) → FindsSlot m spot p fs edges → (j : ℕ) (t : Slot ℕ) → slice_get fs j ≡ Some t → (came : List ℕ) (b : Bool) (k : ℕ) (c : Component ℕ)
    → identifier_answer (structure m spot) came b (context j) ≡ Begins k c → Same m spot p j t edges k c
same_slot m spot p fs edges finds j t there came b k c e =
    let r = finds came b (context j) k c e in
    let number : k ≡ j = ap (λ (z : Tag). z.number) r.3 in
    let found : slice_get fs j ≡ Some r.0 = subst (λ z. slice_get fs z ≡ Some r.0) number r.1 in
    let slot : r.0 ≡ t = cc in
    record {
      component_is = r.2 ∙ (ap (λ z. component m.forms p z r.0) number ∙ ap (component m.forms p j) slot);
      elements_are = r.4 ∙ (ap (λ z. edges ++ slot_elements p z (Some r.0)) number ∙ ap (λ z. edges ++ slot_elements p j (Some z)) slot);
    }

-- what is shown by a value and by those behind it
pub record ShownThen (m : DerMessage ℕ) (spot : Spot ℕ) (rest : Values) (front shown : List Piece) : Type 0 where
  pub came : List ℕ
  pub behind : List Piece
  pub others : ValuesShow m spot came rest behind
  pub is : shown ≡ front ++ behind

-- a value under the tag of a slot, before others
pub under_shown : (m : DerMessage ℕ) (spot : Spot ℕ) (p : ℕ) (fs : List (Slot ℕ)) (edges : List Edge) → FindsSlot m spot p fs edges → (j : ℕ) (t : Slot ℕ) → slice_get fs j ≡ Some t → (b : Body) (here : List Piece) → BodyShows m (component m.forms p j t).spot b here
    → (came : List ℕ) (rest : Values) (shown : List Piece) → ValuesShow m spot came (under (context j) b rest) shown → ShownThen m spot rest (framed edges (framed (slot_elements p j (Some t)) here []) []) shown
under_shown m spot p fs edges finds j t there (Octets o) here shows came rest shown (k, c, leaf, behind, e, held, others, is) =
    let same = same_slot m spot p fs edges finds j t there came false k c e in
    let told : here ≡ value.Holds leaf ∷ [] = shows leaf (subst (λ (z : Component ℕ). IsLeafIn (structure m z.spot) o leaf) same.component_is held) in
    record {
      came = k ∷ came;
      behind = behind;
      others = others;
      is = is ∙ (ap (λ z. framed z (value.Holds leaf ∷ []) behind) same.elements_are ∙ (ap (λ z. framed (edges ++ slot_elements p j (Some t)) z behind) (sym told)
          ∙ (framed_within edges (slot_elements p j (Some t)) here behind ∙ sym (framed_then edges (framed (slot_elements p j (Some t)) here []) [] behind))));
    }
under_shown m spot p fs edges finds j t there (Inner vs) here shows came rest shown (k, c, held, behind, e, values, others, is) =
    let same = same_slot m spot p fs edges finds j t there came true k c e in
    let told : held ≡ here = shows held (subst (λ (z : Component ℕ). ValuesShow m z.spot [] vs held) same.component_is values) in
    record {
      came = k ∷ came;
      behind = behind;
      others = others;
      is = is ∙ (ap (λ z. framed z held behind) same.elements_are ∙ (ap (λ z. framed (edges ++ slot_elements p j (Some t)) z behind) told
          ∙ (framed_within edges (slot_elements p j (Some t)) here behind ∙ sym (framed_then edges (framed (slot_elements p j (Some t)) here []) [] behind))));
    }

-- what begins in a component, in a choice, and as an item that is a choice
pub sequence_finds : (m : DerMessage ℕ) (p : ℕ) (fs : List (Slot ℕ)) → m.forms p ≡ form.Sequence fs → FindsSlot m (Value p) p fs []
sequence_finds m p fs at came b tag k c e =
    let r = begun_slot m p fs (next_number came) came b tag k c refl (subst (λ f. identifier_answer (form_structure m.forms p f) came b tag ≡ Begins k c) at e) in
    (r.slot, r.there, r.is, r.tag, ap (λ f. slot_elements p k (slice_get (form_slots f) k)) at ∙ ap (slot_elements p k) r.there)

-- an alternative among the slots
alternative_begun : (m : DerMessage ℕ) (p : ℕ) (fs : List (Slot ℕ)) (b : Bool) (tag : Tag) (k : ℕ) (c : Component ℕ) → any_answer 0 (components m.forms p 0 fs) b tag ≡ Begins k c
    → (s : Slot ℕ) × (slice_get fs k ≡ Some s) × (c ≡ component m.forms p k s) × (context k ≡ tag)
alternative_begun m p fs b tag k c e =
    let r = any_slot m.forms p 0 fs b tag k c e in
    let number : k ≡ r.0 = omega (arith, r.2) in
    (r.1, subst (λ z. slice_get fs z ≡ Some r.1) (sym number) r.3, r.4, sym (ap (λ (z : Component ℕ). z.tag) r.4) ∙ (under_same c b tag r.5).1)

pub one_begun : {P : Type 0} (came : List ℕ) (a : IdentifierAnswer P) (k : ℕ) (c : Component P) → one_answer came a ≡ Begins k c → a ≡ Begins k c
one_begun [] a k c e = e
one_begun (j ∷ came) a k c e = absurd cc

pub item_begun : {P : Type 0} (room : Bool) (a : IdentifierAnswer P) (k : ℕ) (c : Component P) → item_answer room a ≡ Begins k c → a ≡ Begins k c
item_begun true a k c e = e
item_begun false (Begins j d) k c e = absurd cc
item_begun false (Breaks r x) k c e = absurd cc

pub choice_finds : (m : DerMessage ℕ) (p : ℕ) (fs : List (Slot ℕ)) → m.forms p ≡ form.Choice fs → FindsSlot m (Value p) p fs []
choice_finds m p fs at came b tag k c e =
    let one : identifier_answer (OneOf (components m.forms p 0 fs)) came b tag ≡ Begins k c = subst (λ f. identifier_answer (form_structure m.forms p f) came b tag ≡ Begins k c) at e in
    let r = alternative_begun m p fs b tag k c (one_begun came _ k c one) in
    (r.0, r.1, r.2, r.3, ap (λ f. slot_elements p k (slice_get (form_slots f) k)) at ∙ ap (slot_elements p k) r.1)

pub item_finds : (m : DerMessage ℕ) (p n : ℕ) (s : Slot ℕ) (fs : List (Slot ℕ)) → m.forms s.target ≡ form.Choice fs → FindsSlot m (ListOf p n s) s.target fs (edge_at p n (Some s) ∷ [])
item_finds m p n s fs at came b tag k c e =
    let one = item_begun (has_room (length came) s.max) (any_answer 0 (item_components m.forms s.target (m.forms s.target)) b tag) k c e in
    let r = alternative_begun m s.target fs b tag k c (subst (λ f. any_answer 0 (item_components m.forms s.target f) b tag ≡ Begins k c) at one) in
    (r.0, r.1, r.2, r.3, ap (λ f. edge_at p n (Some s) ∷ slot_elements s.target k (slice_get (alternatives_of f) k)) at ∙ ap (λ z. edge_at p n (Some s) ∷ slot_elements s.target k z) r.1)
