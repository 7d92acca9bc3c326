-- Which pieces the slots of a component show, in order.
use Rattle.std.proofs.Common.{◌≡◌, ◌≢◌, ℕ, zero, suc, ◌+◌, ◌≤◌, ◌<◌, Bool, true, false, List, [], ◌∷◌, ◌++◌, length, replicate, Some, refl, sym, ap, ◌∙◌, subst, arith, eqb, append-nil, ◌⊎◌, inl, inr}
use Rattle.std.specs.Prelude.{◌==◌, slice_get}
use Rattle.std.proofs.lemmas.Bool.Decides.{nat_tests, eqb_tells}
use Rattle.std.proofs.lemmas.Bool.{cond-true, cond-false}
use Rattle.data_types.specs.Value.{Value, Children, Piece, Edge}
use Rattle.data_types.specs.Value as value
use Rattle.der_octets.specs.Octets.{context, Values, Nothing, Primitive, Constructed, then_values}
use Rattle.reference_check.specs.Forms.{Slot, form_slots}
use Rattle.reference_check.specs.Words.{IsOrderedFrom}
use Rattle.message_model.specs.Admits.{numbers_of}
use Rattle.message_model.specs.Tables.{edge_at, pieces, child_pieces}
use Rattle.der_model.specs.DerMessage.{DerMessage}
use Rattle.der_model.specs.Structures.{Spot, is_single}
use Rattle.der_model.specs.Der.{slot_values, all_slots}
use Rattle.der_model.proofs.Spelled.{then_under}
use Rattle.der_model.proofs.ShownParts.{framed, framed_then, ValuesShow}
use Rattle.der_model.proofs.ShownSlots.{FindsSlot, under_shown}
use Rattle.der_model.proofs.ShownChildren.{SlotShows, slot_pieces}

then_three : (a b c : Values) → then_values (then_values a b) c ≡ then_values a (then_values b c)
then_three Nothing b c = refl
then_three (Primitive t o rest) b c = ap (λ z. Primitive t o z) (then_three rest b c)
then_three (Constructed t inner rest) b c = ap (λ z. Constructed t inner z) (then_three rest b c)

-- the values of a slot before others
slot_then : (k : ℕ) (s : Slot ℕ) (here rest : Values) → slot_values k s here rest ≡ then_values (slot_values k s here Nothing) rest
slot_then k s here rest = go (is_single s) refl
  where
    go : (z : Bool) → is_single s ≡ z → slot_values k s here rest ≡ then_values (slot_values k s here Nothing) rest
    go true e = cond-true (is_single s) _ _ e ∙ (sym (then_three here Nothing rest) ∙ ap (λ z. then_values z rest) (sym (cond-true (is_single s) _ _ e)))
    go false e = cond-false (is_single s) _ _ e ∙ ap (λ z. then_values z rest) (sym (cond-false (is_single s) _ _ e))

-- the pieces of each slot, the first with number k
abbrev pub all_pieces : ℕ → List (Slot ℕ) → (ℕ → Slot ℕ → List Piece) → List Piece
all_pieces k [] at = []
all_pieces k (s ∷ slots) at = at k s ++ all_pieces (suc k) slots at

-- the slots of a component, from one on
pub slots_shown : (m : DerMessage ℕ) (spot : Spot ℕ) (p : ℕ) (fs : List (Slot ℕ)) → FindsSlot m spot p fs [] → (gs : List (Slot ℕ)) (i : ℕ) (at : ℕ → Slot ℕ → Values) (told : ℕ → Slot ℕ → List Piece)
    → ((j n : ℕ) (s : Slot ℕ) → n ≡ i + j → slice_get gs j ≡ Some s → (slice_get fs n ≡ Some s) × (count : ℕ) × SlotShows m p n s count (slot_values n s (at n s) Nothing) (told n s))
    → (came : List ℕ) (shown : List Piece) → ValuesShow m spot came (all_slots i gs at) shown → shown ≡ all_pieces i gs told
slots_shown m spot p fs finds [] i at told each came shown values = values
slots_shown m spot p fs finds (s ∷ gs) i at told each came shown values =
    go first.2 (subst (λ z. ValuesShow m spot came z shown) (slot_then i s (at i s) rest) values)
    (λ c x h. slots_shown m spot p fs finds gs (suc i) at told (λ j n t u f. each (suc j) n t (omega (arith, u)) f) c x h)
  where
    rest : Values
    rest = all_slots (suc i) gs at

    first : (slice_get fs i ≡ Some s) × (count : ℕ) × SlotShows m p i s count (slot_values i s (at i s) Nothing) (told i s)
    first = each 0 i s (omega arith) refl

    go : SlotShows m p i s first.1 (slot_values i s (at i s) Nothing) (told i s) → ValuesShow m spot came (then_values (slot_values i s (at i s) Nothing) rest) shown
        → ((c : List ℕ) (x : List Piece) → ValuesShow m spot c rest x → x ≡ all_pieces (suc i) gs told) → shown ≡ told i s ++ all_pieces (suc i) gs told
    go (inl (none, nothing, silent)) shows again =
        again came shown (subst (λ z. ValuesShow m spot came (then_values z rest) shown) nothing shows) ∙ ap (λ z. z ++ all_pieces (suc i) gs told) (sym silent)
    go (inr (b, here, is, body_shows, told_is)) shows again =
        let one = subst (λ z. ValuesShow m spot came z shown) (ap (λ z. then_values z rest) is ∙ then_under (context i) b rest) shows in
        let r = under_shown m spot p fs [] finds i s first.0 b here body_shows came rest shown one in
        r.is ∙ (ap (λ z. z ++ r.behind) (append-nil _ ∙ sym told_is) ∙ ap (λ z. told i s ++ z) (again r.came r.behind r.others))

-- children that stand in no slot below a number have no pieces in one below it
pieces_none : (m : DerMessage ℕ) (p low top k : ℕ) (s : Slot ℕ) (ks : Children) → IsOrderedFrom low top (numbers_of ks) → k < low → slot_pieces m p k s ks ≡ []
pieces_none m p low top k s value.Nothing ordered l = refl
pieces_none m p low top k s (value.Child j v rest) (a, b, ordered) l = cond-false (j == k) _ _ (apart j k (omega arith)) ∙ pieces_none m p j top k s rest ordered (omega arith)
  where
    apart : (j k : ℕ) → k < j → (j == k) ≡ false
    apart j k h = grind (arith, nat_tests)

all_none : (i : ℕ) (gs : List (Slot ℕ)) → all_pieces i gs (λ k s. []) ≡ []
all_none i [] = refl
all_none i (s ∷ gs) = all_none (suc i) gs

all_same : (i : ℕ) (gs : List (Slot ℕ)) (a b : ℕ → Slot ℕ → List Piece) → ((k : ℕ) (s : Slot ℕ) → i ≤ k → a k s ≡ b k s) → all_pieces i gs a ≡ all_pieces i gs b
all_same i [] a b same = refl
all_same i (s ∷ gs) a b same = ap (λ z. z ++ all_pieces (suc i) gs a) (same i s (omega arith)) ∙ ap (λ z. b i s ++ z) (all_same (suc i) gs a b (λ k t l. same k t (omega arith)))

-- the pieces of children in order, by their slots
abbrev pub IsFrom : DerMessage ℕ → ℕ → ℕ → List (Slot ℕ) → Type 0
IsFrom m p i gs = (j n : ℕ) (s : Slot ℕ) → n ≡ i + j → slice_get gs j ≡ Some s → slice_get (form_slots (m.forms p)) n ≡ Some s

first_child : (m : DerMessage ℕ) (p j : ℕ) (v : Value) (rest : Children) → ((i : ℕ) (gs : List (Slot ℕ)) → IsFrom m p i gs → IsOrderedFrom i (i + length gs) (numbers_of rest) → all_pieces i gs (λ k s. slot_pieces m p k s rest) ≡ child_pieces m.fragment m.forms p rest)
    → (gs : List (Slot ℕ)) (i : ℕ) → IsFrom m p i gs → i ≤ j → j < i + length gs → IsOrderedFrom j (i + length gs) (numbers_of rest)
    → all_pieces i gs (λ k s. slot_pieces m p k s (value.Child j v rest)) ≡ child_pieces m.fragment m.forms p (value.Child j v rest)
first_child m p j v rest others [] i from low high ordered = absurd (omega arith)
first_child m p j v rest others (s ∷ gs) i from low high ordered =
    go (eqb_tells j i)
    (λ l. first_child m p j v rest others gs (suc i) (λ a n t e f. from (suc a) n t (omega (arith, e)) f) l (omega arith) (subst (λ z. IsOrderedFrom j z (numbers_of rest)) (let q : i + length (s ∷ gs) ≡ suc i + length gs = omega arith in q) ordered))
  where
    told : ℕ → Slot ℕ → List Piece
    told k t = slot_pieces m p k t (value.Child j v rest)

    go : ((eqb j i ≡ true) × (j ≡ i)) ⊎ ((eqb j i ≡ false) × (j ≢ i)) → (suc i ≤ j → all_pieces (suc i) gs (λ k t. slot_pieces m p k t (value.Child j v rest)) ≡ child_pieces m.fragment m.forms p (value.Child j v rest))
        → all_pieces i (s ∷ gs) (λ k t. slot_pieces m p k t (value.Child j v rest)) ≡ child_pieces m.fragment m.forms p (value.Child j v rest)
    go (inl e) again =
        let here = pieces m.fragment m.forms s.target v in
        let edges = edge_at p i (Some s) ∷ [] in
        let found : slice_get (form_slots (m.forms p)) i ≡ Some s = from 0 i s (omega arith) refl in
        let own : slot_pieces m p i s (value.Child j v rest) ≡ framed edges here (slot_pieces m p i s rest) = cond-true (j == i) _ _ e.0 in
        let later : all_pieces (suc i) gs (λ k t. slot_pieces m p k t (value.Child j v rest)) ≡ all_pieces (suc i) gs (λ k t. slot_pieces m p k t rest) =
        all_same (suc i) gs (λ k t. slot_pieces m p k t (value.Child j v rest)) (λ k t. slot_pieces m p k t rest) (λ k t l. cond-false (j == k) _ _ (apart j k (omega (arith, e.1)))) in
        let behind = others i (s ∷ gs) from (subst (λ z. IsOrderedFrom z (i + length (s ∷ gs)) (numbers_of rest)) e.1 ordered) in
        let edge_is : edge_at p j (slice_get (form_slots (m.forms p)) j) ≡ edge_at p i (Some s) = ap (λ z. edge_at p z (slice_get (form_slots (m.forms p)) z)) e.1 ∙ ap (edge_at p i) found in
        ap (λ z. z ++ all_pieces (suc i) gs (λ k t. slot_pieces m p k t (value.Child j v rest))) own
        ∙ (ap (λ z. framed edges here (slot_pieces m p i s rest) ++ z) later
        ∙ (framed_then edges here (slot_pieces m p i s rest) (all_pieces (suc i) gs (λ k t. slot_pieces m p k t rest))
        ∙ (ap (framed edges here) behind ∙ ap (λ (z : Edge). framed (z ∷ []) (pieces m.fragment m.forms z.target v) (child_pieces m.fragment m.forms p rest)) (sym edge_is))))
      where
        apart : (j k : ℕ) → j < k → (j == k) ≡ false
        apart j k h = grind (arith, nat_tests)
    go (inr e) again =
        let l : suc i ≤ j = above i j low e.1 in
        let none : slot_pieces m p i s (value.Child j v rest) ≡ [] = cond-false (j == i) _ _ e.0 ∙ pieces_none m p j (i + length (s ∷ gs)) i s rest ordered l in
        ap (λ z. z ++ all_pieces (suc i) gs (λ k t. slot_pieces m p k t (value.Child j v rest))) none ∙ again l
      where
        above : (i j : ℕ) → i ≤ j → j ≢ i → suc i ≤ j
        above i j l h = grind (arith)

pub ordered_pieces : (m : DerMessage ℕ) (p : ℕ) (ks : Children) (i : ℕ) (gs : List (Slot ℕ)) → IsFrom m p i gs → IsOrderedFrom i (i + length gs) (numbers_of ks) → all_pieces i gs (λ k s. slot_pieces m p k s ks) ≡ child_pieces m.fragment m.forms p ks
ordered_pieces m p value.Nothing i gs from ordered = all_none i gs
ordered_pieces m p (value.Child j v rest) i gs from (low, high, ordered) = first_child m p j v rest (λ a hs f o. ordered_pieces m p rest a hs f o) gs i from low high ordered

-- the pieces of children that are all of one slot
pub alike_pieces : (m : DerMessage ℕ) (p k n : ℕ) (s : Slot ℕ) (ks : Children) → slice_get (form_slots (m.forms p)) k ≡ Some s → numbers_of ks ≡ replicate n k → slot_pieces m p k s ks ≡ child_pieces m.fragment m.forms p ks
alike_pieces m p k n s value.Nothing there is = refl
alike_pieces m p k zero s (value.Child j v rest) there is = absurd cc
alike_pieces m p k (suc n) s (value.Child j v rest) there is =
    let head : j ≡ k = cc in
    let tails : numbers_of rest ≡ replicate n k = cc in
    let edge_is : edge_at p j (slice_get (form_slots (m.forms p)) j) ≡ edge_at p k (Some s) = ap (λ z. edge_at p z (slice_get (form_slots (m.forms p)) z)) head ∙ ap (edge_at p k) there in
    cond-true (j == k) _ _ (own j k head)
    ∙ (ap (framed (edge_at p k (Some s) ∷ []) (pieces m.fragment m.forms s.target v)) (alike_pieces m p k n s rest there tails)
    ∙ ap (λ (z : Edge). framed (z ∷ []) (pieces m.fragment m.forms z.target v) (child_pieces m.fragment m.forms p rest)) (sym edge_is))
  where
    own : (j k : ℕ) → j ≡ k → (j == k) ≡ true
    own j k e = grind (arith, nat_tests)
