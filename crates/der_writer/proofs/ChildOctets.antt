-- What stands at a child of an element, and behind it.
use Rattle.std.proofs.Common.{◌≡◌, ℕ, zero, suc, ◌+◌, ◌-◌, ◌≤◌, ◌<◌, Bool, true, false, List, [], ◌∷◌, ◌++◌, length, replicate, take, drop, Option, Some, None, refl, sym, ap, ap₂, ◌∙◌, subst, arith, append_assoc, append-nil, ◌⊎◌, inl, inr, drop-drop}
use Rattle.std.specs.Prelude.{◌==◌, if◌then◌else◌, slice_get}
use Rattle.std.proofs.lemmas.Bool.{cond-true, cond-false}
use Rattle.lexical_core.proofs.Tests.{same_number, compared}
use Rattle.data_types.specs.Value.{Value, Children, Edge}
use Rattle.data_types.specs.Value as value
use Rattle.facets.specs.declared.simple.Simple.{Simple}
use Rattle.der_octets.specs.Octets.{context, Nothing, octets}
use Rattle.reference_check.specs.Forms.{Form, Slot, form_slots}
use Rattle.reference_check.specs.Forms as form
use Rattle.reference_check.specs.Words.{IsOrderedFrom}
use Rattle.message_model.specs.Admits.{numbers_of}
use Rattle.der_model.specs.DerMessage.{DerMessage}
use Rattle.der_model.specs.Structures.{is_single}
use Rattle.der_model.specs.Der.{Body, placed_value, all_slots, alternative, chosen_slot, body, values_at}
use Rattle.der_model.proofs.ChildLists.{values_none, slots_congr}
use Rattle.der_model.proofs.Fields.{other_number}
use Rattle.der_model.proofs.BegunSlots.{drop_get}
use Rattle.der_writer.specs.Measured.{contents_octets, slot_octets}
use Rattle.der_writer.specs.inner.PieceOctets.{Before, Begun, Filled, Ended, next_slot, head, empty_slots, sequence_slots, list_head, element_head}
use Rattle.der_writer.proofs.OctetLemmas.{IsBodyOf, placed_octets, slot_is, slots_skipped, slots_empty}

-- the octets of children behind a piece, and of the slots without children
abbrev pub rest_octets : DerMessage ℕ → Form ℕ Simple → Before → Children → List ℕ
rest_octets m (form.Sequence slots) (Ended e) cs = slot_octets m e.slot (slice_get slots e.slot) cs ++ octets (all_slots (suc e.slot) (drop (suc e.slot) slots) (λ k s. values_at m k s cs))
rest_octets m (form.Sequence slots) before cs = octets (all_slots 0 slots (λ k s. values_at m k s cs))
rest_octets m (form.Choice slots) (Ended e) cs = slot_octets m e.slot (slice_get slots e.slot) cs
rest_octets m (form.Choice slots) before cs = octets (alternative slots (numbers_of cs) (λ k s. values_at m k s cs))
rest_octets m form before cs = []

-- the children may come behind the piece
abbrev pub Comes : Form ℕ Simple → Before → Children → Type 0
Comes (form.Sequence slots) (Ended e) cs = IsOrderedFrom e.slot (length slots) (numbers_of cs)
Comes (form.Sequence slots) before cs = IsOrderedFrom 0 (length slots) (numbers_of cs)
Comes (form.Choice slots) (Ended e) cs = (n : ℕ) × (numbers_of cs ≡ replicate n e.slot)
Comes (form.Choice slots) before cs = (k : ℕ) × (n : ℕ) × (numbers_of cs ≡ replicate n k)
Comes form before cs = ⊥

module _ (m : DerMessage ℕ) (v : Value) (rest : Children) (e : Edge) (s : Slot ℕ) (fits : IsBodyOf (m.forms s.target) (body m (m.forms s.target) v)) where
  abbrev children : Children
  children = value.Child e.slot v rest

  abbrev held : Body
  held = body m (m.forms s.target) v

  abbrev own_octets : List ℕ → List ℕ
  own_octets behind = element_head (Some s) (m.forms s.target) e.slot (length (contents_octets held)) ++ (contents_octets held ++ behind)

  -- the octets of the slot from the child on
  pub slot_from : octets (values_at m e.slot s children) ≡ own_octets (octets (values_at m e.slot s rest))
  slot_from =
      ap octets (cond-true (e.slot == e.slot) (placed_value m.forms e.slot s held (values_at m e.slot s rest)) (values_at m e.slot s rest) (same_number e.slot))
      ∙ placed_octets m.forms e.slot s held (values_at m e.slot s rest) fits

  -- slots behind are without the child
  slots_later : (i : ℕ) (fs : List (Slot ℕ)) → e.slot < i → all_slots i fs (λ k t. values_at m k t children) ≡ all_slots i fs (λ k t. values_at m k t rest)
  slots_later i fs l = slots_congr i fs (λ k t. values_at m k t children) (λ k t. values_at m k t rest) (λ j t u. cond-false (e.slot == j) _ _ (other_number e.slot j (λ q. absurd (omega (arith, q)))))

  abbrev list_from : List ℕ
  list_from = if is_single s then [] else head true (context e.slot) (length (octets (values_at m e.slot s children)))

  regroup : (w a b c d f : List ℕ) → w ++ (a ++ ((b ++ (c ++ d)) ++ f)) ≡ (w ++ a) ++ (b ++ (c ++ (d ++ f)))
  regroup w a b c d f = simp append_assoc refl

  -- in a sequence, from a slot that is not behind the child's
  sequence_from : (slots : List (Slot ℕ)) (i top : ℕ) → i ≤ e.slot → slice_get slots e.slot ≡ Some s → IsOrderedFrom e.slot top (numbers_of children)
      → octets (all_slots i (drop i slots) (λ k t. values_at m k t children))
      ≡ (empty_slots i (take (e.slot - i) (drop i slots)) ++ list_from) ++ own_octets (octets (values_at m e.slot s rest) ++ octets (all_slots (suc e.slot) (drop (suc e.slot) slots) (λ k t. values_at m k t rest)))
  sequence_from slots i top l found o =
      let sum : i + (e.slot - i) ≡ e.slot = omega arith in
      let behind : drop (e.slot - i) (drop i slots) ≡ s ∷ drop (suc e.slot) slots = drop-drop (e.slot - i) i slots ∙ (ap (λ z. drop z slots) sum ∙ drop_get slots e.slot s found) in
      let V = λ (k : ℕ) (t : Slot ℕ). values_at m k t children in
      slots_skipped i (e.slot - i) (drop i slots) V (λ j t low high. values_none m e.slot top j t children o (omega arith))
      ∙ (ap (λ z. empty_slots i (take (e.slot - i) (drop i slots)) ++ octets z) (ap (λ z. all_slots z (drop (e.slot - i) (drop i slots)) V) sum ∙ ap (λ z. all_slots e.slot z V) behind)
      ∙ (ap (λ z. empty_slots i (take (e.slot - i) (drop i slots)) ++ z) (slot_is e.slot s (V e.slot s) (all_slots (suc e.slot) (drop (suc e.slot) slots) V)
      ∙ ap (λ z. list_from ++ z) (ap (λ z. z ++ octets (all_slots (suc e.slot) (drop (suc e.slot) slots) V)) slot_from
      ∙ ap (λ z. own_octets (octets (values_at m e.slot s rest)) ++ octets z) (slots_later (suc e.slot) (drop (suc e.slot) slots) (omega arith))))
      ∙ regroup (empty_slots i (take (e.slot - i) (drop i slots))) list_from (element_head (Some s) (m.forms s.target) e.slot (length (contents_octets held))) (contents_octets held) (octets (values_at m e.slot s rest))
      (octets (all_slots (suc e.slot) (drop (suc e.slot) slots) (λ k t. values_at m k t rest)))))

  -- the list does not begin where an item stands before
  no_list : (j : ℕ) (group : ℕ) → j ≡ e.slot → (if is_single s then [] else (if j == e.slot then [] else head true (context e.slot) group)) ≡ []
  no_list j group same = go (is_single s)
    where
      test : (j == e.slot) ≡ true
      test = subst (λ z. (z == e.slot) ≡ true) (sym same) (same_number e.slot)

      go : (z : Bool) → (if z then [] else (if j == e.slot then [] else head true (context e.slot) group)) ≡ []
      go true = refl
      go false = cond-true (j == e.slot) [] (head true (context e.slot) group) test

  new_list : (j : ℕ) (group : ℕ) → j < e.slot → (if is_single s then [] else head true (context e.slot) group) ≡ (if is_single s then [] else (if j == e.slot then [] else head true (context e.slot) group))
  new_list j group l = ap (λ z. if is_single s then [] else z) (sym (cond-false (j == e.slot) [] (head true (context e.slot) group) (other_number j e.slot (λ q. absurd (omega (arith, q))))))

  slot_none : (j : ℕ) (o : Option (Slot ℕ)) (top : ℕ) → j < e.slot → IsOrderedFrom e.slot top (numbers_of children) → slot_octets m j o children ≡ []
  slot_none j None top l o = refl
  slot_none j (Some t) top l o = ap octets (values_none m e.slot top j t children o l)

  -- the slots behind slot j, and what stands in it
  abbrev behind_slot : List (Slot ℕ) → ℕ → Children → List ℕ
  behind_slot slots j cs = slot_octets m j (slice_get slots j) cs ++ octets (all_slots (suc j) (drop (suc j) slots) (λ k t. values_at m k t cs))

  abbrev before_child : List (Slot ℕ) → ℕ → List ℕ
  before_child slots j = empty_slots (suc j) (take (e.slot - suc j) (drop (suc j) slots))
      ++ (if is_single s then [] else (if j == e.slot then [] else head true (context e.slot) (length (octets (values_at m e.slot s children)))))

  ended : (slots : List (Slot ℕ)) → slice_get slots e.slot ≡ Some s → octets (values_at m e.slot s rest) ++ octets (all_slots (suc e.slot) (drop (suc e.slot) slots) (λ k t. values_at m k t rest)) ≡ behind_slot slots e.slot rest
  ended slots found = ap (λ z. slot_octets m e.slot z rest ++ octets (all_slots (suc e.slot) (drop (suc e.slot) slots) (λ k t. values_at m k t rest))) (sym found)

  nothing_between : (i k : ℕ) (slots : List (Slot ℕ)) → k ≤ i → empty_slots i (take (k - i) slots) ≡ []
  nothing_between i k slots l = (let z : k - i ≡ 0 = omega arith in ap (λ c. empty_slots i (take c slots)) z)

  item_next : (slots : List (Slot ℕ)) (j : ℕ) → j ≡ e.slot → slice_get slots e.slot ≡ Some s → behind_slot slots j children ≡ before_child slots j ++ own_octets (behind_slot slots e.slot rest)
  item_next slots j same found =
      let V = λ (k : ℕ) (t : Slot ℕ). values_at m k t children in
      let none : before_child slots j ≡ [] = ap₂ (λ a b. a ++ b) (nothing_between (suc j) e.slot (drop (suc j) slots) (omega (arith, same))) (no_list j (length (octets (values_at m e.slot s children))) same) in
      ap (λ z. behind_slot slots z children) same
      ∙ (ap (λ z. slot_octets m e.slot z children ++ octets (all_slots (suc e.slot) (drop (suc e.slot) slots) V)) found
      ∙ (ap₂ (λ a b. a ++ octets b) slot_from (slots_later (suc e.slot) (drop (suc e.slot) slots) (omega arith))
      ∙ (regroup [] [] (element_head (Some s) (m.forms s.target) e.slot (length (contents_octets held))) (contents_octets held) (octets (values_at m e.slot s rest))
      (octets (all_slots (suc e.slot) (drop (suc e.slot) slots) (λ k t. values_at m k t rest)))
      ∙ ap₂ (λ a b. a ++ own_octets b) (sym none) (ended slots found))))

  first_next : (slots : List (Slot ℕ)) (j top : ℕ) → j < e.slot → slice_get slots e.slot ≡ Some s → IsOrderedFrom e.slot top (numbers_of children)
      → behind_slot slots j children ≡ before_child slots j ++ own_octets (behind_slot slots e.slot rest)
  first_next slots j top l found o =
      let V = λ (k : ℕ) (t : Slot ℕ). values_at m k t children in
      ap (λ z. z ++ octets (all_slots (suc j) (drop (suc j) slots) V)) (slot_none j (slice_get slots j) top l o)
      ∙ (sequence_from slots (suc j) top (omega arith) found o
      ∙ ap₂ (λ a b. (empty_slots (suc j) (take (e.slot - suc j) (drop (suc j) slots)) ++ a) ++ own_octets b) (new_list j (length (octets (values_at m e.slot s children))) l) (ended slots found))

  no_slots : (i c d : ℕ) → empty_slots i (take c (drop d [])) ≡ []
  no_slots i c d = ap (λ z. empty_slots i (take c z)) (none d) ∙ ap (λ z. empty_slots i z) (few c)
    where
      none : (d : ℕ) → ◌≡◌ {A = List (Slot ℕ)} (drop d []) []
      none zero = refl
      none (suc d) = refl

      few : (c : ℕ) → ◌≡◌ {A = List (Slot ℕ)} (take c []) []
      few zero = refl
      few (suc c) = refl

  choice_first : (slots : List (Slot ℕ)) → slice_get slots e.slot ≡ Some s
      → octets (alternative slots (numbers_of children) (λ k t. values_at m k t children)) ≡ (empty_slots 0 (take (e.slot - 0) (drop 0 [])) ++ list_from) ++ own_octets (slot_octets m e.slot (slice_get slots e.slot) rest)
  choice_first slots found =
      let V = λ (k : ℕ) (t : Slot ℕ). values_at m k t children in
      ap (λ z. octets (chosen_slot e.slot z V)) found
      ∙ (slot_is e.slot s (V e.slot s) Nothing
      ∙ (ap (λ z. list_from ++ z) (append-nil (octets (V e.slot s)) ∙ slot_from)
      ∙ ap₂ (λ a b. (a ++ list_from) ++ own_octets b) (sym (no_slots 0 (e.slot - 0) 0)) (ap (λ z. slot_octets m e.slot z rest) (sym found))))

  choice_next : (slots : List (Slot ℕ)) (j : ℕ) → j ≡ e.slot → slice_get slots e.slot ≡ Some s
      → slot_octets m j (slice_get slots j) children ≡ before_child [] j ++ own_octets (slot_octets m e.slot (slice_get slots e.slot) rest)
  choice_next slots j same found =
      let none : before_child [] j ≡ [] = ap₂ (λ a b. a ++ b) (no_slots (suc j) (e.slot - suc j) (suc j)) (no_list j (length (octets (values_at m e.slot s children))) same) in
      ap (λ z. slot_octets m z (slice_get slots z) children) same
      ∙ (ap (λ z. slot_octets m e.slot z children) found
      ∙ (slot_from ∙ ap₂ (λ a b. a ++ own_octets b) (sym none) (ap (λ z. slot_octets m e.slot z rest) (sym found))))

  heads : (n k : ℕ) (d : List ℕ) → e.slot ∷ d ≡ replicate n k → (k ≡ e.slot) × ((n : ℕ) × (d ≡ replicate n e.slot))
  heads zero k d is = absurd cc
  heads (suc n) k d is =
      let same : k ≡ e.slot = cc in
      let tails : d ≡ replicate n k = cc in
      (same, (n, tails ∙ ap (replicate n) same))

  -- what stands at the child: slots without children, its list where it is the first, the child, and what stands behind
  pub child_octets : (f : Form ℕ Simple) (b : Before) → slice_get (form_slots f) e.slot ≡ Some s → Comes f b children
      → rest_octets m f b children
      ≡ (empty_slots (next_slot b) (take (e.slot - next_slot b) (drop (next_slot b) (sequence_slots f))) ++ list_head (Some s) b e.slot (length (octets (values_at m e.slot s children)))) ++ own_octets (rest_octets m f (Ended e) rest)
  child_octets (form.Sequence slots) (Begun p) found (l, c, o) = sequence_from slots 0 (length slots) (omega arith) found (omega arith, c, o) ∙ ap (λ z. (empty_slots 0 (take (e.slot - 0) (drop 0 slots)) ++ list_from) ++ own_octets z) (ended slots found)
  child_octets (form.Sequence slots) Filled found (l, c, o) = sequence_from slots 0 (length slots) (omega arith) found (omega arith, c, o) ∙ ap (λ z. (empty_slots 0 (take (e.slot - 0) (drop 0 slots)) ++ list_from) ++ own_octets z) (ended slots found)
  child_octets (form.Sequence slots) (Ended p) found (l, c, o) = by (compared p.slot e.slot)
    where
      by : (p.slot < e.slot) ⊎ ((p.slot ≡ e.slot) ⊎ (e.slot < p.slot)) → behind_slot slots p.slot children ≡ before_child slots p.slot ++ own_octets (behind_slot slots e.slot rest)
      by (inl lt) = first_next slots p.slot (length slots) lt found (omega arith, c, o)
      by (inr (inl eq)) = item_next slots p.slot eq found
      by (inr (inr gt)) = absurd (omega arith)
  child_octets (form.Choice slots) (Begun p) found come = choice_first slots found
  child_octets (form.Choice slots) Filled found come = choice_first slots found
  child_octets (form.Choice slots) (Ended p) found (n, is) = choice_next slots p.slot (heads n p.slot (numbers_of rest) is).0 found
  child_octets (form.Simple simple) b found come = absurd cc
  child_octets (form.Money code number) b found come = absurd cc
  child_octets form.Envelope b found come = absurd cc
  child_octets form.LeftOut b found come = absurd cc
  child_octets form.Missing b found come = absurd cc

  -- the children behind it may come
  pub comes_on : (f : Form ℕ Simple) (b : Before) → Comes f b children → Comes f (Ended e) rest
  comes_on (form.Sequence slots) (Begun p) (l, c, o) = o
  comes_on (form.Sequence slots) Filled (l, c, o) = o
  comes_on (form.Sequence slots) (Ended p) (l, c, o) = o
  comes_on (form.Choice slots) (Begun p) (k, n, is) = (heads n k (numbers_of rest) is).1
  comes_on (form.Choice slots) Filled (k, n, is) = (heads n k (numbers_of rest) is).1
  comes_on (form.Choice slots) (Ended p) (n, is) = (heads n p.slot (numbers_of rest) is).1
  comes_on (form.Simple simple) b come = absurd come
  comes_on (form.Money code number) b come = absurd come
  comes_on form.Envelope b come = absurd come
  comes_on form.LeftOut b come = absurd come
  comes_on form.Missing b come = absurd come

no_slots_left : (b : Before) → [] ≡ empty_slots (next_slot b) (drop (next_slot b) [])
no_slots_left (Begun p) = refl
no_slots_left Filled = refl
no_slots_left (Ended p) = refl

-- no child is left
pub rest_none : (m : DerMessage ℕ) (f : Form ℕ Simple) (b : Before) → rest_octets m f b value.Nothing ≡ empty_slots (next_slot b) (drop (next_slot b) (sequence_slots f))
rest_none m (form.Sequence slots) (Begun p) = slots_empty 0 slots _ (λ j s. refl)
rest_none m (form.Sequence slots) Filled = slots_empty 0 slots _ (λ j s. refl)
rest_none m (form.Sequence slots) (Ended p) = ap (λ z. z ++ octets (all_slots (suc p.slot) (drop (suc p.slot) slots) (λ k s. values_at m k s value.Nothing))) (none (slice_get slots p.slot)) ∙ slots_empty (suc p.slot) (drop (suc p.slot) slots) _ (λ j s. refl)
  where
    none : (o : Option (Slot ℕ)) → slot_octets m p.slot o value.Nothing ≡ []
    none None = refl
    none (Some s) = refl
rest_none m (form.Choice slots) (Begun p) = refl
rest_none m (form.Choice slots) Filled = refl
rest_none m (form.Choice slots) (Ended p) = none (slice_get slots p.slot)
  where
    none : (o : Option (Slot ℕ)) → slot_octets m p.slot o value.Nothing ≡ []
    none None = refl
    none (Some s) = refl
rest_none m (form.Simple simple) b = no_slots_left b
rest_none m (form.Money code number) b = no_slots_left b
rest_none m form.Envelope b = no_slots_left b
rest_none m form.LeftOut b = no_slots_left b
rest_none m form.Missing b = no_slots_left b
