-- A form by what it is with other names of the types, where no two types that it leads to have one name.
use Rattle.std.proofs.Common.{◌≡◌, ℕ, suc, List, [], ◌∷◌, map, Some, refl, ap}
use Rattle.std.specs.Prelude.{slice_get}
use Rattle.reference_check.specs.Forms.{Slot, Form, Sequence, Choice, Simple, Money, Envelope, LeftOut, Missing, form_slots, form_to, slot_to}

module _ {P Q : Type 0} (h : P → Q) (IsThere : P → Type 0) (one : (a b : P) → IsThere a → IsThere b → h a ≡ h b → a ≡ b) where
  -- each slot leads to a type that is there
  abbrev LeadThere : List (Slot P) → Type 0
  LeadThere slots = (k : ℕ) (s : Slot P) → slice_get slots k ≡ Some s → IsThere s.target

  one_slot : (s t : Slot P) → IsThere s.target → IsThere t.target → slot_to h s ≡ slot_to h t → s ≡ t
  one_slot s t there also same =
      let tags : s.tag ≡ t.tag = ap (λ (x : Slot Q). x.tag) same in
      let least : s.min ≡ t.min = ap (λ (x : Slot Q). x.min) same in
      let most : s.max ≡ t.max = ap (λ (x : Slot Q). x.max) same in
      let targets : s.target ≡ t.target = one s.target t.target there also (ap (λ (x : Slot Q). x.target) same) in
      λ i. record { tag = tags i; min = least i; max = most i; target = targets i }

  one_slots : (xs ys : List (Slot P)) → LeadThere xs → LeadThere ys → map (slot_to h) xs ≡ map (slot_to h) ys → xs ≡ ys
  one_slots [] [] a b same = refl
  one_slots [] (y ∷ ys) a b same = absurd cc
  one_slots (x ∷ xs) [] a b same = absurd cc
  one_slots (x ∷ xs) (y ∷ ys) a b same =
      let heads : slot_to h x ≡ slot_to h y = cc in
      let tails : map (slot_to h) xs ≡ map (slot_to h) ys = cc in
      let first : x ≡ y = one_slot x y (a 0 x refl) (b 0 y refl) heads in
      let rest : xs ≡ ys = one_slots xs ys (λ k. a (suc k)) (λ k. b (suc k)) tails in
      λ i. first i ∷ rest i

  module _ {L : Type 0} where
    -- the form leads to types that are there
    pub record IsLinked (f : Form P L) : Type 0 where
      pub slots : LeadThere (form_slots f)
      pub code : (c : P) (number : L) → f ≡ Money c number → IsThere c

    pub one_form : (f g : Form P L) → IsLinked f → IsLinked g → form_to h (λ x. x) f ≡ form_to h (λ x. x) g → f ≡ g
    one_form (Sequence xs) (Sequence ys) a b same = (let slots : map (slot_to h) xs ≡ map (slot_to h) ys = cc in ap Sequence (one_slots xs ys a.slots b.slots slots))
    one_form (Choice xs) (Choice ys) a b same = (let slots : map (slot_to h) xs ≡ map (slot_to h) ys = cc in ap Choice (one_slots xs ys a.slots b.slots slots))
    one_form (Simple x) (Simple y) a b same = (let facets : x ≡ y = cc in ap Simple facets)
    one_form (Money c x) (Money d y) a b same =
        let codes : h c ≡ h d = cc in
        let numbers : x ≡ y = cc in
        let code : c ≡ d = one c d (a.code c x refl) (b.code d y refl) codes in
        λ i. Money (code i) (numbers i)
    one_form Envelope Envelope a b same = refl
    one_form LeftOut LeftOut a b same = refl
    one_form Missing Missing a b same = refl
    one_form f g a b same = absurd cc
