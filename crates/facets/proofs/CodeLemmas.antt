-- Lists of codes: one more behind the last, and where a search ends.
use Rattle.std.proofs.Common.{◌≡◌, ℕ, ◌+◌, ◌-◌, ◌<◌, ◌≤◌, max, true, false, List, [], ◌∷◌, ◌++◌, length, get_or, Result, Ok, Err, Some, refl, sym, ap, subst, ◌∙◌, arith, rules, inl, inr}
use Rattle.std.specs.Prelude.{Contains, slice_get}
use Rattle.std.specs.Ordering.{nat_cmp, is_lt, is_eq, ordering_reverse}
use Rattle.std.specs.declared.cmp.Ordering.{Ordering}
use Rattle.std.specs.declared.cmp.Ordering.TheVariants.{Less, Equal, Greater}
use Rattle.std.specs.Cmp.Lexicographic.{slice_cmp}
use Rattle.std.specs.List.Sorted.{IsStrictlySortedBy, IsSorted, IsBinarySearchResult, IsSearchInRange}
use Rattle.std.proofs.lemmas.Bool.{cases_lt}
use Rattle.std.proofs.lemmas.Cmp.{nat_list_cmp_total}
use Rattle.std.proofs.lemmas.Slice.Eq.{bytes_eq-Decides}
use Rattle.std.proofs.lemmas.Map.Text.{is_eq-slice_cmp}
use Rattle.std.proofs.lemmas.Map.Keys.{Less-from_sorted, sorted_from_all_adjacent}
use Rattle.std.proofs.lemmas.List.{get_or_append_left, length-append}
use Rattle.std.proofs.lemmas.List.Recursion.{max_bounds}
use Rattle.std.proofs.lemmas.List.Sorted.{searchable_from_sorted}
use Rattle.std.proofs.lemmas.Option.{slice_get-get_or, slice_get_read}
use Rattle.std.proofs.Math.Seq.{get_or-append_seam}
use Rattle.std.proofs.Math.Nat.{max_comm}
use Rattle.facets.specs.CodeLists.{ComesBefore, AreSorted, IsAboveLast, char_count, longest_of}

-- each code and the next, with one more at the end
rises : (codes : List (List ℕ)) (text : List ℕ) → AreSorted codes → IsAboveLast codes text
    → (k : ℕ) → k + 1 < length (codes ++ text ∷ []) → ComesBefore (get_or (codes ++ text ∷ []) k []) (get_or (codes ++ text ∷ []) (k + 1) [])
rises codes text sorted above k lt =
    elim (cases_lt (k + 1) (length codes)) [
      | inl inside ↦
          let here : get_or (codes ++ text ∷ []) k [] ≡ get_or codes k [] = get_or_append_left codes (text ∷ []) [] k (omega arith) in
          let next : get_or (codes ++ text ∷ []) (k + 1) [] ≡ get_or codes (k + 1) [] = get_or_append_left codes (text ∷ []) [] (k + 1) inside in
          rw (here, next) (Less-from_sorted (slice_cmp nat_cmp) codes k (k + 1) [] sorted (omega arith) inside)
      | inr outside ↦
          let size : length (codes ++ text ∷ []) ≡ length codes + 1 = length-append codes (text ∷ []) in
          let last : k + 1 ≡ length codes = omega (arith, lt, size, outside) in
          let here : get_or (codes ++ text ∷ []) k [] ≡ get_or codes k [] = get_or_append_left codes (text ∷ []) [] k (omega arith) in
          let next : get_or (codes ++ text ∷ []) (k + 1) [] ≡ text = rw last (get_or-append_seam codes text [] []) in
          let place : length codes - 1 ≡ k = omega arith in
          let there : slice_get codes (length codes - 1) ≡ Some (get_or codes k []) = rw place (slice_get-get_or codes k [] (omega arith)) in
          rw (here, next) (above (get_or codes k []) there)
    ]

pub sorted_push : (codes : List (List ℕ)) (text : List ℕ) → AreSorted codes → IsAboveLast codes text → AreSorted (codes ++ text ∷ [])
sorted_push codes text sorted above = sorted_from_all_adjacent nat_list_cmp_total (codes ++ text ∷ []) [] (rises codes text sorted above)

pub longest_push : (codes : List (List ℕ)) (text : List ℕ) → longest_of (codes ++ text ∷ []) ≡ max (longest_of codes) (char_count text)
longest_push [] text = max_comm (char_count text) 0
longest_push (code ∷ codes) text = rw (longest_push codes text) (max_swap (char_count code) (longest_of codes) (char_count text))
  where
    max_swap : (a b c : ℕ) → max a (max b c) ≡ max (max a b) c
    max_swap a b c = search rules

-- no code is longer than the longest
pub no_longer : (codes : List (List ℕ)) (at : ℕ) (d : List ℕ) → at < length codes → char_count (get_or codes at d) ≤ longest_of codes
no_longer codes at d lt = max_bounds longest_of (λ code. char_count code) refl (λ x xs. refl) codes at d lt

-- strictly sorted is sorted
pub sorted_weakly : (codes : List (List ℕ)) → AreSorted codes → IsSorted (slice_cmp nat_cmp) codes
sorted_weakly codes sorted k d low lt = no_less (get_or codes (k + 1) d) (get_or codes k d) (Less-from_sorted (slice_cmp nat_cmp) codes k (k + 1) d sorted (omega arith) lt)
  where
    no_less : (x y : List ℕ) → slice_cmp nat_cmp y x ≡ Less → is_lt (slice_cmp nat_cmp x y) ≡ false
    no_less x y less = ap is_lt (nat_list_cmp_total.antisymm x y ∙ ap ordering_reverse less)

-- what compares as equal is the same
pub equal_same : (x y : List ℕ) → slice_cmp nat_cmp x y ≡ Equal → x ≡ y
equal_same x y e = (bytes_eq-Decides x y).0 (sym (is_eq-slice_cmp x y) ∙ ap is_eq e)

not_both : (x : List ℕ) (r : Ordering) → is_eq r ≡ false → slice_cmp nat_cmp x x ≡ r → ⊥
not_both x r other e =
    let same : is_eq (slice_cmp nat_cmp x x) ≡ true = is_eq-slice_cmp x x ∙ (bytes_eq-Decides x x).1 refl in
    let both : true ≡ false = sym same ∙ ap is_eq e ∙ other in
    absurd cc

pub found_at : (codes : List (List ℕ)) (code : List ℕ) (r : Result ℕ ℕ) (at : ℕ) → r ≡ Ok at → IsSearchInRange r (length codes) → IsBinarySearchResult (λ y. slice_cmp nat_cmp y code) codes r
    → slice_get codes at ≡ Some code
found_at codes code (Ok i) at is within found =
    let same : i ≡ at = cc in
    subst (λ k. slice_get codes k ≡ Some code) same (slice_get_read codes (length codes) i code refl within (sym (equal_same (get_or codes i code) code (found code))))
found_at codes code (Err i) at is within found = absurd cc

not_there : (codes : List (List ℕ)) (code : List ℕ) (at : ℕ) → AreSorted codes → IsBinarySearchResult (λ y. slice_cmp nat_cmp y code) codes (Err at) → Contains codes code → ⊥
not_there codes code at sorted found (k, lt, here) =
    let point = found (searchable_from_sorted nat_list_cmp_total (λ x. x) codes code (sorted_weakly codes sorted)) in
    elim (cases_lt k at) [
      | inl below ↦ not_both code Less refl (subst (λ y. slice_cmp nat_cmp y code ≡ Less) here (point.0 k code (omega arith) below))
      | inr above ↦ not_both code Greater refl (subst (λ y. slice_cmp nat_cmp y code ≡ Greater) here (point.1 k code above lt))
    ]

pub found_nowhere : (codes : List (List ℕ)) (code : List ℕ) (r : Result ℕ ℕ) (at : ℕ) → r ≡ Err at → AreSorted codes → IsBinarySearchResult (λ y. slice_cmp nat_cmp y code) codes r
    → Contains codes code → ⊥
found_nowhere codes code (Ok i) at is sorted found contains = absurd cc
found_nowhere codes code (Err i) other is sorted found contains = not_there codes code i sorted found contains

pub sorted_none : AreSorted []
unfolding IsStrictlySortedBy
sorted_none = tt
