-- Codes whose texts are all there and all different, one after the other.
use Rattle.std.proofs.Common.{◌≡◌, ℕ, ◌<◌, ◌≤◌, ◌+◌, ◌⊎◌, inl, inr, Bool, true, false, true≢false, not, IsTrue, List, [], length, Option, Some, None, is_some, Contains, Bor, refl, sym, ap, ◌∙◌, arith}
use Rattle.std.specs.Prelude.{slice_get}
use Rattle.std.specs.Bool.{if◌then◌else◌}
use Rattle.std.specs.HashSet.{HashSet}
use Rattle.std.specs.List.{list_any}
use Rattle.std.specs.Str.{bytes_eq}
use Rattle.std.proofs.lemmas.Option.{slice_get_within}
use Rattle.std.proofs.lemmas.Slice.Eq.{bytes_eq-Decides}
use Rattle.repo_objects.specs.declared.objects.CodeDef.{CodeDef}
use Rattle.reference_check.specs.inner.SeenTexts.{SeenTexts, is_seen}
use Rattle.reference_check.proofs.Lists.{below_or_last, contained, item_of, one_item}

-- nothing is kept at first
pub nothing_seen : {S : Type 0} (text : CodeDef → Option (List ℕ)) (cs : List CodeDef) (seen : HashSet (Bor (List ℕ)) S) → seen.keys ≡ [] → SeenTexts text cs 0 (is_seen seen)
nothing_seen text cs seen empty = record {
  texted = λ i a less. absurd (omega (arith, less));
  apart = λ i j a b t less below. absurd (omega (arith, below));
  kept = λ t. (λ h. absurd (true≢false (sym h ∙ ap (list_any (λ k. bytes_eq t k.now)) empty)), λ (i, a, less, at, is). absurd (omega (arith, less)));
}

-- what breaks the rule, of codes with these texts
abbrev pub AreBad : (CodeDef → Option (List ℕ)) → List CodeDef → Type 0
AreBad text cs =
    ((c : CodeDef) × Contains cs c × (text c ≡ None))
    ⊎ ((i : ℕ) × (j : ℕ) × (a : CodeDef) × (b : CodeDef) × (t : List ℕ) × (i < j) × (slice_get cs i ≡ Some a) × (slice_get cs j ≡ Some b) × (text a ≡ Some t) × (text b ≡ Some t))

module _ (text : CodeDef → Option (List ℕ)) (cs : List CodeDef) (n : ℕ) where
  pub no_text_is_bad : (c : CodeDef) → slice_get cs n ≡ Some c → text c ≡ None → AreBad text cs
  no_text_is_bad c at none = inl (c, contained cs n c at, none)

  pub twice_is_bad : (seen : List ℕ → Bool) (c : CodeDef) (t : List ℕ) → SeenTexts text cs n seen → slice_get cs n ≡ Some c → text c ≡ Some t → IsTrue (seen t) → AreBad text cs
  twice_is_bad seen c t so_far at is found = let (i, a, less, there, same) = (so_far.kept t).0 found in inr (i, n, a, c, t, less, there, at, same, is)

  pub all_is_well : (seen : List ℕ → Bool) → SeenTexts text cs n seen → length cs ≤ n → AreBad text cs → ⊥
  all_is_well seen so_far whole (inl (c, among, none)) = let (i, l, at) = item_of cs c among in so_far.texted i c (omega (arith, l, whole)) at none
  all_is_well seen so_far whole (inr (i, j, a, b, t, less, first, second, one, other)) =
      let within = slice_get_within cs j b second in so_far.apart i j a b t less (omega (arith, within, whole)) first second one other

  pub one_more_seen : (old new : List ℕ → Bool) (c : CodeDef) (t : List ℕ) → SeenTexts text cs n old → slice_get cs n ≡ Some c → text c ≡ Some t → old t ≡ false
      → ((q : List ℕ) → new q ≡ (if bytes_eq t q then true else old q)) → SeenTexts text cs (n + 1) new
  one_more_seen old new c t so_far at is fresh step = record { texted = texted_more; apart = apart_more; kept = λ q. (kept_there q, there_kept q) }
    where
      texted_more : (i : ℕ) (a : CodeDef) → i < n + 1 → slice_get cs i ≡ Some a → text a ≡ None → ⊥
      texted_more i a less there none =
          elim (below_or_last i n less) [
            | inl before ↦ so_far.texted i a before there none
            | inr here ↦ (let same : a ≡ c = one_item cs i n a c here there at in true≢false (sym (ap is_some (sym none ∙ ap text same ∙ is))))
          ]

      apart_more : (i j : ℕ) (a b : CodeDef) (q : List ℕ) → i < j → j < n + 1 → slice_get cs i ≡ Some a → slice_get cs j ≡ Some b → text a ≡ Some q → text b ≡ Some q → ⊥
      apart_more i j a b q less below first second one other =
          elim (below_or_last j n below) [
            | inl before ↦ so_far.apart i j a b q less before first second one other
            | inr here ↦ (
                let same : b ≡ c = one_item cs j n b c here second at in
                let texts : Some q ≡ Some t = sym other ∙ ap text same ∙ is in
                let text_is : q ≡ t = cc in
                true≢false (sym ((so_far.kept t).1 (i, a, omega (arith, less, here), first, one ∙ ap Some text_is)) ∙ fresh)
                )
          ]

      kept_there : (q : List ℕ) → IsTrue (new q) → (i : ℕ) × (a : CodeDef) × (i < n + 1) × (slice_get cs i ≡ Some a) × (text a ≡ Some q)
      kept_there q h = by (bytes_eq t q) refl
        where
          by : (b : Bool) → bytes_eq t q ≡ b → (i : ℕ) × (a : CodeDef) × (i < n + 1) × (slice_get cs i ≡ Some a) × (text a ≡ Some q)
          by true same = (n, c, omega arith, at, is ∙ ap Some ((bytes_eq-Decides t q).0 same))
          by false other =
              let before : old q ≡ true = ap (λ b. if b then true else old q) (sym other) ∙ sym (step q) ∙ h in
              let (i, a, less, there, found) = (so_far.kept q).0 before in (i, a, omega (arith, less), there, found)

      there_kept : (q : List ℕ) → ((i : ℕ) × (a : CodeDef) × (i < n + 1) × (slice_get cs i ≡ Some a) × (text a ≡ Some q)) → IsTrue (new q)
      there_kept q (i, a, less, there, found) = step q ∙ by (bytes_eq t q) refl
        where
          by : (b : Bool) → bytes_eq t q ≡ b → (if b then true else old q) ≡ true
          by true same = refl
          by false other =
              elim (below_or_last i n less) [
                | inl before ↦ (so_far.kept q).1 (i, a, before, there, found)
                | inr here ↦ (
                    let same : a ≡ c = one_item cs i n a c here there at in
                    let texts : Some q ≡ Some t = sym found ∙ ap text same ∙ is in
                    let text_is : q ≡ t = cc in
                    absurd (true≢false (sym ((bytes_eq-Decides t q).1 (sym text_is)) ∙ other))
                    )
              ]

-- a text that is put into the set
pub seen_updated : {S : Type 0} (m n : HashSet (Bor (List ℕ)) S) (key : Bor (List ℕ)) → ((q : Bor (List ℕ)) → is_seen n q.now ≡ (if bytes_eq key.now q.now then true else is_seen m q.now))
    → (q : List ℕ) → is_seen n q ≡ (if bytes_eq key.now q then true else is_seen m q)
seen_updated m n key h q = h (record key { now = q })

-- what an insert answers
pub was_seen : (old added : Bool) → added ≡ not old → added ≡ false → old ≡ true
was_seen true added is h = refl
was_seen false added is h = absurd (true≢false (sym is ∙ h))

pub was_fresh : (old added : Bool) → added ≡ not old → added ≡ true → old ≡ false
was_fresh true added is h = absurd (true≢false (sym h ∙ is))
was_fresh false added is h = refl
