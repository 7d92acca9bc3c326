-- Attributes in the order of their names: those that a stable sort put into it, and those that stand in it.
use Rattle.std.proofs.Common.{◌≡◌, ◌≤◌, ℕ, zero, suc, Bool, true, false, ◌||◌, List, [], ◌∷◌, length, drop, map, refl, sym, ap, ◌∙◌, arith}
use Rattle.std.specs.Cmp.{IsTotalOrder}
use Rattle.std.specs.Ordering.{is_lt, is_eq}
use Rattle.std.proofs.lemmas.Bool.{and_parts, both_ways}
use Rattle.std.specs.declared.cmp.Ordering.{Ordering}
use Rattle.std.specs.declared.cmp.Ordering.TheVariants.{Less, Equal, Greater}
use Rattle.std.proofs.lemmas.Cmp.{on_total}
use Rattle.lexical_core.specs.Names.{name_cmp}
use Rattle.lexical_core.proofs.StableSort.{put_by, sorted_by}
use Rattle.lexical_core.specs.Tree.{Entry}
use Rattle.markup.specs.Events.{put}
use Rattle.markup.specs.inner.TagParts.{sorted_entries, is_below_first, are_ascending, first_is_named, has_twins}
use Rattle.markup.proofs.Twins.{entries_total, by_name, named_tied}

module _ {X : Type 0} (entry : X → Entry) where
  abbrev pub in_order : X → X → Ordering
  in_order x y = by_name (entry x) (entry y)

  pub in_order_total : IsTotalOrder in_order
  in_order_total = on_total entry entries_total

  map-put : (x : X) (ys : List X) → map entry (put_by in_order x ys) ≡ put (entry x) (map entry ys)
  map-put x [] = refl
  map-put x (y ∷ ys) = case (in_order x y) (map-put x ys)
    where
      case : (o : Ordering) → map entry (put_by in_order x ys) ≡ put (entry x) (map entry ys)
          → map entry (elim o as (λ _. List X) [ Less ↦ x ∷ y ∷ ys | Equal ↦ x ∷ y ∷ ys | Greater ↦ y ∷ put_by in_order x ys ])
          ≡ elim o as (λ _. List Entry) [ Less ↦ entry x ∷ entry y ∷ map entry ys | Equal ↦ entry x ∷ entry y ∷ map entry ys | Greater ↦ entry y ∷ put (entry x) (map entry ys) ]
      case Less so = refl
      case Equal so = refl
      case Greater so = ap (λ zs. entry y ∷ zs) so

  pub map-sorted : (xs : List X) → map entry (sorted_by in_order xs) ≡ sorted_entries (map entry xs)
  map-sorted [] = refl
  map-sorted (x ∷ xs) = map-put x (sorted_by in_order xs) ∙ ap (put (entry x)) (map-sorted xs)

-- ---- names that ascend

put_first : (e : Entry) (es : List Entry) → is_below_first e.name es ≡ true → put e es ≡ e ∷ es
put_first e [] b = refl
put_first e (x ∷ es) b = case (name_cmp e.name x.name) b
  where
    case : (o : Ordering) → is_lt o ≡ true → (elim o as (λ _. List Entry) [ Less ↦ e ∷ x ∷ es | Equal ↦ e ∷ x ∷ es | Greater ↦ x ∷ put e es ]) ≡ e ∷ x ∷ es
    case Less h = refl
    case Equal h = refl
    case Greater h = absurd (both_ways false refl h)

-- entries whose names ascend are sorted, and no two neighbours have one name
pub ascending_sorted : (es : List Entry) → are_ascending es ≡ true → es ≡ sorted_entries es
ascending_sorted [] a = refl
ascending_sorted (e ∷ es) a =
    let parts = and_parts (is_below_first e.name es) (are_ascending es) a in
    sym (put_first e es parts.0) ∙ ap (put e) (ascending_sorted es parts.1)

below_apart : (e : Entry) (es : List Entry) → is_below_first e.name es ≡ true → first_is_named e.name es ≡ false
below_apart e [] b = refl
below_apart e (x ∷ es) b = sym (named_tied e.name x) ∙ case (name_cmp e.name x.name) b
  where
    case : (o : Ordering) → is_lt o ≡ true → is_eq o ≡ false
    case Less h = refl
    case Equal h = absurd (both_ways false refl h)
    case Greater h = refl

pub ascending_apart : (es : List Entry) → are_ascending es ≡ true → has_twins es ≡ false
ascending_apart [] a = refl
ascending_apart (e ∷ es) a =
    let parts = and_parts (is_below_first e.name es) (are_ascending es) a in
    ap (λ b. b || has_twins es) (below_apart e es parts.0) ∙ ascending_apart es parts.1

-- ---- behind the last of them

-- what is asked of neighbours has one answer where there are none
pub without_neighbours : {X : Type 0} (entry : X → Entry) (asked : List Entry → Bool) (answer : Bool) → asked [] ≡ answer → ((e : Entry) → asked (e ∷ []) ≡ answer)
    → (xs : List X) (i : ℕ) → length xs ≤ suc i → asked (map entry (drop i xs)) ≡ answer
without_neighbours entry asked answer none one [] zero l = none
without_neighbours entry asked answer none one [] (suc i) l = none
without_neighbours entry asked answer none one (x ∷ []) zero l = one (entry x)
without_neighbours entry asked answer none one (x ∷ []) (suc i) l = without_neighbours entry asked answer none one [] i (omega (arith, l))
without_neighbours entry asked answer none one (x ∷ y ∷ more) zero l = absurd (omega (arith, l))
without_neighbours entry asked answer none one (x ∷ y ∷ more) (suc i) l = without_neighbours entry asked answer none one (y ∷ more) i (omega (arith, l))
