-- Attributes that a sort without memory put into the order of their names: where no two have one name, there is one such order.
use Rattle.std.proofs.Common.{◌≡◌, ◌≤◌, suc, Bool, true, false, not, cond, ◌&&◌, ◌||◌, List, [], ◌∷◌, length, map, Bor, refl, sym, ap, ◌∙◌, subst, arith}
use Rattle.std.specs.Cmp.{IsStrictWeakOrder}
use Rattle.std.specs.Fn.{Called, ComparesAs}
use Rattle.std.specs.List.{AllByRecursion, IsDistinct, filter, list_any}
use Rattle.std.specs.List.Sorted.{IsPermutation, IsSortedBy, IsStableBy, ties}
use Rattle.std.specs.Ordering.{is_lt, is_eq, ordering_reverse}
use Rattle.std.specs.declared.cmp.Ordering.{Ordering}
use Rattle.std.specs.declared.cmp.Ordering.TheVariants.{Less, Equal, Greater}
use Rattle.std.proofs.lemmas.Bool.{both_ways, or_parts}
use Rattle.std.proofs.lemmas.Fn.{always_returns_same}
use Rattle.std.proofs.lemmas.List.Elements.{recursion_from_All, All-from_recursion}
use Rattle.std.proofs.lemmas.List.Sorted.{ranks_by, All-permutation, IsPermutation-map, IsPermutation-sym, list_any-IsPermutation}
use Rattle.std.proofs.lemmas.Map.Keys.{IsDistinct-IsPermutation}
use Rattle.lexical_core.specs.Names.{name_cmp}
use Rattle.lexical_core.specs.Tree.{Entry}
use Rattle.lexical_core.proofs.Lists.{same_first, same_rest}
use Rattle.lexical_core.proofs.StableSort.{by_less, sorted_is}
use Rattle.markup.specs.inner.TagParts.{is_named, has_twins, sorted_entries}
use Rattle.markup.proofs.SortedAttributes.{in_order, in_order_total, map-sorted}
use Rattle.markup.proofs.Twins.{any-put, any_twins, any_twins-put, twins_next, entries_total, by_name, named_tied, named_back, named_same}
use denote.Param.Members.{Mut}

-- ---- entries of one name, in whatever order

any_sorted : (p : Entry → Bool) (es : List Entry) → list_any p (sorted_entries es) ≡ list_any p es
any_sorted p [] = refl
any_sorted p (e ∷ es) = any-put p e (sorted_entries es) ∙ ap (λ b. p e || b) (any_sorted p es)

twins_sorted : (es : List Entry) → any_twins (sorted_entries es) ≡ any_twins es
twins_sorted [] = refl
twins_sorted (e ∷ es) = any_twins-put e (sorted_entries es) ∙ (ap (λ b. b || any_twins (sorted_entries es)) (any_sorted (is_named e.name) es) ∙ ap (λ b. list_any (is_named e.name) es || b) (twins_sorted es))

abbrev same_named : Entry → Entry → Bool
same_named x y = is_named x.name y

none_by : (x : Entry) (es : List Entry) → list_any (is_named x.name) es ≡ false → AllByRecursion (λ y. same_named x y ≡ false) es
none_by x [] n = tt
none_by x (y ∷ es) n = let parts = or_parts (is_named x.name y) (list_any (is_named x.name) es) n in (parts.0, none_by x es parts.1)

none_any : (x : Entry) (es : List Entry) → AllByRecursion (λ y. same_named x y ≡ false) es → list_any (is_named x.name) es ≡ false
none_any x [] all = refl
none_any x (y ∷ es) all = ap (λ b. b || list_any (is_named x.name) es) all.0 ∙ none_any x es all.1

distinct_from : (es : List Entry) → any_twins es ≡ false → IsDistinct same_named es
unfolding IsDistinct
distinct_from [] n = tt
distinct_from (e ∷ es) n = let parts = or_parts (list_any (is_named e.name) es) (any_twins es) n in (none_by e es parts.0, distinct_from es parts.1)

distinct_to : (es : List Entry) → IsDistinct same_named es → any_twins es ≡ false
unfolding IsDistinct
distinct_to [] d = refl
distinct_to (e ∷ es) d = ap (λ b. b || any_twins es) (none_any e es d.0) ∙ distinct_to es d.1

none_moved : (es fs : List Entry) → IsPermutation es fs → any_twins es ≡ false → any_twins fs ≡ false
none_moved es fs same n = distinct_to fs (IsDistinct-IsPermutation same_named named_back es fs same (distinct_from es n))

twins_moved : (es fs : List Entry) → IsPermutation es fs → any_twins es ≡ any_twins fs
twins_moved es fs same = case (any_twins es) (any_twins fs) refl refl
  where
    case : (b c : Bool) → any_twins es ≡ b → any_twins fs ≡ c → b ≡ c
    case true true e f = refl
    case false false e f = refl
    case true false e f = absurd (both_ways (any_twins es) (none_moved fs es (IsPermutation-sym es fs same) f) e)
    case false true e f = absurd (both_ways (any_twins fs) (none_moved es fs same e) f)

-- ---- those that pass a test

module _ {X : Type 0} (p : X → Bool) where
  none_pass : (xs : List X) → list_any p xs ≡ false → filter p xs ≡ []
  none_pass [] n = refl
  none_pass (x ∷ xs) n = let parts = or_parts (p x) (list_any p xs) n in ap (λ b. cond b (x ∷ filter p xs) (filter p xs)) parts.0 ∙ none_pass xs parts.1

  one_passes : (xs : List X) (a : X) → AllByRecursion (λ z. p z ≡ true → z ≡ a) xs → length (filter p xs) ≤ 1 → list_any p xs ≡ true → filter p xs ≡ a ∷ []
  one_passes [] a all few some = absurd (both_ways false refl some)
  one_passes (x ∷ xs) a all few some = case (p x) refl few some (one_passes xs a all.1)
    where
      Few : Bool → Type 0
      Few b = length (cond b (x ∷ filter p xs) (filter p xs)) ≤ 1

      case : (b : Bool) → p x ≡ b → Few (p x) → (p x || list_any p xs) ≡ true → (length (filter p xs) ≤ 1 → list_any p xs ≡ true → filter p xs ≡ a ∷ []) → filter p (x ∷ xs) ≡ a ∷ []
      case true e few some so =
          let none : filter p xs ≡ [] = empty (filter p xs) (subst Few e few) in
          ap (λ b. cond b (x ∷ filter p xs) (filter p xs)) e ∙ (ap (λ zs. x ∷ zs) none ∙ ap (λ z. z ∷ []) (all.0 e))
        where
          empty : (zs : List X) → suc (length zs) ≤ 1 → zs ≡ []
          empty [] l = refl
          empty (z ∷ zs) l = absurd (omega (arith, l))
      case false e few some so = ap (λ b. cond b (x ∷ filter p xs) (filter p xs)) e ∙ so (subst Few e few) (sym (ap (λ b. b || list_any p xs) e) ∙ some)

  -- what passes behind the first element
  behind : (x : X) (xs rest : List X) → p x ≡ true → filter p (x ∷ xs) ≡ rest → x ∷ filter p xs ≡ rest
  behind x xs rest t e = sym (ap (λ b. cond b (x ∷ filter p xs) (filter p xs)) t) ∙ e

  beyond : (x : X) (xs rest : List X) → p x ≡ false → filter p (x ∷ xs) ≡ rest → filter p xs ≡ rest
  beyond x xs rest f e = sym (ap (λ b. cond b (x ∷ filter p xs) (filter p xs)) f) ∙ e

  filled : (x : X) (xs : List X) → x ∷ xs ≡ [] → ⊥
  filled x xs h = omega (arith, ap length h)

  passes_none : (xs : List X) → filter p xs ≡ [] → list_any p xs ≡ false
  passes_none [] n = refl
  passes_none (x ∷ xs) n = case (p x) refl (λ f. passes_none xs (beyond x xs [] f n))
    where
      case : (b : Bool) → p x ≡ b → (p x ≡ false → list_any p xs ≡ false) → list_any p (x ∷ xs) ≡ false
      case true t so = absurd (filled x (filter p xs) (behind x xs [] t n))
      case false f so = ap (λ b. b || list_any p xs) f ∙ so f

  none_equal : (xs : List X) (a : X) → list_any p xs ≡ false → AllByRecursion (λ z. p z ≡ true → z ≡ a) xs
  none_equal [] a n = tt
  none_equal (x ∷ xs) a n = let parts = or_parts (p x) (list_any p xs) n in (λ t. absurd (both_ways (p x) parts.0 t), none_equal xs a parts.1)

  all_equal : (xs : List X) (a : X) → filter p xs ≡ a ∷ [] → AllByRecursion (λ z. p z ≡ true → z ≡ a) xs
  all_equal [] a e = tt
  all_equal (x ∷ xs) a e = (λ t. same_first x a (filter p xs) [] (behind x xs (a ∷ []) t e), case (p x) refl (λ f. all_equal xs a (beyond x xs (a ∷ []) f e)))
    where
      case : (b : Bool) → p x ≡ b → (p x ≡ false → AllByRecursion (λ z. p z ≡ true → z ≡ a) xs) → AllByRecursion (λ z. p z ≡ true → z ≡ a) xs
      case true t so = none_equal xs a (passes_none xs (same_rest x a (filter p xs) [] (behind x xs (a ∷ []) t e)))
      case false f so = so f

  passes_some : (xs : List X) (a : X) → filter p xs ≡ a ∷ [] → list_any p xs ≡ true
  passes_some xs a e = case (list_any p xs) refl
    where
      case : (b : Bool) → list_any p xs ≡ b → list_any p xs ≡ true
      case true f = f
      case false f = absurd (filled a [] (sym e ∙ none_pass xs f))

  -- where at most one passes, the same one does in any order
  pass_moved : (xs ys : List X) → IsPermutation xs ys → length (filter p xs) ≤ 1 → length (filter p ys) ≤ 1 → filter p ys ≡ filter p xs
  pass_moved xs ys same few_xs few_ys = case (filter p xs) refl few_xs
    where
      case : (zs : List X) → filter p xs ≡ zs → length (filter p xs) ≤ 1 → filter p ys ≡ filter p xs
      case [] e few = none_pass ys (sym (list_any-IsPermutation p xs ys same) ∙ passes_none xs e) ∙ sym e
      case (a ∷ []) e few =
          one_passes ys a (recursion_from_All (λ z. p z ≡ true → z ≡ a) ys (All-permutation (λ z. p z ≡ true → z ≡ a) xs ys same (All-from_recursion (λ z. p z ≡ true → z ≡ a) xs (all_equal xs a e)))) few_ys
          (sym (list_any-IsPermutation p xs ys same) ∙ passes_some xs a e) ∙ sym e
      case (a ∷ b ∷ more) e few = absurd (omega (arith, few, ap length e))

-- ---- the order

module _ {X : Type 0} (entry : X → Entry) where
  abbrev lt : X → X → Bool
  lt = by_less (in_order entry)

  ties_named : (x y : X) → ties lt x y ≡ is_named (entry x).name (entry y)
  ties_named x y = ap (λ q. not (is_lt (by_name (entry x) (entry y))) && not (is_lt q)) (entries_total.antisymm (entry y) (entry x)) ∙ (tied (by_name (entry x) (entry y)) ∙ named_tied (entry x).name (entry y))
    where
      tied : (o : Ordering) → (not (is_lt o) && not (is_lt (ordering_reverse o))) ≡ is_eq o
      tied Less = refl
      tied Equal = refl
      tied Greater = refl

  few : (x : X) (xs : List X) → any_twins (map entry xs) ≡ false → length (filter (ties lt x) xs) ≤ 1
  few x [] n = omega arith
  few x (y ∷ ys) n = case (ties lt x y) refl (few x ys parts.1)
    where
      parts : (list_any (is_named (entry y).name) (map entry ys) ≡ false) × (any_twins (map entry ys) ≡ false)
      parts = or_parts (list_any (is_named (entry y).name) (map entry ys)) (any_twins (map entry ys)) n

      others : (zs : List X) → (entry x).name ≡ (entry y).name → list_any (is_named (entry y).name) (map entry zs) ≡ false → filter (ties lt x) zs ≡ []
      others [] same m = refl
      others (z ∷ zs) same m =
          let apart = or_parts (is_named (entry y).name (entry z)) (list_any (is_named (entry y).name) (map entry zs)) m in
          ap (λ b. cond b (z ∷ filter (ties lt x) zs) (filter (ties lt x) zs)) (ties_named x z ∙ (ap (λ k. is_named k (entry z)) same ∙ apart.0)) ∙ others zs same apart.1

      case : (b : Bool) → ties lt x y ≡ b → length (filter (ties lt x) ys) ≤ 1 → length (filter (ties lt x) (y ∷ ys)) ≤ 1
      case false e so = subst (λ b. length (cond b (y ∷ filter (ties lt x) ys) (filter (ties lt x) ys)) ≤ 1) (sym e) so
      case true e so =
          let none : filter (ties lt x) ys ≡ [] = others ys (named_same (entry x) (entry y) (sym (ties_named x y) ∙ e)) parts.0 in
          subst (λ b. length (cond b (y ∷ filter (ties lt x) ys) (filter (ties lt x) ys)) ≤ 1) (sym e) (omega (arith, ap length none))

  stable : (xs ys : List X) → IsPermutation xs ys → any_twins (map entry xs) ≡ false → IsStableBy lt xs ys
  stable xs ys same n x = pass_moved (ties lt x) xs ys same (few x xs n) (few x ys (none_moved (map entry xs) (map entry ys) (IsPermutation-map entry xs ys same) n))

  -- from what `sort_unstable_by` says of a closure that compares names
  pub unique_names : {F : Type 0} {g : Mut F (Bor X × (Bor X × Unit {0})) Ordering} {f : F} (xs ys : List X) → ((lt : X → X → Bool) → IsStrictWeakOrder lt → ComparesAs g lt f → IsSortedBy lt ys) → IsPermutation xs ys
      → ((a : Bor X × (Bor X × Unit {0})) (r : Ordering) (f' : F) → Called g f a r f' → (r ≡ name_cmp (entry a.0.now).name (entry a.1.0.now).name) × (f' ≡ f))
      → (has_twins (map entry ys) ≡ has_twins (sorted_entries (map entry xs))) × (has_twins (map entry ys) ≡ false → map entry ys ≡ sorted_entries (map entry xs))
  unique_names {g = g} {f = f} xs ys sorted same calls =
      let order : IsStrictWeakOrder lt = ranks_by (in_order_total entry) (λ x. x) in
      let compares : ComparesAs g lt f = always_returns_same g (λ a r. is_lt r ≡ lt a.0.now a.1.0.now) f (λ a r f' k. (ap is_lt (calls a r f' k).0, (calls a r f' k).1)) in
      let up : IsSortedBy lt ys = sorted lt order compares in
      let itself : map entry ys ≡ sorted_entries (map entry ys) = ap (map entry) (sorted_is (in_order_total entry) ys ys up (λ x. refl)) ∙ map-sorted entry ys in
      let among : has_twins (map entry ys) ≡ any_twins (map entry xs) = ap has_twins itself ∙ (sym (twins_next (map entry ys)) ∙ (twins_sorted (map entry ys) ∙ sym (twins_moved (map entry xs) (map entry ys) (IsPermutation-map entry xs ys same)))) in (
        among ∙ (sym (twins_sorted (map entry xs)) ∙ twins_next (map entry xs)),
        λ n. ap (map entry) (sorted_is (in_order_total entry) xs ys up (stable xs ys same (sym among ∙ n))) ∙ map-sorted entry xs,
      )
