-- Long namespaces in order: how the order is kept as declarations open and close, and what two ranks tell.
use Rattle.std.proofs.Common.{◌≡◌, ℕ, zero, suc, ◌+◌, ◌<◌, ◌≤◌, List, [], ◌∷◌, ◌++◌, length, get_or, map, Option, Some, None, ⊎_elim, refl, sym, ap, ap₂, subst, ◌∙◌, arith}
use Rattle.std.specs.List.{insert, remove}
use Rattle.std.specs.Cmp.{nat_cmp_is}
use Rattle.std.specs.Cmp.Lexicographic.{slice_cmp}
use Rattle.std.specs.Ordering.{nat_cmp, ordering_reverse}
use Rattle.std.specs.declared.cmp.Ordering.{Ordering}
use Rattle.std.specs.declared.cmp.Ordering.TheVariants.{Less, Equal, Greater}
use Rattle.std.proofs.lemmas.Bool.Decides.{leb_tells}
use Rattle.std.proofs.lemmas.Cmp.{nat_list_cmp_total}
use Rattle.std.proofs.lemmas.List.{get_or_append_left, get_or_push, get_or_past, length-append}
use Rattle.std.proofs.Math.ListN.{get_or-map}
use Rattle.std.proofs.lemmas.List.Edits.{get_or-insert_at, get_or-insert_below, get_or-insert_above, get_or-remove_below, get_or-remove_above, length-insert, length-remove}
use Rattle.markup.specs.declared.open_bindings.Binding.{Binding}
use Rattle.markup.specs.declared.open_bindings.Kept.{Kept}
use Rattle.markup.specs.inner.Ranks.{no_binding, no_kept, kept_namespace, like_at, ranked_at, IsRankedAt, HasRank, IsRanked, IsAboveLower, IsBelowUpper, FitsOrder, IsWithout}

-- ---- how two namespaces stand

abbrev how : List ℕ → List ℕ → Ordering
how x y = slice_cmp nat_cmp x y

turned : (x y : List ℕ) (r : Ordering) → slice_cmp nat_cmp x y ≡ r → slice_cmp nat_cmp y x ≡ ordering_reverse r
turned x y r e = nat_list_cmp_total.antisymm y x ∙ ap ordering_reverse e

reversed_same : (r : Ordering) → r ≡ ordering_reverse r → r ≡ Equal
reversed_same Less e = absurd cc
reversed_same Equal e = refl
reversed_same Greater e = absurd cc

pub same_compared : (x y : List ℕ) → x ≡ y → slice_cmp nat_cmp x y ≡ Equal
same_compared x y e = ap (slice_cmp nat_cmp x) (sym e) ∙ reversed_same (slice_cmp nat_cmp x x) (nat_list_cmp_total.antisymm x x)

not_below_itself : (x y : List ℕ) → slice_cmp nat_cmp x y ≡ Less → x ≡ y → ⊥
not_below_itself x y less same = let tie : slice_cmp nat_cmp x y ≡ Equal = same_compared x y same in absurd cc

-- ---- places

near : (m n : ℕ) {Z : Type 0} → (m ≤ n → Z) → (n < m → Z) → Z
near m n within past = ⊎_elim (λ t. within t.1) (λ t. past t.1) (leb_tells m n)

none_said : (like : ℕ) → ◌≡◌ {A = Option ℕ} None (Some like) → ⊥
none_said like e = absurd cc

-- what is said of a place is said of one that is kept
said_within : (kept : List Kept) (place like : ℕ) → like_at kept place ≡ Some like → place < length kept
said_within kept place like said = near (length kept) place (λ past. absurd (none_said like (sym (ap (λ (k : Kept). k.like) (get_or_past kept place no_kept past)) ∙ said))) (λ below. below)

module _ (kept : List Kept) (last : Kept) where
  same_read : (place : ℕ) → place < length kept → get_or (kept ++ last ∷ []) place no_kept ≡ get_or kept place no_kept
  same_read place below = get_or_append_left kept (last ∷ []) no_kept place below

  same_like : (place : ℕ) → place < length kept → like_at (kept ++ last ∷ []) place ≡ like_at kept place
  same_like place below = ap (λ (k : Kept). k.like) (same_read place below)

  same_namespace : (place : ℕ) → place < length kept → kept_namespace (kept ++ last ∷ []) place ≡ kept_namespace kept place
  same_namespace place below = ap (λ (k : Kept). k.binding.namespace) (same_read place below)

  last_read : get_or (kept ++ last ∷ []) (length kept) no_kept ≡ last
  last_read = get_or_push kept last no_kept (length kept) refl

  long_more : length (kept ++ last ∷ []) ≡ length kept + 1
  long_more = length-append kept (last ∷ [])

-- ---- one declaration more

pub ranked_push : (kept : List Kept) (last : Kept) (order : List ℕ) → IsRanked kept order
    → ((like : ℕ) → last.like ≡ Some like → (like ≤ length kept) × (kept_namespace (kept ++ last ∷ []) like ≡ last.binding.namespace)) → IsRanked (kept ++ last ∷ []) order
ranked_push kept last order was is_like = record { alike = alike; own = own; ascend = ascend }
  where
    more : List Kept
    more = kept ++ last ∷ []

    alike : (place like : ℕ) → like_at more place ≡ Some like → (like ≤ place) × (kept_namespace more like ≡ kept_namespace more place)
    alike place like said = near (length kept) place beyond before
      where
        before : place < length kept → (like ≤ place) × (kept_namespace more like ≡ kept_namespace more place)
        before below =
            let old = was.alike place like (sym (same_like kept last place below) ∙ said) in
            (old.0, same_namespace kept last like (let up : like ≤ place = old.0 in omega arith) ∙ old.1 ∙ sym (same_namespace kept last place below))

        at_end : place ≡ length kept → (like ≤ place) × (kept_namespace more like ≡ kept_namespace more place)
        at_end here =
            let read : get_or more place no_kept ≡ last = ap (λ n. get_or more n no_kept) here ∙ last_read kept last in
            let new = is_like like (sym (ap (λ (k : Kept). k.like) read) ∙ said) in
            (subst (λ n. like ≤ n) (sym here) new.0, new.1 ∙ sym (ap (λ (k : Kept). k.binding.namespace) read))

        beyond : length kept ≤ place → (like ≤ place) × (kept_namespace more like ≡ kept_namespace more place)
        beyond past = let there : place < length more = said_within more place like said in at_end (omega (arith, past, there, long_more kept last))

    inside : (rank : ℕ) → rank < length order → ranked_at order rank < length kept
    inside rank within = said_within kept (ranked_at order rank) (ranked_at order rank) (was.own rank within)

    own : (rank : ℕ) → rank < length order → like_at more (ranked_at order rank) ≡ Some (ranked_at order rank)
    own rank within = same_like kept last (ranked_at order rank) (inside rank within) ∙ was.own rank within

    ascend : (lower upper : ℕ) → lower < upper → upper < length order → slice_cmp nat_cmp (kept_namespace more (ranked_at order lower)) (kept_namespace more (ranked_at order upper)) ≡ Less
    ascend lower upper up within =
        ap₂ how (same_namespace kept last (ranked_at order lower) (inside lower (omega (arith, up, within)))) (same_namespace kept last (ranked_at order upper) (inside upper within))
        ∙ was.ascend lower upper up within

-- ---- one declaration less

pub ranked_pop : (kept : List Kept) (last : Kept) (order : List ℕ) → IsRanked (kept ++ last ∷ []) order → IsWithout order (length kept) → IsRanked kept order
ranked_pop kept last order was without = record { alike = alike; own = own; ascend = ascend }
  where
    more : List Kept
    more = kept ++ last ∷ []

    alike : (place like : ℕ) → like_at kept place ≡ Some like → (like ≤ place) × (kept_namespace kept like ≡ kept_namespace kept place)
    alike place like said =
        let below : place < length kept = said_within kept place like said in
        let old = was.alike place like (same_like kept last place below ∙ said) in
        (old.0, sym (same_namespace kept last like (let up : like ≤ place = old.0 in omega arith)) ∙ old.1 ∙ same_namespace kept last place below)

    inside : (rank : ℕ) → rank < length order → ranked_at order rank < length kept
    inside rank within =
        let there : ranked_at order rank < length more = said_within more (ranked_at order rank) (ranked_at order rank) (was.own rank within) in
        near (length kept) (ranked_at order rank) (λ past. absurd (without rank within (omega (arith, past, there, long_more kept last)))) (λ below. below)

    own : (rank : ℕ) → rank < length order → like_at kept (ranked_at order rank) ≡ Some (ranked_at order rank)
    own rank within = sym (same_like kept last (ranked_at order rank) (inside rank within)) ∙ was.own rank within

    ascend : (lower upper : ℕ) → lower < upper → upper < length order → slice_cmp nat_cmp (kept_namespace kept (ranked_at order lower)) (kept_namespace kept (ranked_at order upper)) ≡ Less
    ascend lower upper up within =
        ap₂ how (sym (same_namespace kept last (ranked_at order lower) (inside lower (omega (arith, up, within))))) (sym (same_namespace kept last (ranked_at order upper) (inside upper within)))
        ∙ was.ascend lower upper up within

-- ---- a place put into the order

-- what stands at a rank once a place is put in
data Moved (order new : List ℕ) (spot place rank : ℕ) : Type 0 where
  Before : rank < spot → ranked_at new rank ≡ ranked_at order rank → Moved order new spot place rank
  Here : rank ≡ spot → ranked_at new rank ≡ place → Moved order new spot place rank
  Behind : (former : ℕ) → rank ≡ former + 1 → spot ≤ former → ranked_at new rank ≡ ranked_at order former → Moved order new spot place rank

moved : (order : List ℕ) (spot place rank : ℕ) → spot ≤ length order → Moved order (insert order spot place) spot place rank
moved order spot place rank fits = near spot rank not_before (λ below. Before below (get_or-insert_below order spot place 0 rank below fits))
  where
    behind : (n : ℕ) → rank ≡ n → spot < n → Moved order (insert order spot place) spot place rank
    behind zero same past = absurd (omega (arith, past))
    behind (suc former) same past =
        let next : rank ≡ former + 1 = omega (arith, same) in
        let from : spot ≤ former = omega (arith, past) in
        Behind former next from (ap (ranked_at (insert order spot place)) next ∙ get_or-insert_above order spot place 0 former from fits)

    not_before : spot ≤ rank → Moved order (insert order spot place) spot place rank
    not_before from = near rank spot
        (λ to. let here : rank ≡ spot = omega (arith, from, to) in Here here (ap (ranked_at (insert order spot place)) here ∙ get_or-insert_at order spot place 0 fits))
        (λ past. behind rank refl past)

pub ranked_insert : (kept : List Kept) (order : List ℕ) (spot place : ℕ) → IsRanked kept order → spot ≤ length order → like_at kept place ≡ Some place
    → ((rank : ℕ) → rank < spot → slice_cmp nat_cmp (kept_namespace kept (ranked_at order rank)) (kept_namespace kept place) ≡ Less)
    → ((rank : ℕ) → spot ≤ rank → rank < length order → slice_cmp nat_cmp (kept_namespace kept place) (kept_namespace kept (ranked_at order rank)) ≡ Less)
    → IsRanked kept (insert order spot place)
ranked_insert kept order spot place was fits itself lower upper = record { alike = was.alike; own = λ rank within. own rank within (moved order spot place rank fits); ascend = ascend }
  where
    new : List ℕ
    new = insert order spot place

    long : length new ≡ length order + 1
    long = length-insert order spot place fits

    named : (rank : ℕ) → List ℕ
    named rank = kept_namespace kept (ranked_at order rank)

    own : (rank : ℕ) → rank < length new → Moved order new spot place rank → like_at kept (ranked_at new rank) ≡ Some (ranked_at new rank)
    own rank within (Before below same) = subst (λ p. like_at kept p ≡ Some p) (sym same) (was.own rank (omega (arith, below, fits)))
    own rank within (Here here same) = subst (λ p. like_at kept p ≡ Some p) (sym same) itself
    own rank within (Behind former next from same) = subst (λ p. like_at kept p ≡ Some p) (sym same) (was.own former (omega (arith, next, within, long)))

    named_is : (p q : ℕ) → p ≡ q → kept_namespace kept p ≡ kept_namespace kept q
    named_is p q same = ap (kept_namespace kept) same

    both : (a b c d : ℕ) → a ≡ b → c ≡ d → slice_cmp nat_cmp (kept_namespace kept b) (kept_namespace kept d) ≡ Less → slice_cmp nat_cmp (kept_namespace kept a) (kept_namespace kept c) ≡ Less
    both a b c d first second less = ap₂ how (named_is a b first) (named_is c d second) ∙ less

    stand : (low high : ℕ) → low < high → high < length new → Moved order new spot place low → Moved order new spot place high
        → slice_cmp nat_cmp (kept_namespace kept (ranked_at new low)) (kept_namespace kept (ranked_at new high)) ≡ Less
    stand low high up within (Before below same) (Before under same') = both _ _ _ _ same same' (was.ascend low high up (omega (arith, under, fits)))
    stand low high up within (Before below same) (Here here same') = both _ _ _ _ same same' (lower low below)
    stand low high up within (Before below same) (Behind former next from same') = both _ _ _ _ same same' (was.ascend low former (omega (arith, below, from)) (omega (arith, next, within, long)))
    stand low high up within (Here here same) (Before under same') = absurd (omega (arith, here, under, up))
    stand low high up within (Here here same) (Here there same') = absurd (omega (arith, here, there, up))
    stand low high up within (Here here same) (Behind former next from same') = both _ _ _ _ same same' (upper former from (omega (arith, next, within, long)))
    stand low high up within (Behind first after from same) (Before under same') = absurd (omega (arith, after, from, under, up))
    stand low high up within (Behind first after from same) (Here there same') = absurd (omega (arith, after, from, there, up))
    stand low high up within (Behind first after from same) (Behind former next from' same') = both _ _ _ _ same same' (was.ascend first former (omega (arith, after, next, up)) (omega (arith, next, within, long)))

    ascend : (low high : ℕ) → low < high → high < length new → slice_cmp nat_cmp (kept_namespace kept (ranked_at new low)) (kept_namespace kept (ranked_at new high)) ≡ Less
    ascend low high up within = stand low high up within (moved order spot place low fits) (moved order spot place high fits)

-- ---- a place taken out of the order

data Left (order new : List ℕ) (spot rank : ℕ) : Type 0 where
  Before : rank < spot → ranked_at new rank ≡ ranked_at order rank → Left order new spot rank
  Behind : spot ≤ rank → ranked_at new rank ≡ ranked_at order (rank + 1) → Left order new spot rank

left_at : (order : List ℕ) (spot rank : ℕ) → spot < length order → Left order (remove order spot) spot rank
left_at order spot rank there = near spot rank (λ from. Behind from (get_or-remove_above order spot 0 rank from there)) (λ below. Before below (get_or-remove_below order spot 0 rank below there))

pub ranked_remove : (kept : List Kept) (order : List ℕ) (spot place : ℕ) → IsRanked kept order → IsRankedAt order spot place → IsRanked kept (remove order spot) × IsWithout (remove order spot) place
ranked_remove kept order spot place was stands = (record { alike = was.alike; own = λ rank within. own rank within (left_at order spot rank there); ascend = ascend }, λ rank within. without rank within (left_at order spot rank there))
  where
    new : List ℕ
    new = remove order spot

    there : spot < length order
    there = stands.within

    long : length new + 1 ≡ length order
    long = length-remove order spot there

    own : (rank : ℕ) → rank < length new → Left order new spot rank → like_at kept (ranked_at new rank) ≡ Some (ranked_at new rank)
    own rank within (Before below same) = subst (λ p. like_at kept p ≡ Some p) (sym same) (was.own rank (omega (arith, within, long)))
    own rank within (Behind from same) = subst (λ p. like_at kept p ≡ Some p) (sym same) (was.own (rank + 1) (omega (arith, within, long)))

    both : (a b c d : ℕ) → a ≡ b → c ≡ d → slice_cmp nat_cmp (kept_namespace kept b) (kept_namespace kept d) ≡ Less → slice_cmp nat_cmp (kept_namespace kept a) (kept_namespace kept c) ≡ Less
    both a b c d first second less = ap₂ how (ap (kept_namespace kept) first) (ap (kept_namespace kept) second) ∙ less

    stand : (low high : ℕ) → low < high → high < length new → Left order new spot low → Left order new spot high
        → slice_cmp nat_cmp (kept_namespace kept (ranked_at new low)) (kept_namespace kept (ranked_at new high)) ≡ Less
    stand low high up within (Before below same) (Before under same') = both _ _ _ _ same same' (was.ascend low high up (omega (arith, within, long)))
    stand low high up within (Before below same) (Behind from same') = both _ _ _ _ same same' (was.ascend low (high + 1) (omega (arith, up)) (omega (arith, within, long)))
    stand low high up within (Behind from same) (Before under same') = absurd (omega (arith, from, under, up))
    stand low high up within (Behind from same) (Behind from' same') = both _ _ _ _ same same' (was.ascend (low + 1) (high + 1) (omega (arith, up)) (omega (arith, within, long)))

    ascend : (low high : ℕ) → low < high → high < length new → slice_cmp nat_cmp (kept_namespace kept (ranked_at new low)) (kept_namespace kept (ranked_at new high)) ≡ Less
    ascend low high up within = stand low high up within (left_at order spot low there) (left_at order spot high there)

    clash : (low high : ℕ) → low < high → high < length order → ranked_at order low ≡ ranked_at order high → ⊥
    clash low high up within same = not_below_itself (kept_namespace kept (ranked_at order low)) (kept_namespace kept (ranked_at order high)) (was.ascend low high up within) (ap (kept_namespace kept) same)

    without : (rank : ℕ) → rank < length new → Left order new spot rank → ranked_at new rank ≡ place → ⊥
    without rank within (Before below same) is = clash rank spot below there (sym same ∙ is ∙ sym stands.is)
    without rank within (Behind from same) is = clash spot (rank + 1) (omega (arith, from)) (omega (arith, within, long)) (stands.is ∙ sym is ∙ same)

-- a place that is not like itself is none of the order
pub without_unlike : (kept : List Kept) (last : Kept) (order : List ℕ) → IsRanked (kept ++ last ∷ []) order → (last.like ≡ Some (length kept) → ⊥) → IsWithout order (length kept)
without_unlike kept last order was unlike rank within is =
    unlike (sym (ap (λ (k : Kept). k.like) (last_read kept last)) ∙ subst (λ p. like_at (kept ++ last ∷ []) p ≡ Some p) is (was.own rank within))

-- ---- a spot for a namespace

pub all_lower : (kept : List Kept) (order : List ℕ) (spot : ℕ) (namespace : List ℕ) → IsRanked kept order → IsAboveLower kept order spot namespace
    → (rank : ℕ) → rank < spot → slice_cmp nat_cmp (kept_namespace kept (ranked_at order rank)) namespace ≡ Less
all_lower kept order spot namespace was next rank below = last spot refl
  where
    last : (n : ℕ) → spot ≡ n → slice_cmp nat_cmp (kept_namespace kept (ranked_at order rank)) namespace ≡ Less
    last zero same = absurd (omega (arith, below, same))
    last (suc former) same = near former rank
        (λ from. let here : rank ≡ former = omega (arith, from, below, same) in next.above rank (omega (arith, here, same)))
        (λ up.
        nat_list_cmp_total.trans (kept_namespace kept (ranked_at order rank)) (kept_namespace kept (ranked_at order former)) namespace
        (was.ascend rank former up (let w : spot ≤ length order = next.within in omega (arith, same, w))) (next.above former (omega (arith, same))))

pub all_upper : (kept : List Kept) (order : List ℕ) (spot : ℕ) (namespace : List ℕ) → IsRanked kept order → IsBelowUpper kept order spot namespace
    → (rank : ℕ) → spot ≤ rank → rank < length order → slice_cmp nat_cmp namespace (kept_namespace kept (ranked_at order rank)) ≡ Less
all_upper kept order spot namespace was next rank from within =
    let first : slice_cmp nat_cmp namespace (kept_namespace kept (ranked_at order spot)) ≡ Less = turned (kept_namespace kept (ranked_at order spot)) namespace Greater (next (omega (arith, from, within))) in
    near rank spot
    (λ to. let here : rank ≡ spot = omega (arith, from, to) in ap (λ n. slice_cmp nat_cmp namespace (kept_namespace kept (ranked_at order n))) here ∙ first)
    (λ up. nat_list_cmp_total.trans namespace (kept_namespace kept (ranked_at order spot)) (kept_namespace kept (ranked_at order rank)) first (was.ascend spot rank up within))

-- ---- what two ranks tell

module _ (kept : List Kept) (order : List ℕ) (was : IsRanked kept order) where
  rank_named : (place rank : ℕ) → HasRank kept order place rank → kept_namespace kept (ranked_at order rank) ≡ kept_namespace kept place
  rank_named place rank has = ap (kept_namespace kept) has.stands.is ∙ (was.alike place has.like has.said).1

  pub ranks_compared : (p q m n : ℕ) → HasRank kept order p m → HasRank kept order q n → nat_cmp m n ≡ slice_cmp nat_cmp (kept_namespace kept p) (kept_namespace kept q)
  ranks_compared p q m n first second = case_of ∙ ap₂ how (rank_named p m first) (rank_named q n second)
    where
      case_of : nat_cmp m n ≡ slice_cmp nat_cmp (kept_namespace kept (ranked_at order m)) (kept_namespace kept (ranked_at order n))
      case_of = near n m
          (λ from. near m n
          (λ to. let here : m ≡ n = omega (arith, from, to) in
          sym (nat_cmp_is m n Equal here) ∙ sym (same_compared (kept_namespace kept (ranked_at order m)) (kept_namespace kept (ranked_at order n)) (ap (λ i. kept_namespace kept (ranked_at order i)) here)))
          (λ past. sym (nat_cmp_is m n Greater past) ∙ sym (turned (kept_namespace kept (ranked_at order n)) (kept_namespace kept (ranked_at order m)) Less (was.ascend n m past first.stands.within))))
          (λ up. sym (nat_cmp_is m n Less up) ∙ sym (was.ascend m n up second.stands.within))

-- from the declarations that are told
pub ranks_tell : (kept : List Kept) (order : List ℕ) (told : List Binding) → IsRanked kept order → map (λ (k : Kept). k.binding) kept ≡ told
    → (p q m n : ℕ) (r : Ordering) → HasRank kept order p m → HasRank kept order q n → r ≡ nat_cmp m n → r ≡ slice_cmp nat_cmp (get_or told p no_binding).namespace (get_or told q no_binding).namespace
ranks_tell kept order told was is p q m n r first second found =
    found ∙ ranks_compared kept order was p q m n first second ∙ ap₂ how (named p) (named q)
  where
    named : (place : ℕ) → kept_namespace kept place ≡ (get_or told place no_binding).namespace
    named place = ap (λ (b : Binding). b.namespace) (sym (get_or-map (λ (k : Kept). k.binding) kept place no_kept) ∙ ap (λ bs. get_or bs place no_binding) is)

-- ---- a long namespace more

said_one : (m n : ℕ) (o : Option ℕ) → o ≡ Some m → o ≡ Some n → n ≡ m
said_one m n o first second = let e : Some n ≡ Some m = sym second ∙ first in cc

-- one that was there
pub ranked_again : (kept new : List Kept) (last : Kept) (order : List ℕ) (like : ℕ) → IsRanked kept order → new ≡ kept ++ last ∷ [] → last.like ≡ Some like
    → like < length kept → kept_namespace kept like ≡ last.binding.namespace → IsRanked new order
ranked_again kept new last order like was pushed said below same =
    subst (λ ks. IsRanked ks order) (sym pushed) (ranked_push kept last order was (λ other told.
    let one : other ≡ like = said_one like other last.like said told in
    (omega (arith, one, below), ap (kept_namespace (kept ++ last ∷ [])) one ∙ same_namespace kept last like below ∙ same)))

-- one that was not
pub ranked_itself : (kept new : List Kept) (last : Kept) (order : List ℕ) (place : ℕ) → IsRanked kept order → new ≡ kept ++ last ∷ [] → last.like ≡ Some place → place ≡ length kept → IsRanked new order
ranked_itself kept new last order place was pushed said here =
    subst (λ ks. IsRanked ks order) (sym pushed) (ranked_push kept last order was (λ other told.
    let one : other ≡ length kept = said_one place other last.like said told ∙ here in
    (omega (arith, one), ap (kept_namespace (kept ++ last ∷ [])) one ∙ ap (λ (k : Kept). k.binding.namespace) (last_read kept last))))

-- which is put into the order
pub ranked_put : (kept new : List Kept) (last : Kept) (order put : List ℕ) (spot place : ℕ) (namespace : List ℕ) → IsRanked kept order → new ≡ kept ++ last ∷ [] → last.like ≡ Some place → place ≡ length kept
    → FitsOrder kept order spot namespace → namespace ≡ last.binding.namespace → put ≡ insert order spot place → IsRanked new put
ranked_put kept new last order put spot place namespace was pushed said here fits same is_put =
    subst (λ ks. IsRanked ks put) (sym pushed) (subst (IsRanked more) (sym is_put) (ranked_insert more order spot place stays fits.lower.within itself lower upper))
  where
    more : List Kept
    more = kept ++ last ∷ []

    stays : IsRanked more order
    stays = ranked_itself kept more last order place was refl said here

    read : get_or more place no_kept ≡ last
    read = ap (λ n. get_or more n no_kept) here ∙ last_read kept last

    itself : like_at more place ≡ Some place
    itself = ap (λ (k : Kept). k.like) read ∙ said

    named : kept_namespace more place ≡ namespace
    named = ap (λ (k : Kept). k.binding.namespace) read ∙ sym same

    old : (rank : ℕ) → rank < length order → kept_namespace more (ranked_at order rank) ≡ kept_namespace kept (ranked_at order rank)
    old rank within = same_namespace kept last (ranked_at order rank) (said_within kept (ranked_at order rank) (ranked_at order rank) (was.own rank within))

    lower : (rank : ℕ) → rank < spot → slice_cmp nat_cmp (kept_namespace more (ranked_at order rank)) (kept_namespace more place) ≡ Less
    lower rank below = ap₂ how (old rank (let w : spot ≤ length order = fits.lower.within in omega arith)) named ∙ all_lower kept order spot namespace was fits.lower rank below

    upper : (rank : ℕ) → spot ≤ rank → rank < length order → slice_cmp nat_cmp (kept_namespace more place) (kept_namespace more (ranked_at order rank)) ≡ Less
    upper rank from within = ap₂ how named (old rank within) ∙ all_upper kept order spot namespace was fits.upper rank from within

-- ---- a short namespace more, and one less of any

pub ranked_short : (kept new : List Kept) (last : Kept) (order : List ℕ) → IsRanked kept order → new ≡ kept ++ last ∷ [] → last.like ≡ None → IsRanked new order
ranked_short kept new last order was pushed unsaid = subst (λ ks. IsRanked ks order) (sym pushed) (ranked_push kept last order was (λ like told. absurd (none_said like (sym unsaid ∙ told))))

pub ranked_less : (kept all : List Kept) (last : Kept) (order : List ℕ) (place : ℕ) → IsRanked all order × IsWithout order place → all ≡ kept ++ last ∷ [] → place ≡ length kept → IsRanked kept order
ranked_less kept all last order place was popped here = ranked_pop kept last order (subst (λ ks. IsRanked ks order) popped was.0) (subst (IsWithout order) here was.1)

pub ranked_unlike : (kept all : List Kept) (last : Kept) (order : List ℕ) (place : ℕ) → IsRanked all order → all ≡ kept ++ last ∷ [] → place ≡ length kept → (last.like ≡ Some place → ⊥) → IsRanked kept order
ranked_unlike kept all last order place was popped here unlike =
    let more : IsRanked (kept ++ last ∷ []) order = subst (λ ks. IsRanked ks order) popped was in
    ranked_pop kept last order more (without_unlike kept last order more (λ said. unlike (said ∙ ap Some (sym here))))
