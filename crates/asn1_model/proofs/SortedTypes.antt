-- Types that a stable sort put into the order of their names.
use Rattle.std.proofs.Common.{◌≡◌, Bool, List, [], ◌∷◌, map, Bor, refl, sym, ap, ◌∙◌}
use Rattle.std.specs.Bool.{if◌then◌else◌}
use Rattle.std.specs.Cmp.{IsTotalOrder, IsStrictWeakOrder}
use Rattle.std.specs.Cmp.Lexicographic.{slice_cmp}
use Rattle.std.specs.Fn.{Called, ComparesAs}
use Rattle.std.specs.List.Sorted.{IsSortedBy, IsStableBy}
use Rattle.std.specs.Ordering.{nat_cmp, is_lt, ordering_reverse}
use Rattle.std.specs.declared.cmp.Ordering.{Ordering}
use Rattle.std.specs.declared.cmp.Ordering.TheVariants.{Less, Equal, Greater}
use Rattle.std.proofs.lemmas.Cmp.{nat_list_cmp_total, on_total}
use Rattle.std.proofs.lemmas.Fn.{always_returns_same}
use Rattle.std.proofs.lemmas.List.Sorted.{ranks_by}
use Rattle.lexical_core.proofs.StableSort.{put_by, sorted_by, by_less, sorted_is}
use Rattle.asn1_model.specs.declared.order.NamedType.{NamedType}
use Rattle.asn1_model.specs.ModuleOf.{Numbered, insert_numbered, comes_before}
use Rattle.asn1_model.specs.inner.Order.{numbered_type, sorted_by_name}
use denote.Param.Members.{Mut}

abbrev by_names : NamedType → NamedType → Ordering
by_names x y = slice_cmp nat_cmp x.name.now y.name.now

names_total : IsTotalOrder by_names
names_total = on_total (λ (t : NamedType). t.name.now) nat_list_cmp_total

map-put : (x : NamedType) (ys : List NamedType) → map numbered_type (put_by by_names x ys) ≡ insert_numbered (numbered_type x) (map numbered_type ys)
map-put x [] = refl
map-put x (y ∷ ys) = case (by_names x y) refl (map-put x ys)
  where
    before : (o : Ordering) → by_names x y ≡ o → comes_before (numbered_type y) (numbered_type x) ≡ is_lt (ordering_reverse o)
    before o e = ap is_lt (nat_list_cmp_total.antisymm y.name.now x.name.now ∙ ap ordering_reverse e)

    placed : Bool → List Numbered
    placed b = if b then numbered_type y ∷ insert_numbered (numbered_type x) (map numbered_type ys) else numbered_type x ∷ numbered_type y ∷ map numbered_type ys

    case : (o : Ordering) → by_names x y ≡ o → map numbered_type (put_by by_names x ys) ≡ insert_numbered (numbered_type x) (map numbered_type ys)
        → map numbered_type (elim o as (λ _. List NamedType) [ Less ↦ x ∷ y ∷ ys | Equal ↦ x ∷ y ∷ ys | Greater ↦ y ∷ put_by by_names x ys ])
        ≡ (if comes_before (numbered_type y) (numbered_type x) then numbered_type y ∷ insert_numbered (numbered_type x) (map numbered_type ys) else numbered_type x ∷ numbered_type y ∷ map numbered_type ys)
    case Less e so = sym (ap placed (before Less e))
    case Equal e so = sym (ap placed (before Equal e))
    case Greater e so = ap (λ zs. numbered_type y ∷ zs) so ∙ sym (ap placed (before Greater e))

map-sorted : (xs : List NamedType) → map numbered_type (sorted_by by_names xs) ≡ sorted_by_name (map numbered_type xs)
map-sorted [] = refl
map-sorted (x ∷ xs) = map-put x (sorted_by by_names xs) ∙ ap (insert_numbered (numbered_type x)) (map-sorted xs)

-- from what `sort_by` says of a closure that compares names
pub sorted_names : {F : Type 0} {g : Mut F (Bor NamedType × (Bor NamedType × Unit {0})) Ordering} {f : F} (xs ys : List NamedType)
    → ((lt : NamedType → NamedType → Bool) → IsStrictWeakOrder lt → ComparesAs g lt f → IsSortedBy lt ys)
    → ((lt : NamedType → NamedType → Bool) → IsStrictWeakOrder lt → ComparesAs g lt f → IsStableBy lt xs ys)
    → ((a : Bor NamedType × (Bor NamedType × Unit {0})) (r : Ordering) (f' : F) → Called g f a r f' → (r ≡ by_names a.0.now a.1.0.now) × (f' ≡ f))
    → map numbered_type ys ≡ sorted_by_name (map numbered_type xs)
sorted_names {g = g} {f = f} xs ys up stable calls =
    let order : IsStrictWeakOrder (by_less by_names) = ranks_by names_total (λ x. x) in
    let compares : ComparesAs g (by_less by_names) f = always_returns_same g (λ a r. is_lt r ≡ by_less by_names a.0.now a.1.0.now) f (λ a r f' k. (ap is_lt (calls a r f' k).0, (calls a r f' k).1)) in
    ap (map numbered_type) (sorted_is names_total xs ys (up (by_less by_names) order compares) (stable (by_less by_names) order compares)) ∙ map-sorted xs
