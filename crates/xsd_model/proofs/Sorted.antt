-- Types that a stable sort put into the order of their names.
use Rattle.std.proofs.Common.{◌≡◌, Bool, List, [], ◌∷◌, Bor, refl, ap, ◌∙◌}
use Rattle.std.specs.Cmp.{IsTotalOrder, IsStrictWeakOrder}
use Rattle.std.specs.Cmp.Lexicographic.{slice_cmp}
use Rattle.std.specs.Fn.{Called, ComparesAs}
use Rattle.std.specs.List.Sorted.{IsSortedBy, IsStableBy}
use Rattle.std.specs.Ordering.{nat_cmp, is_lt}
use Rattle.std.specs.declared.cmp.Ordering.{Ordering}
use Rattle.std.specs.declared.cmp.Ordering.TheVariants.{Less, Equal, Greater}
use Rattle.std.proofs.lemmas.Cmp.{nat_list_cmp_total, on_total}
use Rattle.std.proofs.lemmas.Fn.{always_returns_same}
use Rattle.std.proofs.lemmas.List.Sorted.{ranks_by}
use Rattle.lexical_core.proofs.StableSort.{put_by, sorted_by, by_less, sorted_is}
use Rattle.xsd_model.specs.declared.schema.SchemaType.{SchemaType}
use Rattle.xsd_model.specs.SchemaOf.{insert_type, placed_type, sorted_types}
use denote.Param.Members.{Mut}

abbrev by_name : SchemaType → SchemaType → Ordering
by_name x y = slice_cmp nat_cmp x.name y.name

names_total : IsTotalOrder by_name
names_total = on_total (λ (type : SchemaType). type.name) nat_list_cmp_total

put-insert : (t : SchemaType) (xs : List SchemaType) → put_by by_name t xs ≡ insert_type t xs
put-insert t [] = refl
put-insert t (x ∷ xs) = case (by_name t x) (put-insert t xs)
  where
    case : (o : Ordering) → put_by by_name t xs ≡ insert_type t xs
        → elim o as (λ _. List SchemaType) [ Less ↦ t ∷ x ∷ xs | Equal ↦ t ∷ x ∷ xs | Greater ↦ x ∷ put_by by_name t xs ] ≡ placed_type o t x xs (insert_type t xs)
    case Less so = refl
    case Equal so = refl
    case Greater so = ap (λ zs. x ∷ zs) so

sorted_by-sorted : (xs : List SchemaType) → sorted_by by_name xs ≡ sorted_types xs
sorted_by-sorted [] = refl
sorted_by-sorted (x ∷ xs) = put-insert x (sorted_by by_name xs) ∙ ap (insert_type x) (sorted_by-sorted xs)

-- from what `sort_by` says of a closure that compares names
pub sorted_names : {F : Type 0} {g : Mut F (Bor SchemaType × (Bor SchemaType × Unit {0})) Ordering} {f : F} (xs ys : List SchemaType)
    → ((lt : SchemaType → SchemaType → Bool) → IsStrictWeakOrder lt → ComparesAs g lt f → IsSortedBy lt ys)
    → ((lt : SchemaType → SchemaType → Bool) → IsStrictWeakOrder lt → ComparesAs g lt f → IsStableBy lt xs ys)
    → ((a : Bor SchemaType × (Bor SchemaType × Unit {0})) (r : Ordering) (f' : F) → Called g f a r f' → (r ≡ by_name a.0.now a.1.0.now) × (f' ≡ f))
    → ys ≡ sorted_types xs
sorted_names {g = g} {f = f} xs ys up stable calls =
    let order : IsStrictWeakOrder (by_less by_name) = ranks_by names_total (λ x. x) in
    let compares : ComparesAs g (by_less by_name) f = always_returns_same g (λ a r. is_lt r ≡ by_less by_name a.0.now a.1.0.now) f (λ a r f' k. (ap is_lt (calls a r f' k).0, (calls a r f' k).1)) in
    sorted_is names_total xs ys (up (by_less by_name) order compares) (stable (by_less by_name) order compares) ∙ sorted_by-sorted xs
