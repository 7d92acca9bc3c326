-- The types of the tables by number, and in the order of their names.
use Rattle.std.proofs.Common.{◌≡◌, ℕ, zero, suc, ◌+◌, ◌<◌, ◌≤◌, Bool, true, false, eqb, List, [], ◌∷◌, ◌++◌, length, take, Some, None, refl, ap, ◌∙◌, arith}
use Rattle.std.specs.Bool.{if◌then◌else◌}
use Rattle.std.specs.List.{AllByRecursion}
use Rattle.std.specs.Option.{option_map}
use Rattle.std.specs.Prelude.{slice_get}
use Rattle.message_model.specs.Tables.{Tables, TypeEntry}
use Rattle.asn1_model.specs.ModuleOf.{Numbered, insert_numbered, comes_before, sorted_from, by_name, name_in}
use Rattle.asn1_model.specs.inner.Order.{numbered_from, sorted_by_name}

sorted_from_is : (k : ℕ) (ts : List TypeEntry) → sorted_by_name (numbered_from k ts) ≡ sorted_from k ts
sorted_from_is k [] = refl
sorted_from_is k (t ∷ ts) = ap (insert_numbered (record { number = k; name = t.name })) (sorted_from_is (suc k) ts)

-- sorted, they are those by name
pub sorted_numbered : (T : Tables) → sorted_by_name (numbered_from 0 T.types) ≡ by_name T
sorted_numbered T = sorted_from_is 0 T.types

more_from : (k : ℕ) (ts : List TypeEntry) (n : ℕ) (name : List ℕ) → Some name ≡ option_map (λ (t : TypeEntry). t.name) (slice_get ts n)
    → numbered_from k (take (suc n) ts) ≡ numbered_from k (take n ts) ++ record { number = k + n; name = name } ∷ []
more_from k [] n name e = absurd cc
more_from k (t ∷ ts) zero name e =
    let same : t.name ≡ name = cc in
    let at : k ≡ k + zero = omega arith in
    ap (λ (x : List ℕ). record { number = k; name = x } ∷ []) same ∙ ap (λ (m : ℕ). record { number = m; name = name } ∷ []) at
more_from k (t ∷ ts) (suc n) name e =
    let at : suc k + n ≡ k + suc n = omega arith in
    ap (λ l. record { number = k; name = t.name } ∷ l) (more_from (suc k) ts n name e)
    ∙ ap (λ (m : ℕ). record { number = k; name = t.name } ∷ numbered_from (suc k) (take n ts) ++ record { number = m; name = name } ∷ []) at

-- one more type
pub numbered_more : (ts : List TypeEntry) (n : ℕ) (name : List ℕ) → Some name ≡ option_map (λ (t : TypeEntry). t.name) (slice_get ts n)
    → numbered_from 0 (take (n + 1) ts) ≡ numbered_from 0 (take n ts) ++ record { number = n; name = name } ∷ []
numbered_more ts n name e =
    let next : n + 1 ≡ suc n = omega arith in
    let at : 0 + n ≡ n = omega arith in
    ap (λ m. numbered_from 0 (take m ts)) next ∙ more_from 0 ts n name e ∙ ap (λ (m : ℕ). numbered_from 0 (take n ts) ++ record { number = m; name = name } ∷ []) at

-- each has a name
pub not_nameless : (ts : List TypeEntry) (n : ℕ) → n < length ts → None ≡ option_map (λ (t : TypeEntry). t.name) (slice_get ts n) → ⊥
not_nameless [] n lt e = omega (arith, lt)
not_nameless (t ∷ ts) zero lt e = absurd cc
not_nameless (t ∷ ts) (suc n) lt e = not_nameless ts n (omega (arith, lt)) e

-- ---- there are no others

-- none of these has the number
abbrev AreOthers : ℕ → List Numbered → Type 0
AreOthers p ts = AllByRecursion (λ (t : Numbered). eqb t.number p ≡ false) ts

others_insert : (p : ℕ) (t : Numbered) (us : List Numbered) → eqb t.number p ≡ false → AreOthers p us → AreOthers p (insert_numbered t us)
others_insert p t [] here all = (here, tt)
others_insert p t (u ∷ us) here all = by (comes_before u t) (others_insert p t us here all.1)
  where
    by : (b : Bool) → AreOthers p (insert_numbered t us) → AreOthers p (if b then u ∷ insert_numbered t us else t ∷ u ∷ us)
    by true rest = (all.0, rest)
    by false rest = (here, all)

others_from : (k p : ℕ) (ts : List TypeEntry) → k + length ts ≤ p → AreOthers p (sorted_from k ts)
others_from k p [] low = tt
others_from k p (t ∷ ts) low = others_insert p (record { number = k; name = t.name }) (sorted_from (suc k) ts) (grind (arith, low)) (others_from (suc k) p ts (omega (arith, low)))

none_in : (p : ℕ) (ts : List Numbered) (ns : List (List ℕ)) → AreOthers p ts → name_in ts ns p ≡ []
none_in p [] ns all = refl
none_in p (t ∷ ts) [] all = refl
none_in p (t ∷ ts) (n ∷ ns) all = ap (λ b. if b then n else name_in ts ns p) all.0 ∙ none_in p ts ns all.1

-- no name for a number that no type has
pub name_none : (T : Tables) (p : ℕ) (ns : List (List ℕ)) → length T.types ≤ p → name_in (by_name T) ns p ≡ []
name_none T p ns low = none_in p (by_name T) ns (others_from 0 p T.types (omega (arith, low)))
