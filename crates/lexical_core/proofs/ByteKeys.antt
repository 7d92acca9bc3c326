-- An ordered map with vectors of bytes as keys, read by bytes.
use Rattle.std.proofs.Common.{◌≡◌, ℕ, Bool, true, false, List, Option, refl, sym, subst, ◌∙◌}
use Rattle.std.specs.Global.{Vec}
use Rattle.std.specs.Bool.{if◌then◌else◌}
use Rattle.std.specs.BTreeMap.{BTreeMap, UpdatesBy, get_by, is_at}
use Rattle.std.specs.Cmp.Lexicographic.{slice_cmp}
use Rattle.std.specs.Map.{lookup, IsKeyTest, AreApart, KeepsOthers}
use Rattle.std.specs.declared.cmp.Ordering.{Ordering}
use Rattle.std.specs.Ordering.{is_eq, nat_cmp, eq_by_cmp}
use Rattle.std.specs.Str.{bytes_eq}
use Rattle.std.proofs.lemmas.Cmp.{eq_by_cmp_equiv, nat_list_cmp_total, nat_list_eq_equiv}
use Rattle.std.proofs.lemmas.Map.Text.{is_eq-slice_cmp}
use Rattle.std.proofs.lemmas.Slice.Eq.{bytes_eq-Decides}

-- how keys stand
abbrev pub key_cmp : Vec ℕ → Vec ℕ → Ordering
key_cmp x y = slice_cmp nat_cmp x.items y.items

-- a key by its bytes
abbrev keyed : List ℕ → Vec ℕ → Bool
keyed q = is_at (λ k. slice_cmp nat_cmp q k.items)

apart : (p q k : List ℕ) → bytes_eq p q ≡ false → is_eq (slice_cmp nat_cmp p k) ≡ true → is_eq (slice_cmp nat_cmp q k) ≡ false
apart p q k n y =
    is_eq-slice_cmp q k ∙ nat_list_eq_equiv.symm q k ∙ sym (nat_list_eq_equiv.congr p k q (sym (is_eq-slice_cmp p k) ∙ y)) ∙ n

others : {X : Type 0} (test : Vec ℕ → Bool) (old new : List (Vec ℕ × X)) → KeepsOthers (eq_by_cmp key_cmp) test old new → (other : Vec ℕ → Bool) → IsKeyTest (eq_by_cmp key_cmp) other → AreApart test other → lookup other new ≡ lookup other old
unfolding KeepsOthers
others test old new h = h

-- what is found under the bytes
abbrev pub found : {X : Type 0} → BTreeMap (Vec ℕ) X → List ℕ → Option X
found m q = get_by (λ k. slice_cmp nat_cmp q k.items) m

-- what is found under any bytes once what stands under some was changed
pub found_updated : {X : Type 0} (p : List ℕ) (m n : BTreeMap (Vec ℕ) X) (w : Option X) → UpdatesBy key_cmp (λ k. slice_cmp nat_cmp p k.items) m n w → (q : List ℕ) → found n q ≡ (if bytes_eq p q then w else found m q)
found_updated p m n w h q = case (bytes_eq p q) refl
  where
    case : (b : Bool) → bytes_eq p q ≡ b → found n q ≡ (if b then w else found m q)
    case true e = subst (λ l. found n l ≡ w) ((bytes_eq-Decides p q).0 e) h.1
    case false e = others (keyed p) m.entries n.entries h.3 (keyed q) (λ x y. (eq_by_cmp_equiv nat_list_cmp_total).congr q x.items y.items) (λ k. apart p q k.items e)
