-- The prefixes `a1`, `a2` and so on.
use Rattle.std.proofs.Common.{◌≡◌, ℕ, ◌+◌, ◌-◌, ◌<◌, inl, inr, false, List, [], ◌∷◌, ◌++◌, map, refl, sym, ap, ap₂, ◌∙◌, arith}
use Rattle.std.specs.Prelude.{encode_utf8_all}
use Rattle.std.specs.List.{AllByRecursion}
use Rattle.std.specs.Str.{bytes_eq}
use Rattle.std.specs.Int.Digits.{digits_of, number_from_digits, AllBelowBase}
use Rattle.std.proofs.lemmas.Int.Digits.{number_digits_of, all_below_base_digits_of}
use Rattle.std.proofs.lemmas.Str.{encode_ascii}
use Rattle.lexical_core.specs.Characters.{IsNameChar}
use Rattle.lexical_core.proofs.EqualBytes.{other_bytes}
use Rattle.fragments.specs.Plain.{IsPart}
use Rattle.fragments.specs.Fragment.{prefix_of}

unshift : (ds : List ℕ) → map (λ (c : ℕ). c - 48) (map (λ (d : ℕ). 48 + d) ds) ≡ ds
unshift [] = refl
unshift (d ∷ ds) = ap₂ (λ (x : ℕ) (y : List ℕ). x ∷ y) (omega arith) (unshift ds)

abbrev number_in : List ℕ → ℕ
number_in [] = 0
number_in (c ∷ cs) = number_from_digits 10 (map (λ (c : ℕ). c - 48) cs)

-- one prefix a number
pub prefix_number : (j k : ℕ) → prefix_of j ≡ prefix_of k → j ≡ k
prefix_number j k h =
    let f : (n : ℕ) → number_in (prefix_of n) ≡ n = λ n. ap (λ (ds : List ℕ). number_from_digits 10 ds) (unshift (digits_of 10 n)) ∙ number_digits_of 10 n (omega arith) in
    sym (f j) ∙ (ap number_in h ∙ f k)

pub other_prefix : (j k : ℕ) → j < k → bytes_eq (prefix_of j) (prefix_of k) ≡ false
other_prefix j k lt = other_bytes (prefix_of j) (prefix_of k) (λ e. (let h = prefix_number j k e in omega (arith, h, lt)))

digit_name : (d : ℕ) → d < 10 → IsNameChar (48 + d)
digit_name d h = inr (inr (inl (omega (arith, h), omega (arith, h))))

digits_name : (ds : List ℕ) → AllBelowBase 10 ds → AllByRecursion IsNameChar (map (λ (d : ℕ). 48 + d) ds)
digits_name [] h = tt
digits_name (d ∷ ds) h = (digit_name d h.0, digits_name ds h.1)

digits_bytes : (ds : List ℕ) → AllBelowBase 10 ds → encode_utf8_all (map (λ (d : ℕ). 48 + d) ds) ≡ map (λ (d : ℕ). 48 + d) ds
digits_bytes [] h = refl
digits_bytes (d ∷ ds) h = ap₂ (λ (x y : List ℕ). x ++ y) (encode_ascii (48 + d) (let l : d < 10 = h.0 in omega (arith, l))) (digits_bytes ds h.1)

pub prefix_part : (k : ℕ) → IsPart (prefix_of k)
prefix_part k = let below = all_below_base_digits_of 10 k (omega arith) in record {
  first = 97;
  others = map (λ (d : ℕ). 48 + d) (digits_of 10 k);
  start = inr (inr (inl (omega arith, omega arith)));
  more = digits_name (digits_of 10 k) below;
  spelled = ap₂ (λ (x y : List ℕ). x ++ y) (encode_ascii 97 (omega arith)) (digits_bytes (digits_of 10 k) below);
}
