-- The bytes of a run, spelled, are its characters, spelled.
use Rattle.std.proofs.Common.{◌≡◌, ℕ, zero, suc, ◌+◌, ◌<◌, ◌≤◌, ◌==◌, not, inl, inr, Bool, true, false, cond, codes, flat_map, List, [], ◌∷◌, ◌++◌, length, take, drop, get_or, if◌then◌else◌, refl, sym, ap, ap₂, subst, ◌∙◌, arith, append_assoc, append-nil}
use Rattle.std.specs.Prelude.{encode_utf8, encode_utf8_all, nat_le}
use Rattle.std.specs.List.{AllByRecursion, prefix_len}
use Rattle.std.proofs.lemmas.Bool.{cases_lt, cases_Bool, true≢false}
use Rattle.std.proofs.lemmas.Bool.Decides.{nat_tests}
use Rattle.std.proofs.lemmas.Grind.{flat_map-append}
use Rattle.std.proofs.lemmas.Str.{encode_ascii, inside_one}
use Rattle.lexical_core.specs.Escapes.{escape_of}
use Rattle.markup.specs.Literals.{is_still_literal, IsOfText}
use Rattle.respell.specs.inner.RunBytes.{stands_so, run_byte, run_bytes}

-- ---- parts of a run

not_true : (b : Bool) → not b ≡ true → b ≡ false
not_true true e = sym e
not_true false e = refl

not_false : (b : Bool) → not b ≡ false → b ≡ true
not_false true e = refl
not_false false e = sym e

by_itself : (x : ℕ) → stands_so x ≡ true → run_byte x ≡ x ∷ []
by_itself x h = ap (λ (b : Bool). if b then codes "&gt;" else x ∷ []) (not_true (x == 62) h)

by_reference : (x : ℕ) → stands_so x ≡ false → run_byte x ≡ codes "&gt;"
by_reference x h = ap (λ (b : Bool). if b then codes "&gt;" else x ∷ []) (not_false (x == 62) h)

-- what stands before the first `>` stands for itself
front_stands : (xs : List ℕ) (n : ℕ) → n ≤ prefix_len stands_so xs → run_bytes xs ≡ take n xs ++ run_bytes (drop n xs)
front_stands xs zero h = refl
front_stands [] (suc n) h = refl
front_stands (x ∷ xs) (suc n) h = by (stands_so x) refl h (λ k. front_stands xs n k) where
  by : (b : Bool) → stands_so x ≡ b → suc n ≤ cond b (1 + prefix_len stands_so xs) 0 → (n ≤ prefix_len stands_so xs → run_bytes xs ≡ take n xs ++ run_bytes (drop n xs)) → run_bytes (x ∷ xs) ≡ x ∷ (take n xs ++ run_bytes (drop n xs))
  by true e h more = ap (λ (l : List ℕ). l ++ run_bytes xs) (by_itself x e) ∙ ap (λ (l : List ℕ). x ∷ l) (more (omega (arith, h)))
  by false e h more = absurd (omega (arith, h))

-- and behind it is a `>`
stops_so : (xs ys : List ℕ) (n y : ℕ) → n ≡ prefix_len stands_so xs → drop n xs ≡ y ∷ ys → run_byte y ≡ codes "&gt;"
stops_so [] ys zero y e d = absurd (omega (arith, ap length d))
stops_so [] ys (suc n) y e d = absurd (omega (arith, ap length d))
stops_so (x ∷ xs) ys zero y e d = by (stands_so x) refl e where
  head : List ℕ → ℕ
  head [] = 0
  head (z ∷ w) = z

  by : (b : Bool) → stands_so x ≡ b → 0 ≡ cond b (1 + prefix_len stands_so xs) 0 → run_byte y ≡ codes "&gt;"
  by true k e = absurd (omega (arith, e))
  by false k e = subst (λ (z : ℕ). run_byte z ≡ codes "&gt;") (ap head d) (by_reference x k)
stops_so (x ∷ xs) ys (suc n) y e d = by (stands_so x) refl e (λ k. stops_so xs ys n y k d) where
  by : (b : Bool) → stands_so x ≡ b → suc n ≡ cond b (1 + prefix_len stands_so xs) 0 → (n ≡ prefix_len stands_so xs → run_byte y ≡ codes "&gt;") → run_byte y ≡ codes "&gt;"
  by true k e more = more (omega (arith, e))
  by false k e more = absurd (omega (arith, e))

drop_next : (xs ys : List ℕ) (n y : ℕ) → drop n xs ≡ y ∷ ys → drop (suc n) xs ≡ ys
drop_next [] ys zero y d = absurd (omega (arith, ap length d))
drop_next [] ys (suc n) y d = absurd (omega (arith, ap length d))
drop_next (x ∷ xs) ys zero y d = ap tail d where
  tail : List ℕ → List ℕ
  tail [] = []
  tail (z ∷ w) = w
drop_next (x ∷ xs) ys (suc n) y d = drop_next xs ys n y d

-- what stands before the first `>` is pushed
pub part_pushed : (text new left : List ℕ) (n : ℕ) → new ≡ text ++ take n left → n ≡ prefix_len stands_so left → new ++ run_bytes (drop n left) ≡ text ++ run_bytes left
part_pushed text new left n e h =
    ap (λ (l : List ℕ). l ++ run_bytes (drop n left)) e ∙ (append_assoc text (take n left) (run_bytes (drop n left)) ∙ ap (λ (l : List ℕ). text ++ l) (sym (front_stands left n (omega (arith, h)))))

-- and the reference to that one
pub closer_pushed : (text between new left : List ℕ) (n : ℕ) → between ≡ text ++ take n left → new ≡ between ++ codes "&gt;" → n ≡ prefix_len stands_so left → (length (drop n left) == 0) ≡ false → new ++ run_bytes (drop (n + 1) left) ≡ text ++ run_bytes left
closer_pushed text between new left n e f h some = by (drop n left) refl where
  next : (n + 1) ≡ suc n
  next = omega arith

  by : (l : List ℕ) → drop n left ≡ l → new ++ run_bytes (drop (n + 1) left) ≡ text ++ run_bytes left
  by [] d = absurd (true≢false (sym (ap (λ (l : List ℕ). length l == 0) d) ∙ some))
  by (y ∷ ys) d =
      ap (λ (k : ℕ). new ++ run_bytes (drop k left)) next ∙ (ap (λ (l : List ℕ). new ++ run_bytes l) (drop_next left ys n y d) ∙ (ap (λ (l : List ℕ). l ++ run_bytes ys) f
      ∙ (append_assoc between (codes "&gt;") (run_bytes ys) ∙ (ap (λ (l : List ℕ). between ++ (l ++ run_bytes ys)) (sym (stops_so left ys n y h d)) ∙ (ap (λ (l : List ℕ). between ++ run_bytes l) (sym d) ∙ part_pushed text between left n e h)))))

-- ---- its characters

high_byte : (b : ℕ) → 128 ≤ b → run_byte b ≡ b ∷ []
high_byte b high = grind (arith, nat_tests, high)

high_bytes : (bytes : List ℕ) → ((k : ℕ) → k < length bytes → 128 ≤ get_or bytes k 0) → run_bytes bytes ≡ bytes
high_bytes [] h = refl
high_bytes (b ∷ bytes) h = ap₂ (λ (x y : List ℕ). x ++ y) (high_byte b (h 0 (omega arith))) (high_bytes bytes (λ k lt. h (suc k) (omega (arith, lt))))

-- none of them but `>` stands for another
other_than : (c n : ℕ) → IsOfText c → is_still_literal n ≡ false → nat_le 128 n ≡ false → (n == 93) ≡ false → (c == n) ≡ false
other_than c n h a b d = elim (cases_Bool (c == n)) [
  | inl e ↦ absurd (wrong (subst IsOfText (same c n e) h))
  | inr e ↦ e
]
  where
    is_one : (n : ℕ) → n ≡ 93 → (n == 93) ≡ true
    is_one n h = grind (arith, nat_tests, h)

    wrong : IsOfText n → ⊥
    wrong (inl (inl x)) = true≢false (sym x ∙ a)
    wrong (inl (inr x)) = true≢false (sym x.0 ∙ b)
    wrong (inr x) = true≢false (sym (is_one n x) ∙ d)

    same : (c n : ℕ) → (c == n) ≡ true → c ≡ n
    same c n h = grind (arith, nat_tests, h)

escaped_so : (c : ℕ) → IsOfText c → escape_of false c ≡ (if c == 62 then codes "&gt;" else encode_utf8 c)
escaped_so c h = rw (other_than c 38 h refl refl refl, other_than c 60 h refl refl refl, other_than c 13 h refl refl refl) refl

high_char : (c : ℕ) → 128 ≤ c → (if c == 62 then codes "&gt;" else encode_utf8 c) ≡ encode_utf8 c
high_char c high = grind (arith, nat_tests, high)

char_spelled : (c : ℕ) → IsOfText c → run_bytes (encode_utf8 c) ≡ escape_of false c
char_spelled c h = elim (cases_lt c 128) [
  | inl small ↦ ap run_bytes (encode_ascii c small) ∙ (append-nil (run_byte c) ∙ (ap (λ (l : List ℕ). if c == 62 then codes "&gt;" else l) (sym (encode_ascii c small)) ∙ sym (escaped_so c h)))
  | inr big ↦ high_bytes (encode_utf8 c) (λ k below. elim (cases_lt (get_or (encode_utf8 c) k 0) 128) [
    | inl low ↦ absurd (omega (arith, inside_one c [] (encode_utf8 c) k (sym (append-nil _)) below low, big, low))
    | inr high ↦ high
  ]) ∙ (sym (high_char c big) ∙ sym (escaped_so c h))
]

pub run_spelled : (cs : List ℕ) → AllByRecursion IsOfText cs → run_bytes (encode_utf8_all cs) ≡ flat_map (escape_of false) cs
run_spelled [] h = refl
run_spelled (c ∷ cs) h = flat_map-append run_byte (encode_utf8 c) (encode_utf8_all cs) ∙ ap₂ (λ (x y : List ℕ). x ++ y) (char_spelled c h.0) (run_spelled cs h.1)
