-- The characters of a text by the bytes that begin them.
use Rattle.std.proofs.Common.{◌≡◌, ℕ, ◌+◌, ◌/◌, ◌%◌, ◌<◌, ◌≤◌, Bool, true, false, inl, inr, List, [], ◌∷◌, ◌++◌, length, refl, sym, ap, ◌∙◌, arith, le-ltb, lt-ltb, cond}
use Rattle.std.proofs.lemmas.Bool.{cases_lt}
use Rattle.std.proofs.lemmas.Bool.Decides.{nat_tests}
use Rattle.std.proofs.lemmas.List.Recursion.{is_count_by}
use Rattle.std.specs.Char.{encode_utf8}
use Rattle.std.specs.Str.{encode_utf8_all}
use Rattle.facets.specs.CodeLists.{is_lead, char_count}

leads : (b : ℕ) → 192 ≤ b → is_lead b ≡ true
leads b h = grind (arith, nat_tests)

ascii_leads : (b : ℕ) → b < 128 → is_lead b ≡ true
ascii_leads b h = grind (arith, nat_tests)

goes_on : (x : ℕ) → is_lead (128 + x % 64) ≡ false
goes_on x = by (128 + x % 64) (omega arith) (omega arith)
  where
    by : (b : ℕ) → 128 ≤ b → b < 192 → is_lead b ≡ false
    by b low high = grind (arith, nat_tests)

-- the count, byte by byte
leads_of : List ℕ → ℕ
leads_of [] = 0
leads_of (b ∷ bytes) = cond (is_lead b) (1 + leads_of bytes) (leads_of bytes)

leads_count : (bytes : List ℕ) → leads_of bytes ≡ char_count bytes
unfolding leads_of
leads_count bytes = is_count_by leads_of is_lead refl (λ x xs. refl) bytes

more_of : (b : ℕ) (bytes : List ℕ) (t : Bool) → is_lead b ≡ t → leads_of (b ∷ bytes) ≡ cond t (1 + leads_of bytes) (leads_of bytes)
unfolding leads_of
more_of b bytes t e = ap (λ v. cond v (1 + leads_of bytes) (leads_of bytes)) e

tail : (x : ℕ) (bytes : List ℕ) → leads_of ((128 + x % 64) ∷ bytes) ≡ leads_of bytes
tail x bytes = more_of (128 + x % 64) bytes false (goes_on x)

two : (a x : ℕ) (bytes : List ℕ) → 192 ≤ a → leads_of (a ∷ (128 + x % 64) ∷ bytes) ≡ 1 + leads_of bytes
two a x bytes h = more_of a ((128 + x % 64) ∷ bytes) true (leads a h) ∙ ap (λ n. 1 + n) (tail x bytes)

three : (a x y : ℕ) (bytes : List ℕ) → 192 ≤ a → leads_of (a ∷ (128 + x % 64) ∷ (128 + y % 64) ∷ bytes) ≡ 1 + leads_of bytes
three a x y bytes h = two a x ((128 + y % 64) ∷ bytes) h ∙ ap (λ n. 1 + n) (tail y bytes)

four : (a x y z : ℕ) (bytes : List ℕ) → 192 ≤ a → leads_of (a ∷ (128 + x % 64) ∷ (128 + y % 64) ∷ (128 + z % 64) ∷ bytes) ≡ 1 + leads_of bytes
four a x y z bytes h = three a x y ((128 + z % 64) ∷ bytes) h ∙ ap (λ n. 1 + n) (tail z bytes)

-- the bytes of a character, and others behind them
one_more : (c : ℕ) (bytes : List ℕ) → leads_of (encode_utf8 c ++ bytes) ≡ 1 + leads_of bytes
unfolding encode_utf8
one_more c bytes =
    elim (cases_lt c 128) [
      | inl low ↦ rw (lt-ltb c 128 low) (more_of c bytes true (ascii_leads c low))
      | inr more ↦
          elim (cases_lt c 2048) [
            | inl short ↦ rw (le-ltb c 128 more, lt-ltb c 2048 short) (two (192 + c / 64) c bytes (omega arith))
            | inr wide ↦
                elim (cases_lt c 65536) [
                  | inl low ↦ rw (le-ltb c 128 more, le-ltb c 2048 wide, lt-ltb c 65536 low) (three (224 + c / 4096) (c / 64) c bytes (omega arith))
                  | inr high ↦ rw (le-ltb c 128 more, le-ltb c 2048 wide, le-ltb c 65536 high) (four (240 + c / 262144) (c / 4096) (c / 64) c bytes (omega arith))
                ]
          ]
    ]

leads_encoded : (text : List ℕ) → leads_of (encode_utf8_all text) ≡ length text
unfolding leads_of
leads_encoded [] = refl
leads_encoded (c ∷ text) = one_more c (encode_utf8_all text) ∙ omega (arith, leads_encoded text)

pub count_encoded : (text : List ℕ) → char_count (encode_utf8_all text) ≡ length text
count_encoded text = sym (leads_count (encode_utf8_all text)) ∙ leads_encoded text
