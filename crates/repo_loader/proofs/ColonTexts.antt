-- What stands behind a colon in a text is a text: the colon is a byte of no other character.
use Rattle.std.proofs.Common.{◌≡◌, ℕ, ◌<◌, ◌≤◌, ◌⊎◌, inl, inr, Bool, true, false, List, [], ◌∷◌, ◌++◌, if◌then◌else◌, refl, sym, ap, ◌∙◌, subst, le-ltb, lt-ltb, arith, encode_utf8_all}
use Rattle.std.specs.Prelude.{◌==◌}
use Rattle.std.specs.List.{AllByRecursion}
use Rattle.std.proofs.lemmas.Bool.{cases_lt}
use Rattle.std.proofs.lemmas.Bool.Decides.{nat_tests}
use Rattle.std.specs.Char.{encode_utf8}
use Rattle.lexical_core.specs.Characters.{IsXmlChar, IsXmlText}
use Rattle.repo_loader.specs.FileValues.{behind_colon}

abbrev AreHigh : List ℕ → Type 0
AreHigh bs = AllByRecursion (λ (b : ℕ). 128 ≤ b) bs

one_byte : (x : ℕ) → x < 128 → encode_utf8 x ≡ x ∷ []
unfolding encode_utf8
one_byte x low = rw (lt-ltb x 128 low) refl

high_2 : (x : ℕ) → 128 ≤ x → x < 2048 → AreHigh (encode_utf8 x)
unfolding encode_utf8
high_2 x low high = rw (le-ltb x 128 low, lt-ltb x 2048 high) (omega arith, (omega arith, tt))

high_3 : (x : ℕ) → 2048 ≤ x → x < 65536 → AreHigh (encode_utf8 x)
unfolding encode_utf8
high_3 x low high = rw (le-ltb x 128 (omega arith), le-ltb x 2048 low, lt-ltb x 65536 high) (omega arith, (omega arith, (omega arith, tt)))

high_4 : (x : ℕ) → 65536 ≤ x → AreHigh (encode_utf8 x)
unfolding encode_utf8
high_4 x low = rw (le-ltb x 128 (omega arith), le-ltb x 2048 (omega arith), le-ltb x 65536 low) (omega arith, (omega arith, (omega arith, (omega arith, tt))))

high_bytes : (x : ℕ) → 128 ≤ x → AreHigh (encode_utf8 x)
high_bytes x low =
    elim (cases_lt x 2048) [
      | inl h ↦ high_2 x low h
      | inr h ↦ elim (cases_lt x 65536) [ inl k ↦ high_3 x (omega (arith, h)) k | inr k ↦ high_4 x (omega (arith, k)) ]
    ]

no_colon : (b : ℕ) → 128 ≤ b → (b == 58) ≡ false
no_colon b h = grind (arith, nat_tests)

-- high bytes are passed over
passed_over : (whole bs rest : List ℕ) → AreHigh bs → behind_colon whole (bs ++ rest) ≡ behind_colon whole rest
passed_over whole [] rest h = refl
passed_over whole (b ∷ bs) rest h = ap (λ (c : Bool). if c then bs ++ rest else behind_colon whole (bs ++ rest)) (no_colon b h.0) ∙ passed_over whole bs rest h.1

cut_text : (whole : List ℕ) → IsXmlText whole → (cs : List ℕ) → AllByRecursion IsXmlChar cs → IsXmlText (behind_colon whole (encode_utf8_all cs))
cut_text whole w [] h = w
cut_text whole w (c ∷ cs) h = by (cases_lt c 128) (cut_text whole w cs h.1)
  where
    rest : List ℕ
    rest = encode_utf8_all cs

    low : (b : Bool) → IsXmlText (behind_colon whole (encode_utf8_all cs)) → IsXmlText (if b then encode_utf8_all cs else behind_colon whole (encode_utf8_all cs))
    low true later = (cs, h.1, refl)
    low false later = later

    by : (c < 128) ⊎ (128 ≤ c) → IsXmlText (behind_colon whole (encode_utf8_all cs)) → IsXmlText (behind_colon whole (encode_utf8 c ++ encode_utf8_all cs))
    by (inl k) later = subst (λ bs. IsXmlText (behind_colon whole (bs ++ encode_utf8_all cs))) (sym (one_byte c k)) (low (c == 58) later)
    by (inr k) later = subst IsXmlText (sym (passed_over whole (encode_utf8 c) (encode_utf8_all cs) (high_bytes c k))) later

-- what stands behind the first colon of a text is a text
pub colon_text : (t : List ℕ) → IsXmlText t → IsXmlText (behind_colon t t)
colon_text t (cs, h, e) = subst (λ (u : List ℕ). IsXmlText (behind_colon t u)) e (cut_text t (cs, h, e) cs h)
