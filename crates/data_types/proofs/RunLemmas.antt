-- The characters of a run of bytes.
use Rattle.std.proofs.Common.{◌≡◌, ℕ, ◌*◌, ◌<◌, ◌≤◌, inl, inr, List, [], ◌∷◌, ◌++◌, length, refl, sym, ap, subst, ◌∙◌, arith, length-append}
use Rattle.std.proofs.lemmas.Bool.{cases_lt}
use Rattle.std.proofs.lemmas.Str.{encode_ascii, length-encode, len_utf8_bounds, length-le-encodes, IsUtf8-encode, IsUtf8-append, chars_from_encodes}
use Rattle.std.specs.Char.{encode_utf8, len_utf8}
use Rattle.std.specs.Str.{encode_utf8_all, chars, IsUtf8}
use Rattle.std.specs.List.{AllByRecursion}
use Rattle.lexical_core.specs.Characters.{IsXmlChar}
use Rattle.lexical_core.specs.XmlRuns.{IsXmlRun}
use Rattle.lexical_core.proofs.CharacterLemmas.{IsScalar-xml_char}

-- a character of one byte is ASCII
one_byte : (c : ℕ) → len_utf8 c ≤ 1 → c < 128
one_byte c one =
    elim (cases_lt c 128) [
      | inl low ↦ low
      | inr high ↦ absurd (more c high one)
    ]
  where
    more : (c : ℕ) → 128 ≤ c → len_utf8 c ≤ 1 → ⊥
    more c high one = grind arith

-- characters with one byte each
all_ascii : (cs : List ℕ) → length (encode_utf8_all cs) ≤ length cs → (encode_utf8_all cs ≡ cs) × AllByRecursion (λ c. c < 128) cs
all_ascii [] few = (refl, tt)
all_ascii (c ∷ cs) few =
    let size = length-append (encode_utf8 c) (encode_utf8_all cs) in
    let low = one_byte c (omega (arith, few, size, length-encode c, length-le-encodes cs)) in
    let rest = all_ascii cs (omega (arith, few, size, length-encode c, len_utf8_bounds c)) in
    (ap (λ t. t ++ encode_utf8_all cs) (encode_ascii c low) ∙ ap (λ t. c ∷ t) rest.0, (low, rest.1))

pub run_ascii : (bytes : List ℕ) (count : ℕ) (r : IsXmlRun bytes count) → length bytes ≡ count → (bytes ≡ r.chars) × AllByRecursion (λ c. c < 128) r.chars
run_ascii bytes count r same =
    let ascii = all_ascii r.chars (omega (arith, ap length r.spelled, r.count_is, same)) in (r.spelled ∙ ascii.0, ascii.1)

all_utf8 : (cs : List ℕ) → AllByRecursion IsXmlChar cs → IsUtf8 (encode_utf8_all cs)
all_utf8 [] are = ([], (refl, refl))
all_utf8 (c ∷ cs) are = IsUtf8-append (encode_utf8 c) (encode_utf8_all cs) (IsUtf8-encode c (IsScalar-xml_char c are.0)) (all_utf8 cs are.1)

pub run_utf8 : (bytes : List ℕ) (count : ℕ) → IsXmlRun bytes count → IsUtf8 bytes
run_utf8 bytes count r = subst IsUtf8 (sym r.spelled) (all_utf8 r.chars r.are)

pub run_text : (bytes text : List ℕ) (count : ℕ) (r : IsXmlRun bytes count) → text ≡ bytes → chars text ≡ r.chars
run_text bytes text count r same =
    let utf8 = subst IsUtf8 (sym same) (run_utf8 bytes count r) in
    sym (chars_from_encodes r.chars text utf8 (sym (same ∙ r.spelled)))

encodes_short : (cs : List ℕ) → length (encode_utf8_all cs) ≤ 4 * length cs
encodes_short [] = omega arith
encodes_short (c ∷ cs) = omega (arith, length-append (encode_utf8 c) (encode_utf8_all cs), length-encode c, len_utf8_bounds c, encodes_short cs)

-- a run has at most four bytes to each character, and as many at least
pub run_short : (bytes : List ℕ) (count : ℕ) → IsXmlRun bytes count → length bytes ≤ 4 * count
run_short bytes count r = omega (arith, ap length r.spelled, r.count_is, encodes_short r.chars)
