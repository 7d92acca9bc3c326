-- The classes of characters that do not meet.
use Rattle.std.proofs.Common.{◌≡◌, ◌↔◌, ℕ, Bool, true, false, ◌||◌, ◌==◌, List, [], ◌∷◌, length, ◌<◌, ◌≤◌, ◌⊎◌, inl, inr, refl, sym, arith}
use Rattle.std.specs.Char.{is_digit, to_ascii_lowercase, IsScalar, encode_utf8}
use Rattle.std.specs.Prelude.{None}
use Rattle.std.specs.Int.{is_in_range}
use Rattle.std.proofs.lemmas.Bool.{or_left, or_right, or_cases, and_parts, and_from, leb-true, le-leb, true≢false, cases_Bool}
use Rattle.std.proofs.lemmas.Bool.Decides.{nat_tests}
use Rattle.std.proofs.lemmas.Str.{length-encode, len_utf8_bounds}
use Rattle.lexical_core.specs.Characters.{IsInSome, IsXmlChar, IsNameStart, IsNameChar}
use Rattle.markup.specs.inner.ReferenceScans.{numbered_char}
use Rattle.markup.specs.Chars.{is_xml_char, is_name_start, is_name_char, is_space, in_some, xml_ranges, name_start_ranges, name_more_ranges, AreClasses}

-- white space is no character of a name, and no colon
pub space_no_name : (c : ℕ) → is_space c ≡ true → is_name_char c ≡ false
unfolding is_space is_name_char is_name_start
space_no_name c h = grind (arith, nat_tests)

pub space_no_start : (c : ℕ) → is_space c ≡ true → is_name_start c ≡ false
unfolding is_space is_name_start
space_no_start c h = grind (arith, nat_tests)

pub start_is_name : (c : ℕ) → is_name_start c ≡ true → is_name_char c ≡ true
unfolding is_name_char
start_is_name c h = grind (arith, nat_tests)

-- a name begins with none of these: `!`, `/`, `>`, `?`
pub start_not : (c : ℕ) → is_name_start c ≡ true → ((c == 33) ≡ false) × ((c == 47) ≡ false) × ((c == 62) ≡ false) × ((c == 63) ≡ false)
unfolding is_name_start
start_not c h = (grind (arith, nat_tests), grind (arith, nat_tests), grind (arith, nat_tests), grind (arith, nat_tests))

pub colon_no_name : is_name_char 58 ≡ false
unfolding is_name_char is_name_start
colon_no_name = refl

-- a digit is neither the semicolon nor, where it is decimal, the letter x
pub digit_no_semicolon : (radix d : ℕ) → (radix == 10 || radix == 16) ≡ true → is_digit d radix ≡ true → (d == 59) ≡ false
digit_no_semicolon radix d r h = grind (arith, nat_tests)

pub digit_no_x : (d : ℕ) → is_digit d 10 ≡ true → (d == 120) ≡ false
digit_no_x d h = grind (arith, nat_tests)

-- white space is no quote, no `=`, no colon, and none of the characters that close a tag
pub space_not : (c : ℕ) → is_space c ≡ true → ((c == 58) ≡ false) × ((c == 61) ≡ false) × ((c == 34) ≡ false) × ((c == 39) ≡ false)
unfolding is_space
space_not c h = (grind (arith, nat_tests), grind (arith, nat_tests), grind (arith, nat_tests), grind (arith, nat_tests))

-- a tag or a declaration is closed behind its attributes by `/`, `>` or `?`
abbrev pub closes : ℕ → Bool
closes c = c == 47 || c == 62 || c == 63

pub closes_no_name : (c : ℕ) → closes c ≡ true → is_name_char c ≡ false
unfolding is_name_char is_name_start
closes_no_name c h = grind (arith, nat_tests)

pub closes_no_start : (c : ℕ) → closes c ≡ true → is_name_start c ≡ false
unfolding is_name_start
closes_no_start c h = grind (arith, nat_tests)

pub closes_no_space : (c : ℕ) → closes c ≡ true → is_space c ≡ false
unfolding is_space
closes_no_space c h = grind (arith, nat_tests)

pub closes_no_colon : (c : ℕ) → closes c ≡ true → (c == 58) ≡ false
closes_no_colon c h = grind (arith, nat_tests)

pub equals_no_name : is_name_char 61 ≡ false
unfolding is_name_char is_name_start
equals_no_name = refl

pub equals_no_space : is_space 61 ≡ false
unfolding is_space
equals_no_space = refl

pub space_ascii : (c : ℕ) → is_space c ≡ true → c < 128
unfolding is_space
space_ascii c h = grind (arith, nat_tests)

pub quote_no_space : (q : ℕ) → (q == 34 || q == 39) ≡ true → is_space q ≡ false
unfolding is_space
quote_no_space q h = grind (arith, nat_tests)

pub quote_no_ampersand : (q : ℕ) → (q == 34 || q == 39) ≡ true → (q == 38) ≡ false
quote_no_ampersand q h = grind (arith, nat_tests)

pub xml_in_name : (is_name_char 120 ≡ true) × (is_name_char 109 ≡ true) × (is_name_char 108 ≡ true)
unfolding is_name_char is_name_start
xml_in_name = (refl, refl, refl)

pub question_no_name : is_name_char 63 ≡ false
unfolding is_name_char is_name_start
question_no_name = refl

-- each character takes at least one byte
pub some_bytes : (c : ℕ) → 1 ≤ length (encode_utf8 c)
some_bytes c = omega (arith, length-encode c, len_utf8_bounds c)

pub range_in : (lo hi c : ℕ) → is_in_range lo hi c ≡ true → (lo ≤ c) × (c ≤ hi)
range_in lo hi c h = (leb-true lo c (and_parts _ _ h).0, leb-true c hi (and_parts _ _ h).1)

in_range : (lo hi c : ℕ) → (lo ≤ c) × (c ≤ hi) → is_in_range lo hi c ≡ true
in_range lo hi c h = and_from _ _ (le-leb lo c h.0) (le-leb c hi h.1)

to_class : (rs : List (ℕ × ℕ)) (c : ℕ) → in_some rs c ≡ true → IsInSome rs c
to_class [] c h = absurd (true≢false (sym h))
to_class (r ∷ rs) c h = elim (or_cases (is_in_range r.0 r.1 c) (in_some rs c) h) as (λ _. IsInSome (r ∷ rs) c) [ inl k ↦ inl (range_in r.0 r.1 c k) | inr k ↦ inr (to_class rs c k) ]

from_class : (rs : List (ℕ × ℕ)) (c : ℕ) → IsInSome rs c → in_some rs c ≡ true
from_class [] c h = absurd h
from_class (r ∷ rs) c (inl h) = or_left _ _ (in_range r.0 r.1 c h)
from_class (r ∷ rs) c (inr h) = or_right _ _ (from_class rs c h)

either : (b d : Bool) (P Q : Type 0) → ((b ≡ true) ↔ P) → ((d ≡ true) ↔ Q) → ((b || d) ≡ true) ↔ (P ⊎ Q)
either b d P Q f g = (
  λ h. elim (or_cases b d h) as (λ _. P ⊎ Q) [ inl k ↦ inl (f.0 k) | inr k ↦ inr (g.0 k) ],
  λ h. elim h as (λ _. (b || d) ≡ true) [ inl k ↦ or_left _ _ (f.1 k) | inr k ↦ or_right _ _ (g.1 k) ],
)

xml_class : (c : ℕ) → (is_xml_char c ≡ true) ↔ IsXmlChar c
unfolding is_xml_char
xml_class c = (to_class xml_ranges c, from_class xml_ranges c)

start_class : (c : ℕ) → (is_name_start c ≡ true) ↔ IsNameStart c
unfolding is_name_start
start_class c = (to_class name_start_ranges c, from_class name_start_ranges c)

name_class : (c : ℕ) → (is_name_char c ≡ true) ↔ IsNameChar c
unfolding is_name_char
name_class c = either (is_name_start c) (in_some name_more_ranges c) (IsNameStart c) (IsInSome name_more_ranges c) (start_class c) (to_class name_more_ranges c, from_class name_more_ranges c)

-- the tests tell the classes
pub classes : AreClasses
classes = record { xml = xml_class; start = start_class; name = name_class }

-- two tests of one class are equal
pub same_test : (b d : Bool) (P : Type 0) → ((b ≡ true) ↔ P) → ((d ≡ true) ↔ P) → b ≡ d
same_test true d P f g = sym (g.1 (f.0 refl))
same_test false true P f g = f.1 (g.0 refl)
same_test false false P f g = refl

-- XML characters are scalar values
pub xml_scalar : (c : ℕ) → is_xml_char c ≡ true → IsScalar c
unfolding is_xml_char
xml_scalar c h = grind (arith, nat_tests)

-- a number of no character is that of no XML character
pub not_scalar : (c : ℕ) → (IsScalar c → ⊥) → None ≡ numbered_char c
not_scalar c h = elim (cases_Bool (is_xml_char c)) as (λ _. None ≡ numbered_char c) [ inl k ↦ absurd (h (xml_scalar c k)) | inr k ↦ rw k refl ]

pub return_is_space : is_space 13 ≡ true
unfolding is_space
return_is_space = refl

-- white space is none of the letters that fields begin with
pub space_no_letter : (c : ℕ) → is_space c ≡ true → ((c == 101) ≡ false) × ((c == 115) ≡ false)
unfolding is_space
space_no_letter c h = (grind (arith, nat_tests), grind (arith, nat_tests))

pub letter_no_space : (is_space 118 ≡ false) × (is_space 101 ≡ false)
unfolding is_space
letter_no_space = (refl, refl)

pub question_no_space : is_space 63 ≡ false
unfolding is_space
question_no_space = refl

pub hyphen_xml : is_xml_char 45 ≡ true
unfolding is_xml_char
hyphen_xml = refl

pub question_xml : is_xml_char 63 ≡ true
unfolding is_xml_char
question_xml = refl

pub space_xml : (c : ℕ) → is_space c ≡ true → is_xml_char c ≡ true
unfolding is_space is_xml_char
space_xml c h = grind (arith, nat_tests)

pub space_no_question : (c : ℕ) → is_space c ≡ true → (c == 63) ≡ false
unfolding is_space
space_no_question c h = grind (arith, nat_tests)

-- the letters of `xml` in either case stand in names
pub word_chars : (is_name_char 109 ≡ true) × (is_name_char 77 ≡ true) × (is_name_char 108 ≡ true) × (is_name_char 76 ≡ true)
unfolding is_name_char is_name_start
word_chars = (refl, refl, refl, refl)

pub x_starts : (is_name_start 120 ≡ true) × (is_name_start 88 ≡ true)
unfolding is_name_start
x_starts = (refl, refl)

pub other_x : (c : ℕ) → (c == 120) ≡ false → (c == 88) ≡ false → (to_ascii_lowercase c == 120) ≡ false
other_x c h k = grind (arith, nat_tests)

pub other_m : (c : ℕ) → (c == 109) ≡ false → (c == 77) ≡ false → (to_ascii_lowercase c == 109) ≡ false
other_m c h k = grind (arith, nat_tests)

pub other_l : (c : ℕ) → (c == 108) ≡ false → (c == 76) ≡ false → (to_ascii_lowercase c == 108) ≡ false
other_l c h k = grind (arith, nat_tests)

pub letter_u : (c : ℕ) → (c == 117 || c == 85) ≡ true → (to_ascii_lowercase c == 117) ≡ true
letter_u c h = grind (arith, nat_tests)
