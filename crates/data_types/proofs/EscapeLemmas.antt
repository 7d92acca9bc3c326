-- The bytes of a text, escaped, are its characters, escaped.
use Rattle.std.proofs.Common.{◌≡◌, ℕ, zero, suc, ◌<◌, ◌≤◌, inl, inr, Bool, true, false, flat_map, List, [], ◌∷◌, ◌++◌, length, take, drop, get_or, slice_index, refl, sym, ap, ap₂, ◌∙◌, arith, append_assoc, append-nil, take-append-drop}
use Rattle.std.proofs.lemmas.Bool.{cases_lt}
use Rattle.std.proofs.lemmas.Bool.Decides.{nat_tests}
use Rattle.std.proofs.lemmas.Str.{encode_ascii, inside_one}
use Rattle.std.specs.Prelude.{encode_utf8, encode_utf8_all}
use Rattle.lexical_core.specs.Escapes.{escape_of}
use Rattle.data_types.specs.Escaping.{escaped_byte, escaped_bytes, IsPlainByte}
use Rattle.data_types.specs.Canonical.{escaped_text}
use Rattle.data_types.proofs.VisibleTexts.{IsVisible, AreVisible}

-- bytes that all stand for themselves
pub plain_front : (attribute : Bool) (text : List ℕ) (count : ℕ) → count ≤ length text → ((k : ℕ) → k < count → IsPlainByte attribute (slice_index text k))
    → escaped_bytes attribute (take count text) ≡ take count text
plain_front attribute text zero bound plain = refl
plain_front attribute [] (suc n) bound plain = refl
plain_front attribute (b ∷ text) (suc n) bound plain =
    ap₂ (λ (x y : List ℕ). x ++ y) (plain 0 (omega arith)) (plain_front attribute text n (omega (arith, bound)) (λ k lt. plain (suc k) (omega (arith, lt))))

pub escaped_bytes-append : (attribute : Bool) (a b : List ℕ) → escaped_bytes attribute (a ++ b) ≡ escaped_bytes attribute a ++ escaped_bytes attribute b
escaped_bytes-append attribute [] b = refl
escaped_bytes-append attribute (x ∷ a) b =
    ap (λ l. escaped_byte attribute x ++ l) (escaped_bytes-append attribute a b) ∙ sym (append_assoc (escaped_byte attribute x) (escaped_bytes attribute a) (escaped_bytes attribute b))

-- the first bytes, escaped, and what is behind them
pub escaped_split : (attribute : Bool) (text : List ℕ) (count : ℕ) → escaped_bytes attribute text ≡ escaped_bytes attribute (take count text) ++ escaped_bytes attribute (drop count text)
escaped_split attribute text count =
    ap (escaped_bytes attribute) (sym (take-append-drop count text)) ∙ escaped_bytes-append attribute (take count text) (drop count text)

high_byte : (attribute : Bool) (b : ℕ) → 128 ≤ b → IsPlainByte attribute b
high_byte true b high = grind (arith, nat_tests, high)
high_byte false b high = grind (arith, nat_tests, high)

high_bytes : (attribute : Bool) (bytes : List ℕ) → ((k : ℕ) → k < length bytes → 128 ≤ get_or bytes k 0) → escaped_bytes attribute bytes ≡ bytes
high_bytes attribute [] h = refl
high_bytes attribute (b ∷ bytes) h =
    ap₂ (λ (x y : List ℕ). x ++ y) (high_byte attribute b (h 0 (omega arith))) (high_bytes attribute bytes (λ k lt. h (suc k) (omega (arith, lt))))

ascii_char : (attribute : Bool) (c : ℕ) → encode_utf8 c ≡ c ∷ [] → escaped_byte attribute c ++ [] ≡ escape_of attribute c
ascii_char attribute c e = rw (e, append-nil) refl

high_char : (attribute : Bool) (c : ℕ) → 128 ≤ c → escape_of attribute c ≡ encode_utf8 c
high_char true c high = grind (arith, nat_tests, high)
high_char false c high = grind (arith, nat_tests, high)

one_char : (attribute : Bool) (c : ℕ) → escaped_bytes attribute (encode_utf8 c) ≡ escape_of attribute c
one_char attribute c = elim (cases_lt c 128) [
  | inl small ↦ ap (escaped_bytes attribute) (encode_ascii c small) ∙ ascii_char attribute c (encode_ascii c small)
  | inr big ↦ high_bytes attribute (encode_utf8 c) (λ k below. elim (cases_lt (get_or (encode_utf8 c) k 0) 128) [
    | inl low ↦ absurd (omega (arith, inside_one c [] (encode_utf8 c) k (sym (append-nil _)) below low, big, low))
    | inr h ↦ h
  ]) ∙ sym (high_char attribute c big)
]

pub escaped_by_chars : (attribute : Bool) (chars : List ℕ) → escaped_bytes attribute (encode_utf8_all chars) ≡ flat_map (escape_of attribute) chars
escaped_by_chars attribute [] = refl
escaped_by_chars attribute (c ∷ chars) =
    escaped_bytes-append attribute (encode_utf8 c) (encode_utf8_all chars) ∙ ap₂ (λ (x y : List ℕ). x ++ y) (one_char attribute c) (escaped_by_chars attribute chars)

pub escaped_chars : (chars : List ℕ) → escaped_bytes false (encode_utf8_all chars) ≡ escaped_text chars
escaped_chars chars = escaped_by_chars false chars

-- characters that stand for themselves are their own bytes
visible_char : (c : ℕ) → IsVisible c → escape_of false c ≡ c ∷ []
visible_char c v =
    let low = v.low in let high = v.high in let n = v.no_ampersand in let l = v.no_less in let g = v.no_greater in
    let ascii = encode_ascii c (omega (arith, high)) in
    let own : escape_of false c ≡ encode_utf8 c = grind (arith, nat_tests, low, n, l, g) in
    own ∙ ascii

pub visible_text : (chars : List ℕ) → AreVisible chars → escaped_text chars ≡ chars
visible_text [] v = refl
visible_text (c ∷ chars) v = ap₂ (λ (x y : List ℕ). x ++ y) (visible_char c v.0) (visible_text chars v.1)
