-- The value of an attribute, spelled: it is one to the grammar, and gives its bytes back.
use Rattle.std.proofs.Common.{◌≡◌, ℕ, ◌<◌, ◌≤◌, inl, inr, true, false, ◌==◌, List, [], ◌∷◌, ◌++◌, length, get_or, refl, sym, ap, ap₂, ◌∙◌, arith, append-nil, if◌then◌else◌}
use Rattle.std.specs.Prelude.{encode_utf8, encode_utf8_all, codes}
use Rattle.std.specs.List.{flat_map, list_all, AllByRecursion}
use Rattle.std.proofs.lemmas.Bool.{cases_lt, cases_Bool, and_from}
use Rattle.std.proofs.lemmas.Bool.Decides.{nat_tests}
use Rattle.std.proofs.lemmas.Str.{encode_ascii, inside_one, encodes-append}
use Rattle.lexical_core.specs.Characters.{IsXmlChar, IsXmlText}
use Rattle.markup.specs.Chars.{is_xml_char, is_space}
use Rattle.markup.specs.Reference.{Named, Numbered, Ampersand, Less, Greater, Quote}
use Rattle.markup.specs.Attribute.{ValuePiece, Literal, Refers, is_piece, piece_text, value_chars}
use Rattle.markup.proofs.CharLemmas.{classes}
use Rattle.fragments.specs.Fragment.{value_byte}
use Rattle.respell.proofs.Lists.{flat_map-append}

-- the piece that spells a character
abbrev pub piece_for : ℕ → ValuePiece
piece_for c =
    if c == 38 then Refers (Named Ampersand)
    else (if c == 60 then Refers (Named Less)
    else (if c == 62 then Refers (Named Greater)
    else (if c == 13 then Refers (Numbered 10 (codes "13"))
    else (if c == 34 then Refers (Named Quote)
    else (if c == 9 then Refers (Numbered 10 (codes "9"))
    else (if c == 10 then Refers (Numbered 10 (codes "10"))
    else Literal c))))))

-- what a piece does for its character
pub record Spells (c : ℕ) (p : ValuePiece) : Type 0 where
  pub is : is_piece 34 p ≡ true
  pub bytes : encode_utf8_all (piece_text p) ≡ flat_map value_byte (encode_utf8 c)
  pub gives : (ps : List ValuePiece) → value_chars (p ∷ ps) ≡ c ∷ value_chars ps

-- a character that stands for itself in a value
pub record IsOwn (c : ℕ) : Type 0 where
  pub n38 : (c == 38) ≡ false
  pub n60 : (c == 60) ≡ false
  pub n62 : (c == 62) ≡ false
  pub n13 : (c == 13) ≡ false
  pub n34 : (c == 34) ≡ false
  pub n9 : (c == 9) ≡ false
  pub n10 : (c == 10) ≡ false

own_byte : (b : ℕ) → IsOwn b → value_byte b ≡ b ∷ []
own_byte b o = rw (o.n38, o.n60, o.n62, o.n13, o.n34, o.n9, o.n10) refl

own_space : (c : ℕ) → IsOwn c → (if is_space c then 32 else c) ≡ c
unfolding is_space
own_space c o = (let a = o.n9 in let b = o.n10 in let d = o.n13 in grind (arith, nat_tests, a, b, d))

own_gives : (c : ℕ) → IsOwn c → (ps : List ValuePiece) → value_chars (Literal c ∷ ps) ≡ c ∷ value_chars ps
own_gives c o ps = rw (o.n13, own_space c o) refl

high_bytes : (bytes : List ℕ) → ((k : ℕ) → k < length bytes → 128 ≤ get_or bytes k 0) → flat_map value_byte bytes ≡ bytes
high_bytes [] h = refl
high_bytes (b ∷ bytes) h =
    let high : 128 ≤ b = h 0 (omega arith) in
    let own : IsOwn b = record { n38 = grind (arith, nat_tests, high); n60 = grind (arith, nat_tests, high); n62 = grind (arith, nat_tests, high); n13 = grind (arith, nat_tests, high); n34 = grind (arith, nat_tests, high); n9 = grind (arith, nat_tests, high); n10 = grind (arith, nat_tests, high) } in
    ap₂ (λ (x y : List ℕ). x ++ y) (own_byte b own) (high_bytes bytes (λ k lt. h (Rattle.std.proofs.Common.suc k) (omega (arith, lt))))

own_bytes : (c : ℕ) → IsOwn c → encode_utf8_all (c ∷ []) ≡ flat_map value_byte (encode_utf8 c)
own_bytes c o = elim (cases_lt c 128) [
  | inl small ↦ append-nil (encode_utf8 c) ∙ (encode_ascii c small ∙ (sym (own_byte c o) ∙ (sym (append-nil (value_byte c)) ∙ ap (flat_map value_byte) (sym (encode_ascii c small)))))
  | inr big ↦ append-nil (encode_utf8 c) ∙ sym (high_bytes (encode_utf8 c) (λ k below. elim (cases_lt (get_or (encode_utf8 c) k 0) 128) [
    | inl low ↦ absurd (let e = inside_one c [] (encode_utf8 c) k (sym (append-nil _)) below low in omega (arith, e, big, low))
    | inr h ↦ h
  ]))
]

own_is : (c : ℕ) → IsOwn c → is_xml_char c ≡ true → is_piece 34 (Literal c) ≡ true
own_is c o x = rw (x, o.n60, o.n38, o.n34) refl

fixed : (c : ℕ) (p : ValuePiece) → (is_piece 34 p ≡ true) → encode_utf8_all (piece_text p) ≡ flat_map value_byte (encode_utf8 c) → ((ps : List ValuePiece) → value_chars (p ∷ ps) ≡ c ∷ value_chars ps) → Spells c p
fixed c p i b g = record { is = i; bytes = b; gives = g }

spells_38 : Spells 38 (Refers (Named Ampersand))
unfolding lib.Utf8.encode
spells_38 = record { is = refl; bytes = refl; gives = λ ps. refl }

spells_60 : Spells 60 (Refers (Named Less))
unfolding lib.Utf8.encode
spells_60 = record { is = refl; bytes = refl; gives = λ ps. refl }

spells_62 : Spells 62 (Refers (Named Greater))
unfolding lib.Utf8.encode
spells_62 = record { is = refl; bytes = refl; gives = λ ps. refl }

spells_34 : Spells 34 (Refers (Named Quote))
unfolding lib.Utf8.encode
spells_34 = record { is = refl; bytes = refl; gives = λ ps. refl }

spells_13 : Spells 13 (Refers (Numbered 10 (codes "13")))
unfolding lib.Utf8.encode is_xml_char
spells_13 = record { is = refl; bytes = refl; gives = λ ps. refl }

spells_9 : Spells 9 (Refers (Numbered 10 (codes "9")))
unfolding lib.Utf8.encode is_xml_char
spells_9 = record { is = refl; bytes = refl; gives = λ ps. refl }

spells_10 : Spells 10 (Refers (Numbered 10 (codes "10")))
unfolding lib.Utf8.encode is_xml_char
spells_10 = record { is = refl; bytes = refl; gives = λ ps. refl }

same_char : (c n : ℕ) → (c == n) ≡ true → n ≡ c
same_char c n h = grind (arith, nat_tests, h)

move : (c n : ℕ) (p : ValuePiece) → (c == n) ≡ true → Spells n p → Spells c p
move c n p h s = Rattle.std.proofs.Common.subst (λ (k : ℕ). Spells k p) (same_char c n h) s

abbrev chosen : ℕ → ℕ → ValuePiece → ValuePiece → Type 0
chosen c n p q = Spells c (if c == n then p else q)

choose : (c n : ℕ) (p q : ValuePiece) → Spells n p → ((c == n) ≡ false → Spells c q) → Spells c (if c == n then p else q)
choose c n p q s f = elim (cases_Bool (c == n)) as (λ _. Spells c (if c == n then p else q)) [
  | inl h ↦ rw h (move c n p h s)
  | inr h ↦ rw h (f h)
]

pub spells_char : (c : ℕ) → is_xml_char c ≡ true → Spells c (piece_for c)
spells_char c x =
    choose c 38 _ _ spells_38 (λ n38. choose c 60 _ _ spells_60 (λ n60. choose c 62 _ _ spells_62 (λ n62. choose c 13 _ _ spells_13 (λ n13. choose c 34 _ _ spells_34
    (λ n34. choose c 9 _ _ spells_9 (λ n9. choose c 10 _ _ spells_10 (λ n10.
    let own : IsOwn c = record { n38 = n38; n60 = n60; n62 = n62; n13 = n13; n34 = n34; n9 = n9; n10 = n10 } in
    record { is = own_is c own x; bytes = own_bytes c own; gives = own_gives c own })))))))

-- pieces that spell bytes
pub record HasValue (bytes : List ℕ) : Type 0 where
  pub pieces : List ValuePiece
  pub are : list_all (is_piece 34) pieces ≡ true
  pub spelled : encode_utf8_all (flat_map piece_text pieces) ≡ flat_map value_byte bytes
  pub gives : encode_utf8_all (value_chars pieces) ≡ bytes

pub record HasPieces (chars : List ℕ) : Type 0 where
  pub pieces : List ValuePiece
  pub are : list_all (is_piece 34) pieces ≡ true
  pub spelled : encode_utf8_all (flat_map piece_text pieces) ≡ flat_map value_byte (encode_utf8_all chars)
  pub gives : value_chars pieces ≡ chars

pieces_of : (chars : List ℕ) → AllByRecursion IsXmlChar chars → HasPieces chars
pieces_of [] h = record { pieces = []; are = refl; spelled = refl; gives = refl }
pieces_of (c ∷ chars) h =
    let s = spells_char c ((classes.xml c).1 h.0) in let r = pieces_of chars h.1 in record {
      pieces = piece_for c ∷ r.pieces;
      are = and_from _ _ s.is r.are;
      spelled = encodes-append (piece_text (piece_for c)) (flat_map piece_text r.pieces) ∙ (ap₂ (λ (x y : List ℕ). x ++ y) s.bytes r.spelled ∙ sym (flat_map-append value_byte (encode_utf8 c) (encode_utf8_all chars)));
      gives = s.gives r.pieces ∙ ap (λ (l : List ℕ). c ∷ l) r.gives;
    }

pub value_of : (bytes : List ℕ) → IsXmlText bytes → HasValue bytes
value_of bytes (chars, are, spelled) = let r = pieces_of chars are in record {
  pieces = r.pieces;
  are = r.are;
  spelled = r.spelled ∙ ap (flat_map value_byte) spelled;
  gives = ap encode_utf8_all r.gives ∙ spelled;
}
