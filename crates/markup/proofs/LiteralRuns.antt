-- A run of characters that stand by themselves, found from the front.
use Rattle.std.proofs.Common.{◌≡◌, ℕ, zero, suc, Bool, true, false, ◌&&◌, ◌+◌, ◌-◌, ◌*◌, ◌<◌, ◌≤◌, ◌⊎◌, inl, inr, nat_le, cond, List, [], ◌∷◌, ◌++◌, length, take, drop, Option, Some, refl, sym, ◌∙◌, ap, subst, append_assoc, append-nil, length-append, arith}
use Rattle.std.specs.Char.{encode_utf8}
use Rattle.std.specs.Str.{encode_utf8_all}
use Rattle.std.specs.List.{AllByRecursion, list_all, prefix_len}
use Rattle.std.proofs.lemmas.Bool.Decides.{nat_tests}
use Rattle.std.proofs.lemmas.Str.{encode_ascii, encode_same, length-encode, len_utf8_bounds, encodes-append}
use Rattle.std.proofs.lemmas.Bool.{cases_lt, le-leb}
use Rattle.std.proofs.lemmas.List.{length-take-le, take-append-drop}
use Rattle.std.proofs.Math.Seq.{take-append_seam, drop-append_seam}
use Rattle.lexical_core.specs.Characters.{IsXmlChar}
use Rattle.lexical_core.specs.Begun.{IsTail}
use Rattle.lexical_core.specs.Utf8.{Steps}
use Rattle.lexical_core.specs.declared.utf8.Utf8.TheVariants.{Char}
use Rattle.lexical_core.proofs.ByteForms.{Spells, spells_2, spells_3}
use Rattle.markup.specs.Chars.{is_xml_char, is_space}
use Rattle.markup.proofs.CharLemmas.{classes, some_bytes}
use Rattle.markup.specs.Literals.{is_still_literal, is_still_space, IsLiteral, IsOfText, IsFreeRun, IsAt, IsWideAt}

-- so many bytes of the piece have come, which are a front of one character
pub record IsBegun (piece : List ℕ) (utf8 : Option (List ℕ)) (count : ℕ) (rest : List ℕ) : Type 0 where
  pub seen : List ℕ
  pub joined : piece ≡ seen ++ rest
  pub count_is : length seen ≡ count
  pub utf8_is : utf8 ≡ Some seen

-- so many bytes of the piece have come, which are so many characters that stand by themselves
pub record IsWalkedFree (piece : List ℕ) (bytes characters : ℕ) (rest : List ℕ) : Type 0 where
  pub seen : List ℕ
  pub joined : piece ≡ seen ++ rest
  pub bytes_are : length seen ≡ bytes
  pub run : IsFreeRun seen characters
  pub few : characters ≤ bytes

pub begun_whole : (piece : List ℕ) (old new : Option (List ℕ)) (count byte c : ℕ) (rest after : List ℕ) → IsBegun piece old count rest → rest ≡ byte ∷ after → Steps old byte (Char c) new → is_xml_char c ≡ true → IsAt piece (count + 1)
begun_whole piece old new count byte c rest after b e s x =
    let t : Steps (Some b.seen) byte (Char c) new = subst (λ u. Steps u byte (Char c) new) b.utf8_is s in
    record {
      char = c;
      rest = after;
      joined = b.joined ∙ (ap (λ v. b.seen ++ v) e ∙ (sym (append_assoc b.seen (byte ∷ []) after) ∙ ap (λ v. v ++ after) (sym t.1)));
      size_is = ap length t.1 ∙ (length-append b.seen (byte ∷ []) ∙ ap (λ n. n + 1) b.count_is);
      allowed = x;
    }

-- a character whose first byte is none of ASCII is none either
heads : (x c : ℕ) (xs ys : List ℕ) → nat_le 128 x ≡ true → x ∷ xs ≡ encode_utf8 c ++ ys → nat_le 128 c ≡ true
heads x c xs ys high e = by (nat_le 128 c) refl where
  head : List ℕ → ℕ
  head [] = 0
  head (y ∷ w) = y

  two : x ≡ c → c < 128 → nat_le 128 x ≡ true → ⊥
  two e l h = grind (arith, nat_tests)

  below : nat_le 128 c ≡ false → c < 128
  below h = grind (arith, nat_tests)

  by : (t : Bool) → nat_le 128 c ≡ t → nat_le 128 c ≡ true
  by true h = h
  by false h = absurd (two (ap head (e ∙ ap (λ v. v ++ ys) (encode_ascii c (below h)))) (below h) high)

pub wide_at : (x n : ℕ) (xs piece : List ℕ) → piece ≡ x ∷ xs → nat_le 128 x ≡ true → IsAt piece n → IsWideAt piece n
wide_at x n xs piece e high a = record { is_at = a; wide = heads x a.char xs a.rest high (sym e ∙ a.joined) }

-- the characters of two bytes, and of three from U+0800 to U+CFFF
two_allowed : (x : ℕ) → 0x80 ≤ x → x ≤ 0xCFFF → is_xml_char x ≡ true
unfolding is_xml_char
two_allowed x h k = grind (arith, nat_tests)

spelled_at : (x n : ℕ) (bytes rest piece : List ℕ) → Spells x bytes → length bytes ≡ n → piece ≡ bytes ++ rest → 0x80 ≤ x → x ≤ 0xCFFF → IsWideAt piece n
spelled_at x n bytes rest piece s l e h k = record {
  is_at = record { char = x; rest = rest; joined = e ∙ ap (λ v. v ++ rest) (sym s.1); size_is = ap length s.1 ∙ l; allowed = two_allowed x h k };
  wide = le-leb 128 x h;
}

pub two_at : (a b : ℕ) (rest piece : List ℕ) → piece ≡ a ∷ b ∷ rest → 0xC2 ≤ a → a ≤ 0xDF → IsTail b → IsWideAt piece 2
two_at a b rest piece e low high tail = spelled_at ((a - 0xC0) * 0x40 + (b - 0x80)) 2 (a ∷ b ∷ []) rest piece (spells_2 a b _ refl low high tail) refl e (omega arith) (omega arith)

pub three_at : (a b c : ℕ) (rest piece : List ℕ) → piece ≡ a ∷ b ∷ c ∷ rest → 0xE0 ≤ a → a ≤ 0xEC → (a ≡ 0xE0 → 0xA0 ≤ b) → IsTail b → IsTail c → IsWideAt piece 3
three_at a b c rest piece e low high over second third = spelled_at ((a - 0xE0) * 0x1000 + (b - 0x80) * 0x40 + (c - 0x80)) 3 (a ∷ b ∷ c ∷ []) rest piece
    (spells_3 a b c _ refl low (omega arith) (record { tail = second; no_overlong_3 = over; no_surrogate = λ h. absurd (omega arith); no_overlong_4 = λ h. absurd (omega arith); in_range = λ h. absurd (omega arith) }) third) refl e
    (least (cases_lt a 0xE1)) (omega arith) where
      least : (a < 0xE1) ⊎ (0xE1 ≤ a) → 0x80 ≤ (a - 0xE0) * 0x1000 + (b - 0x80) * 0x40 + (c - 0x80)
      least (inl h) = omega (arith, over (omega arith))
      least (inr h) = omega arith

pub no_run : IsFreeRun [] 0
no_run = (record { characters = []; bytes_are = refl; count_is = refl; literal = tt; allowed = tt; blank_is = refl }, tt)

pub walked_none : (piece : List ℕ) → IsWalkedFree piece 0 0 piece
walked_none piece = record { seen = []; joined = refl; bytes_are = refl; run = no_run; few = omega arith }

all_append : (cs ds : List ℕ) → AllByRecursion IsLiteral cs → AllByRecursion IsLiteral ds → AllByRecursion IsLiteral (cs ++ ds)
all_append [] ds h k = k
all_append (c ∷ cs) ds h k = (h.0, all_append cs ds h.1 k)

pub of_text : (cs : List ℕ) → AllByRecursion IsLiteral cs → AllByRecursion IsOfText cs
of_text [] h = tt
of_text (c ∷ cs) h = (inl h.0, of_text cs h.1)

-- such characters are characters of XML
plain_allowed : (c : ℕ) → is_still_literal c ≡ true → is_xml_char c ≡ true
unfolding is_xml_char
plain_allowed c h = grind (arith, nat_tests)

literal_allowed : (c : ℕ) → IsLiteral c → is_xml_char c ≡ true
literal_allowed c (inl h) = plain_allowed c h
literal_allowed c (inr h) = h.1

literals_allowed : (cs : List ℕ) → AllByRecursion IsLiteral cs → AllByRecursion IsXmlChar cs
literals_allowed [] h = tt
literals_allowed (c ∷ cs) h = ((classes.xml c).0 (literal_allowed c h.0), literals_allowed cs h.1)

-- the bytes of a character are white space where it is
no_space_above : (x : ℕ) → 128 ≤ x → is_space x ≡ false
unfolding is_space
no_space_above x h = grind (arith, nat_tests)

wide_first : (c x : ℕ) (xs : List ℕ) → 128 ≤ c → encode_utf8 c ≡ x ∷ xs → 128 ≤ x
wide_first c x xs h e = elim (cases_lt x 128) as (λ _. 128 ≤ x) [
  | inl l ↦ absurd (omega (arith, h, l, (encode_same c x [] xs (append-nil (encode_utf8 c) ∙ (e ∙ ap (λ v. v ++ xs) (sym (encode_ascii x l))))).0))
  | inr l ↦ l
]

blank_encoded : (c : ℕ) (ys : List ℕ) → list_all is_space (encode_utf8 c ++ ys) ≡ (is_space c && list_all is_space ys)
blank_encoded c ys = elim (cases_lt c 128) as (λ _. list_all is_space (encode_utf8 c ++ ys) ≡ (is_space c && list_all is_space ys)) [
  | inl l ↦ ap (λ v. list_all is_space (v ++ ys)) (encode_ascii c l)
  | inr l ↦ wide (encode_utf8 c) refl l
] where
  wide : (v : List ℕ) → encode_utf8 c ≡ v → 128 ≤ c → list_all is_space (encode_utf8 c ++ ys) ≡ (is_space c && list_all is_space ys)
  wide [] e l = absurd (omega (arith, ap length e, length-encode c, len_utf8_bounds c))
  wide (x ∷ xs) e l = ap (λ v. list_all is_space (v ++ ys)) e ∙ (ap (λ b. b && list_all is_space (xs ++ ys)) (no_space_above x (wide_first c x xs l e)) ∙ sym (ap (λ b. b && list_all is_space ys) (no_space_above c l)))

blanks_encoded : (cs : List ℕ) → list_all is_space (encode_utf8_all cs) ≡ list_all is_space cs
blanks_encoded [] = refl
blanks_encoded (c ∷ cs) = blank_encoded c (encode_utf8_all cs) ∙ ap (λ b. is_space c && b) (blanks_encoded cs)

literal_ascii : (c : ℕ) → is_still_literal c ≡ true → c < 128
literal_ascii c h = grind (arith, nat_tests)

-- literal bytes are their own characters
literal_bytes : (xs : List ℕ) (n : ℕ) → n ≤ prefix_len is_still_literal xs → (encode_utf8_all (take n xs) ≡ take n xs) × AllByRecursion IsLiteral (take n xs)
literal_bytes xs zero h = (refl, tt)
literal_bytes [] (suc n) h = (refl, tt)
literal_bytes (x ∷ xs) (suc n) h = by (is_still_literal x) refl h (λ k. literal_bytes xs n k) where
  by : (b : Bool) → is_still_literal x ≡ b → suc n ≤ cond b (1 + prefix_len is_still_literal xs) 0 → (n ≤ prefix_len is_still_literal xs → (encode_utf8_all (take n xs) ≡ take n xs) × AllByRecursion IsLiteral (take n xs)) → (encode_utf8_all (x ∷ take n xs) ≡ x ∷ take n xs) × AllByRecursion IsLiteral (x ∷ take n xs)
  by true e h more =
      let k = more (omega arith) in
      (ap (λ v. v ++ encode_utf8_all (take n xs)) (encode_ascii x (literal_ascii x e)) ∙ ap (λ v. x ∷ v) k.0, (inl e, k.1))
  by false e h more = absurd (omega arith)

-- more characters have come
walked_on : (piece : List ℕ) (bytes characters m n : ℕ) (rest after cs : List ℕ) → IsWalkedFree piece bytes characters rest → AllByRecursion IsLiteral cs → rest ≡ encode_utf8_all cs ++ after → length (encode_utf8_all cs) ≡ m → length cs ≡ n → n ≤ m → IsWalkedFree piece (bytes + m) (characters + n) after
walked_on piece bytes characters m n rest after cs w l e b k f = record {
  seen = w.seen ++ encode_utf8_all cs;
  joined = w.joined ∙ (ap (λ v. w.seen ++ v) e ∙ sym (append_assoc w.seen (encode_utf8_all cs) after));
  bytes_are = length-append w.seen (encode_utf8_all cs) ∙ (ap (λ v. v + length (encode_utf8_all cs)) w.bytes_are ∙ ap (λ v. bytes + v) b);
  run = (
    record {
      characters = w.run.0.characters ++ cs;
      bytes_are = ap (λ v. v ++ encode_utf8_all cs) w.run.0.bytes_are ∙ sym (encodes-append w.run.0.characters cs);
      count_is = length-append w.run.0.characters cs ∙ (ap (λ v. v + length cs) w.run.0.count_is ∙ ap (λ v. characters + v) k);
      literal = of_text (w.run.0.characters ++ cs) (all_append w.run.0.characters cs w.run.1 l);
      allowed = literals_allowed (w.run.0.characters ++ cs) (all_append w.run.0.characters cs w.run.1 l);
      blank_is = ap (list_all is_space) (ap (λ v. v ++ encode_utf8_all cs) w.run.0.bytes_are ∙ sym (encodes-append w.run.0.characters cs)) ∙ blanks_encoded (w.run.0.characters ++ cs);
    },
    all_append w.run.0.characters cs w.run.1 l,
  );
  few = omega (arith, w.few, f);
}

-- literal bytes
pub walked_plain : (piece : List ℕ) (bytes characters n : ℕ) (rest after : List ℕ) → IsWalkedFree piece bytes characters rest → n ≡ prefix_len is_still_literal rest → n ≤ length rest → after ≡ drop n rest → IsWalkedFree piece (bytes + n) (characters + n) after
walked_plain piece bytes characters n rest after w p h e =
    let f = literal_bytes rest n (omega (arith, p)) in
    let l : length (take n rest) ≡ n = length-take-le n rest h in
    walked_on piece bytes characters n n rest after (take n rest) w f.1
    (sym (take-append-drop n rest) ∙ (ap (λ v. v ++ drop n rest) (sym f.0) ∙ ap (λ v. encode_utf8_all (take n rest) ++ v) (sym e)))
    (ap length f.0 ∙ l) l (omega arith)

wide_rest : (size : ℕ) (rest after : List ℕ) (a : IsAt rest size) → after ≡ drop size rest → after ≡ a.rest
wide_rest size rest after a e = e ∙ (ap (λ n. drop n rest) (sym a.size_is) ∙ (ap (drop (length (encode_utf8 a.char))) a.joined ∙ drop-append_seam (encode_utf8 a.char) a.rest))

pub is_shorter : (size : ℕ) (rest after : List ℕ) → IsWideAt rest size → after ≡ drop size rest → length after < length rest
is_shorter size rest after w e =
    let a = w.is_at in
    omega (arith, ap length (wide_rest size rest after a e), ap length a.joined, length-append (encode_utf8 a.char) a.rest, a.size_is, some_bytes a.char)

-- a character of several bytes
pub walked_wide : (piece : List ℕ) (bytes characters size : ℕ) (rest after : List ℕ) → IsWalkedFree piece bytes characters rest → IsWideAt rest size → after ≡ drop size rest → IsWalkedFree piece (bytes + size) (characters + 1) after
walked_wide piece bytes characters size rest after w a e =
    let c = a.is_at.char in
    let none : encode_utf8_all (c ∷ []) ≡ encode_utf8 c = append-nil (encode_utf8 c) in
    walked_on piece bytes characters size 1 rest after (c ∷ []) w (inr (a.wide, a.is_at.allowed), tt)
    (a.is_at.joined ∙ (ap (λ v. v ++ a.is_at.rest) (sym none) ∙ ap (λ v. encode_utf8_all (c ∷ []) ++ v) (sym (wide_rest size rest after a.is_at e))))
    (ap length none ∙ a.is_at.size_is) refl (subst (λ n. 1 ≤ n) a.is_at.size_is (some_bytes c))

pub walked_run : (piece : List ℕ) (bytes characters : ℕ) (rest : List ℕ) → IsWalkedFree piece bytes characters rest → IsFreeRun (take bytes piece) characters
walked_run piece bytes characters rest w = subst (λ v. IsFreeRun v characters) (sym front) w.run where
  front : take bytes piece ≡ w.seen
  front = ap (λ n. take n piece) (sym w.bytes_are) ∙ (ap (take (length w.seen)) w.joined ∙ take-append_seam w.seen rest)

-- ---- white space

pub still_literal : (x : ℕ) → is_still_space x ≡ true → is_still_literal x ≡ true
unfolding is_space
still_literal x h = grind (arith, nat_tests)

still_blank : (x : ℕ) → is_still_space x ≡ true → is_space x ≡ true
unfolding is_space
still_blank x h = grind (arith, nat_tests)

still_front : (xs : List ℕ) (n : ℕ) → n ≤ prefix_len is_still_space xs → (n ≤ prefix_len is_still_literal xs) × (list_all is_space (take n xs) ≡ true)
still_front xs zero h = (omega arith, refl)
still_front [] (suc n) h = (h, refl)
still_front (x ∷ xs) (suc n) h = by (is_still_space x) refl h (λ k. still_front xs n k) where
  by : (b : Bool) → is_still_space x ≡ b → suc n ≤ cond b (1 + prefix_len is_still_space xs) 0 → (n ≤ prefix_len is_still_space xs → (n ≤ prefix_len is_still_literal xs) × (list_all is_space (take n xs) ≡ true))
      → (suc n ≤ cond (is_still_literal x) (1 + prefix_len is_still_literal xs) 0) × ((is_space x && list_all is_space (take n xs)) ≡ true)
  by true e h more =
      let k = more (omega arith) in
      (rw (still_literal x e) (omega (arith, k.0)), rw (still_blank x e) k.1)
  by false e h more = absurd (omega arith)

-- so much white space is a run of so many characters
pub blank_run : (xs : List ℕ) (n : ℕ) → n ≡ prefix_len is_still_space xs → n ≤ length xs → IsFreeRun (take n xs) n × (list_all is_space (take n xs) ≡ true)
blank_run xs n e within =
    let s = still_front xs n (omega (arith, e)) in
    let f = literal_bytes xs n s.0 in (
      (
        record {
          characters = take n xs;
          bytes_are = sym f.0;
          count_is = length-take-le n xs within;
          literal = of_text (take n xs) f.1;
          allowed = literals_allowed (take n xs) f.1;
          blank_is = refl;
        },
        f.1,
      ),
      s.1,
    )
