-- A run of whole characters, found from the front.
use Rattle.std.proofs.Common.{◌≡◌, ℕ, zero, suc, Bool, true, false, cond, ◌+◌, ◌-◌, ◌<◌, ◌≤◌, ◌≢◌, ◌⊎◌, inl, inr, List, [], ◌∷◌, ◌++◌, length, take, drop, get_or, Option, Some, refl, sym, ◌∙◌, ap, subst, append_assoc, append-nil, length-append, take_all, arith, add-one, drop-cons}
use Rattle.std.specs.Char.{encode_utf8}
use Rattle.std.specs.Str.{encode_utf8_all}
use Rattle.std.specs.List.{AllByRecursion, prefix_len}
use Rattle.std.proofs.lemmas.Bool.{cases_eq, cases_lt}
use Rattle.std.proofs.lemmas.Bool.Decides.{nat_tests}
use Rattle.std.proofs.lemmas.Str.{encode_ascii, length-encode, len_utf8_bounds, encodes-append}
use Rattle.std.proofs.lemmas.List.{length-take-le, take-append-drop, take_more}
use Rattle.std.proofs.Math.Seq.{take-append_seam, drop-append_seam, take-append-add}
use Rattle.lexical_core.specs.Characters.{IsXmlChar, IsXmlText}
use Rattle.lexical_core.specs.Utf8.{IsFront, Utf8GoesOn, Utf8Stops}
use Rattle.lexical_core.specs.XmlRuns.{IsXmlRun, IsPlainXmlByte, is_plain_xml_byte, IsCharAt, BeginsNoChar}
use Rattle.lexical_core.proofs.ReadSoFar.{AllByRecursion-append, after_chars, no_char_begins, no_char_in_front}

-- ---- the character at the front

-- so many bytes of the piece have come, which are a front of one character
pub record IsBegun (piece : List ℕ) (at : ℕ) (step : Option (List ℕ)) : Type 0 where
  pub step_is : step ≡ Some (take at piece)
  pub begins : (take at piece ≡ []) ⊎ IsFront (take at piece)

pub begun_none : (piece : List ℕ) (step : Option (List ℕ)) → step ≡ Some [] → IsBegun piece 0 step
begun_none piece step e = record { step_is = e; begins = inl refl }

byte_goes : (piece : List ℕ) (at : ℕ) (old new : Option (List ℕ)) → IsBegun piece at old → Utf8GoesOn IsXmlChar old (get_or piece at 0) new
    → Utf8GoesOn IsXmlChar (Some (take at piece)) (get_or piece at 0) new
byte_goes piece at old new b g = subst (λ o. Utf8GoesOn IsXmlChar o (get_or piece at 0) new) b.step_is g

pub begun_more : (piece : List ℕ) (at : ℕ) (old new : Option (List ℕ)) → at < length piece → IsBegun piece at old → Utf8GoesOn IsXmlChar old (get_or piece at 0) new
    → (new ≡ Some [] → ⊥) → IsBegun piece (at + 1) new
begun_more piece at old new within b g not_whole = by (byte_goes piece at old new b g) where
  more : take (at + 1) piece ≡ take at piece ++ get_or piece at 0 ∷ []
  more = take_more piece at 0 within

  by : Utf8GoesOn IsXmlChar (Some (take at piece)) (get_or piece at 0) new → IsBegun piece (at + 1) new
  by (inl m) = record { step_is = m.1 ∙ ap Some (sym more); begins = inr (subst IsFront (sym more) m.0) }
  by (inr m) = absurd (not_whole m.3)

pub begun_char : (piece : List ℕ) (at : ℕ) (old new : Option (List ℕ)) → at < length piece → IsBegun piece at old → Utf8GoesOn IsXmlChar old (get_or piece at 0) new
    → new ≡ Some [] → IsCharAt piece (at + 1)
begun_char piece at old new within b g whole = by (byte_goes piece at old new b g) where
  more : take (at + 1) piece ≡ take at piece ++ get_or piece at 0 ∷ []
  more = take_more piece at 0 within

  by : Utf8GoesOn IsXmlChar (Some (take at piece)) (get_or piece at 0) new → IsCharAt piece (at + 1)
  by (inl m) =
      let same : take at piece ++ get_or piece at 0 ∷ [] ≡ [] = (let both = sym m.1 ∙ whole in cc) in
      absurd (omega (arith, ap length same, length-append (take at piece) (get_or piece at 0 ∷ [])))
  by (inr m) = record {
    char = m.0;
    rest = drop (at + 1) piece;
    xml = m.1;
    joined = sym (take-append-drop (at + 1) piece) ∙ ap (λ v. v ++ drop (at + 1) piece) (more ∙ sym m.2);
    size_is = ap length (m.2 ∙ sym more) ∙ length-take-le (at + 1) piece (omega (arith, within));
  }

pub begun_stops : (piece : List ℕ) (at : ℕ) (old : Option (List ℕ)) → at < length piece → IsBegun piece at old → Utf8Stops IsXmlChar old (get_or piece at 0) → BeginsNoChar piece
begun_stops piece at old within b s c rest xml e =
    let split : piece ≡ take at piece ++ get_or piece at 0 ∷ drop (at + 1) piece =
    sym (take-append-drop at piece) ∙ ap (λ t. take at piece ++ t) (rw (add-one, drop-cons piece at 0)) in
    no_char_begins IsXmlChar (take at piece) (get_or piece at 0) (drop (at + 1) piece) b.begins (subst (λ o. Utf8Stops IsXmlChar o (get_or piece at 0)) b.step_is s) c rest xml
    (sym e ∙ split)

pub begun_ends : (piece : List ℕ) (at : ℕ) (old : Option (List ℕ)) → length piece ≤ at → IsBegun piece at old → BeginsNoChar piece
begun_ends piece at old over b c rest xml e = by b.begins where
  all : take at piece ≡ piece
  all = take_all at piece over

  by : (take at piece ≡ []) ⊎ IsFront (take at piece) → ⊥
  by (inl none) =
      omega (arith, ap length (sym none ∙ (all ∙ e)), length-append (encode_utf8 c) rest, length-encode c, len_utf8_bounds c)
  by (inr front) = no_char_in_front piece (subst IsFront all front) c rest e

-- ---- bytes that are characters by themselves

upper_is : (byte : ℕ) → is_plain_xml_byte byte ≡ true → 32 ≤ byte → byte ≤ 127
upper_is byte h high = grind (arith, nat_tests)

lower_is : (byte : ℕ) → is_plain_xml_byte byte ≡ true → byte < 32 → byte ≢ 13 → (9 ≤ byte) × (byte ≤ 10)
lower_is byte h low other = (grind (arith, nat_tests), grind (arith, nat_tests))

plain_is : (byte : ℕ) → is_plain_xml_byte byte ≡ true → IsPlainXmlByte byte
plain_is byte h =
    elim (cases_lt byte 32) [
      | inl low ↦
          elim (cases_eq byte 13) [
            | inl return ↦ record { ascii = omega (arith, low); xml = inr (inr (inl (omega (arith, return), omega (arith, return)))) }
            | inr other ↦ record { ascii = omega (arith, low); xml = inr (inl (lower_is byte h low other)) }
          ]
      | inr high ↦ record { ascii = omega (arith, upper_is byte h high); xml = inl (high, omega (arith, upper_is byte h high)) }
    ]

front_by : (x : ℕ) (xs : List ℕ) (n : ℕ) (b : Bool) → is_plain_xml_byte x ≡ b → suc n ≤ cond b (1 + prefix_len is_plain_xml_byte xs) 0 → (n ≤ prefix_len is_plain_xml_byte xs → AllByRecursion IsPlainXmlByte (take n xs))
    → AllByRecursion IsPlainXmlByte (x ∷ take n xs)
front_by x xs n true e k rest = (plain_is x e, rest (omega (arith, k)))
front_by x xs n false e k rest = absurd (omega (arith, k))

pub plain_front : (piece : List ℕ) (n : ℕ) → n ≤ prefix_len is_plain_xml_byte piece → AllByRecursion IsPlainXmlByte (take n piece)
plain_front piece zero h = tt
plain_front [] (suc n) h = tt
plain_front (x ∷ xs) (suc n) h = front_by x xs n (is_plain_xml_byte x) refl h (plain_front xs n)

-- ---- the run so far

-- so many bytes of the piece have come, which are so many characters
pub record IsWalked (piece : List ℕ) (bytes characters : ℕ) (rest : List ℕ) : Type 0 where
  pub seen : List ℕ
  pub joined : piece ≡ seen ++ rest
  pub bytes_are : length seen ≡ bytes
  pub run : IsXmlRun seen characters
  pub few : characters ≤ bytes

pub walked_none : (piece : List ℕ) → IsWalked piece 0 0 piece
walked_none piece = record { seen = []; joined = refl; bytes_are = refl; run = record { chars = []; spelled = refl; count_is = refl; are = tt }; few = omega arith }

-- more characters have come
walked_on : (piece : List ℕ) (bytes characters m n : ℕ) (rest after cs : List ℕ) → IsWalked piece bytes characters rest → AllByRecursion IsXmlChar cs
    → rest ≡ encode_utf8_all cs ++ after → length (encode_utf8_all cs) ≡ m → length cs ≡ n → n ≤ m → IsWalked piece (bytes + m) (characters + n) after
walked_on piece bytes characters m n rest after cs w l e b k f = record {
  seen = w.seen ++ encode_utf8_all cs;
  joined = w.joined ∙ (ap (λ v. w.seen ++ v) e ∙ sym (append_assoc w.seen (encode_utf8_all cs) after));
  bytes_are = length-append w.seen (encode_utf8_all cs) ∙ (ap (λ v. v + length (encode_utf8_all cs)) w.bytes_are ∙ ap (λ v. bytes + v) b);
  run = record {
    chars = w.run.chars ++ cs;
    spelled = ap (λ v. v ++ encode_utf8_all cs) w.run.spelled ∙ sym (encodes-append w.run.chars cs);
    count_is = length-append w.run.chars cs ∙ (ap (λ v. v + length cs) w.run.count_is ∙ ap (λ v. characters + v) k);
    are = AllByRecursion-append IsXmlChar w.run.chars cs w.run.are l;
  };
  few = omega (arith, w.few, f);
}

-- plain bytes are their own characters
pub plain_encoded : (xs : List ℕ) → AllByRecursion IsPlainXmlByte xs → (encode_utf8_all xs ≡ xs) × AllByRecursion IsXmlChar xs
plain_encoded [] h = (refl, tt)
plain_encoded (x ∷ xs) h =
    let k = plain_encoded xs h.1 in
    let first = h.0 in
    (ap (λ v. v ++ encode_utf8_all xs) (encode_ascii x first.ascii) ∙ ap (λ v. x ∷ v) k.0, (first.xml, k.1))

pub walked_plain : (piece : List ℕ) (bytes characters n : ℕ) (rest after : List ℕ) → IsWalked piece bytes characters rest → AllByRecursion IsPlainXmlByte (take n rest)
    → n ≤ length rest → after ≡ drop n rest → IsWalked piece (bytes + n) (characters + n) after
walked_plain piece bytes characters n rest after w p h e =
    let f = plain_encoded (take n rest) p in
    let l : length (take n rest) ≡ n = length-take-le n rest h in
    walked_on piece bytes characters n n rest after (take n rest) w f.1
    (sym (take-append-drop n rest) ∙ (ap (λ v. v ++ drop n rest) (sym f.0) ∙ ap (λ v. encode_utf8_all (take n rest) ++ v) (sym e)))
    (ap length f.0 ∙ l) l (omega arith)

size_above : (c n : ℕ) → length (encode_utf8 c) ≡ n → 1 ≤ n
size_above c n h = omega (arith, h, length-encode c, len_utf8_bounds c)

char_rest : (size : ℕ) (rest after : List ℕ) (a : IsCharAt rest size) → after ≡ drop size rest → after ≡ a.rest
char_rest size rest after a e = e ∙ (ap (λ n. drop n rest) (sym a.size_is) ∙ (ap (drop (length (encode_utf8 a.char))) a.joined ∙ drop-append_seam (encode_utf8 a.char) a.rest))

pub char_within : (size : ℕ) (rest : List ℕ) → IsCharAt rest size → size ≤ length rest
char_within size rest a = omega (arith, a.size_is, ap length a.joined, length-append (encode_utf8 a.char) a.rest)

pub is_shorter : (size : ℕ) (rest after : List ℕ) → IsCharAt rest size → after ≡ drop size rest → length after < length rest
is_shorter size rest after a e =
    omega (arith, ap length (char_rest size rest after a e), ap length a.joined, length-append (encode_utf8 a.char) a.rest, a.size_is, size_above a.char size a.size_is)

pub walked_char : (piece : List ℕ) (bytes characters size : ℕ) (rest after : List ℕ) → IsWalked piece bytes characters rest → IsCharAt rest size → after ≡ drop size rest
    → IsWalked piece (bytes + size) (characters + 1) after
walked_char piece bytes characters size rest after w a e =
    let none : encode_utf8_all (a.char ∷ []) ≡ encode_utf8 a.char = append-nil (encode_utf8 a.char) in
    walked_on piece bytes characters size 1 rest after (a.char ∷ []) w (a.xml, tt)
    (a.joined ∙ (ap (λ v. v ++ a.rest) (sym none) ∙ ap (λ v. encode_utf8_all (a.char ∷ []) ++ v) (sym (char_rest size rest after a e))))
    (ap length none ∙ a.size_is) refl (size_above a.char size a.size_is)

pub walked_run : (piece : List ℕ) (bytes characters : ℕ) (rest : List ℕ) → IsWalked piece bytes characters rest → IsXmlRun (take bytes piece) characters
walked_run piece bytes characters rest w = subst (λ v. IsXmlRun v characters) (sym front) w.run where
  front : take bytes piece ≡ w.seen
  front = ap (λ n. take n piece) (sym w.bytes_are) ∙ (ap (take (length w.seen)) w.joined ∙ take-append_seam w.seen rest)

pub walked_within : (piece : List ℕ) (bytes characters : ℕ) (rest : List ℕ) → IsWalked piece bytes characters rest → bytes + length rest ≡ length piece
walked_within piece bytes characters rest w = ap (λ n. n + length rest) (sym w.bytes_are) ∙ (sym (length-append w.seen rest) ∙ ap length (sym w.joined))

-- no longer front is whole characters
no_text_at : (rest : List ℕ) (k : ℕ) → BeginsNoChar rest → 0 < length (take k rest) → IsXmlText (take k rest) → ⊥
no_text_at rest k none some ([], are, e) = omega (arith, ap length e)
no_text_at rest k none some (d ∷ ds, are, e) =
    none d (encode_utf8_all ds ++ drop k rest) are.0
    (sym (take-append-drop k rest) ∙ (ap (λ v. v ++ drop k rest) (sym e) ∙ append_assoc (encode_utf8 d) (encode_utf8_all ds) (drop k rest)))

pub walked_longest : (piece : List ℕ) (bytes characters : ℕ) (rest : List ℕ) → IsWalked piece bytes characters rest → BeginsNoChar rest
    → (n : ℕ) → n ≤ length piece → IsXmlText (take n piece) → n ≤ bytes
walked_longest piece bytes characters rest w none n within (cs, are, e) =
    elim (cases_lt bytes n) [
      | inl beyond ↦
          let k : length w.seen + (n - bytes) ≡ n = omega (arith, w.bytes_are, beyond) in
          let split : take n piece ≡ w.seen ++ take (n - bytes) rest =
          ap (λ m. take m piece) (sym k) ∙ (ap (take (length w.seen + (n - bytes))) w.joined ∙ take-append-add w.seen rest (n - bytes)) in
          let text : encode_utf8_all cs ≡ encode_utf8_all w.run.chars ++ take (n - bytes) rest = e ∙ (split ∙ ap (λ v. v ++ take (n - bytes) rest) w.run.spelled) in
          let some : 0 < length (take (n - bytes) rest) =
          omega (arith, length-take-le (n - bytes) rest (omega (arith, within, walked_within piece bytes characters rest w)), beyond) in
          absurd (no_text_at rest (n - bytes) none some (after_chars IsXmlChar w.run.chars cs (take (n - bytes) rest) are text))
      | inr below ↦ below
    ]
