-- A text read a byte at a time: what the bytes so far spell, for any set of characters.
-- A caller keeps `ReadSoFar P read chars begun` in its invariant, where `read` are the bytes that it took.
use Rattle.std.proofs.Common.{◌≡◌, ℕ, ◌+◌, ◌<◌, ◌≤◌, ◌⊎◌, inl, inr, List, [], ◌∷◌, ◌++◌, length, take, take_all, drop, get_or, Option, Some, None, refl, sym, ap, subst, ◌∙◌, arith, append_assoc, length-append, drop-cons, add-one}
use Rattle.std.proofs.lemmas.Bool.{cases_lt}
use Rattle.std.proofs.lemmas.List.{append-nil, take_more, take-append-drop}
use Rattle.std.proofs.lemmas.Str.{encode_same, encodes-append, cons_from_encodes, length-encode, len_utf8_bounds}
use Rattle.std.specs.Char.{encode_utf8, IsScalar}
use Rattle.std.specs.Str.{encode_utf8_all}
use Rattle.std.specs.List.{AllByRecursion}
use Rattle.lexical_core.specs.Characters.{IsTextOf}
use Rattle.lexical_core.specs.Utf8.{IsFront, Steps, Utf8GoesOn, Utf8Stops}
use Rattle.lexical_core.specs.declared.utf8.Utf8.TheVariants.{Char, Bad}

-- the bytes read so far are whole characters, each with P, and a front of one more
pub record ReadSoFar (P : ℕ → Type 0) (read chars begun : List ℕ) : Type 0 where
  pub begins : (begun ≡ []) ⊎ IsFront begun
  pub are : AllByRecursion P chars
  pub spelled : read ≡ encode_utf8_all chars ++ begun

-- what is read of a list up to a place, with the step that read it
pub record ReadTo (P : ℕ → Type 0) (place : ℕ) (bytes : List ℕ) (step : Option (List ℕ)) : Type 0 where
  pub begun : List ℕ
  pub chars : List ℕ
  pub step_is : step ≡ Some begun
  pub so_far : ReadSoFar P (take place bytes) chars begun

-- the shorter of two fronts of one list is a front of the longer
longer_front : (a b c d : List ℕ) → a ++ b ≡ c ++ d → length c ≤ length a → (r : List ℕ) × (a ≡ c ++ r) × (d ≡ r ++ b)
longer_front a b [] d e h = (a, refl, sym e)
longer_front [] b (x ∷ c) d e h = absurd (omega arith)
longer_front (y ∷ a) b (x ∷ c) d e h =
    let same : y ≡ x = cc in
    let rest : a ++ b ≡ c ++ d = cc in
    let more = longer_front a b c d rest (omega arith) in
    (more.0, cc, more.2)

-- no whole character stands at the start of what is begun
pub no_char_in_front : (begun : List ℕ) → IsFront begun → (d : ℕ) (r : List ℕ) → begun ≡ encode_utf8 d ++ r → ⊥
no_char_in_front begun f d r e =
    let same = encode_same f.char d [] (r ++ f.rest) (append-nil (encode_utf8 f.char) ∙ (f.spelled ∙ (ap (λ t. t ++ f.rest) e ∙ append_assoc (encode_utf8 d) r f.rest))) in
    let none = ap length same.1 in
    let more = f.more in
    let sum = length-append r f.rest in
    omega arith

pub AllByRecursion-append : (P : ℕ → Type 0) (xs ys : List ℕ) → AllByRecursion P xs → AllByRecursion P ys → AllByRecursion P (xs ++ ys)
AllByRecursion-append P [] ys a b = b
AllByRecursion-append P (x ∷ xs) ys a b = (a.0, AllByRecursion-append P xs ys a.1 b)

-- the characters after these, where these begin a text
pub after_chars : (P : ℕ → Type 0) (ds cs tail : List ℕ) → AllByRecursion P cs → encode_utf8_all cs ≡ encode_utf8_all ds ++ tail → IsTextOf P tail
after_chars P [] cs tail all e = (cs, all, e)
after_chars P (d ∷ ds) cs tail all e =
    let split = cons_from_encodes cs (encode_utf8_all ds ++ tail) d (e ∙ append_assoc (encode_utf8 d) (encode_utf8_all ds) tail) in
    let these : AllByRecursion P (d ∷ split.0) = subst (AllByRecursion P) split.1 all in
    after_chars P ds split.0 tail these.1 split.2

-- a byte that goes on with a character
pub ReadSoFar-more : (P : ℕ → Type 0) (read chars begun : List ℕ) (byte : ℕ) → ReadSoFar P read chars begun → IsFront (begun ++ byte ∷ [])
    → ReadSoFar P (read ++ byte ∷ []) chars (begun ++ byte ∷ [])
ReadSoFar-more P read chars begun byte r f =
    record { begins = inr f; are = r.are; spelled = ap (λ t. t ++ byte ∷ []) r.spelled ∙ append_assoc (encode_utf8_all chars) begun (byte ∷ []) }

pub encodes-push : (cs : List ℕ) (c : ℕ) → encode_utf8_all (cs ++ c ∷ []) ≡ encode_utf8_all cs ++ encode_utf8 c
encodes-push cs c = encodes-append cs (c ∷ []) ∙ ap (λ t. encode_utf8_all cs ++ t) (append-nil (encode_utf8 c))

-- a byte that ends a character
pub ReadSoFar-char : (P : ℕ → Type 0) (read chars begun : List ℕ) (byte c : ℕ) → ReadSoFar P read chars begun → P c → encode_utf8 c ≡ begun ++ byte ∷ []
    → ReadSoFar P (read ++ byte ∷ []) (chars ++ c ∷ []) []
ReadSoFar-char P read chars begun byte c r p e =
    let text = ap (λ t. t ++ byte ∷ []) r.spelled ∙ append_assoc (encode_utf8_all chars) begun (byte ∷ []) in
    record {
      begins = inl refl;
      are = AllByRecursion-append P chars (c ∷ []) r.are (p, tt);
      spelled = text ∙ (ap (λ t. encode_utf8_all chars ++ t) (sym e) ∙ (sym (encodes-push chars c) ∙ sym (append-nil (encode_utf8_all (chars ++ c ∷ [])))));
    }

-- a text that ends between two characters
pub ReadSoFar-whole : (P : ℕ → Type 0) (read chars : List ℕ) → ReadSoFar P read chars [] → IsTextOf P read
ReadSoFar-whole P read chars r = (chars, r.are, sym (r.spelled ∙ append-nil (encode_utf8_all chars)))

-- no character that P has stands before a byte with which nothing goes on, nor begins with it
pub no_char_begins : (P : ℕ → Type 0) (begun : List ℕ) (byte : ℕ) (rest : List ℕ) → (begun ≡ []) ⊎ IsFront begun → Utf8Stops P (Some begun) byte
    → (d : ℕ) (tail : List ℕ) → P d → encode_utf8 d ++ tail ≡ begun ++ byte ∷ rest → ⊥
no_char_begins P begun byte rest begins stops d tail p e =
    elim (cases_lt (length begun) (length (encode_utf8 d))) [
      | inl below ↦
          let flat : encode_utf8 d ++ tail ≡ (begun ++ byte ∷ []) ++ rest = e ∙ sym (append_assoc begun (byte ∷ []) rest) in
          let more = longer_front (encode_utf8 d) tail (begun ++ byte ∷ []) rest flat (omega (arith, length-append begun (byte ∷ []))) in
          stops d more.0 p (more.1 ∙ append_assoc begun (byte ∷ []) more.0)
      | inr above ↦
          let more = longer_front begun (byte ∷ rest) (encode_utf8 d) tail (sym e) above in
          elim begins [
            | inl none ↦ omega (arith, ap length none, length-encode d, len_utf8_bounds d)
            | inr front ↦ no_char_in_front begun front d more.0 more.1
          ]
    ]

no_text_begins : (P : ℕ → Type 0) (begun : List ℕ) (byte : ℕ) (rest : List ℕ) → (begun ≡ []) ⊎ IsFront begun → Utf8Stops P (Some begun) byte
    → (ds : List ℕ) → AllByRecursion P ds → encode_utf8_all ds ≡ begun ++ byte ∷ rest → ⊥
no_text_begins P begun byte rest begins stops [] all e = let n = ap length e in let m = length-append begun (byte ∷ rest) in omega arith
no_text_begins P begun byte rest begins stops (d ∷ ds) all e = no_char_begins P begun byte rest begins stops d (encode_utf8_all ds) all.0 e

-- after a byte with which nothing goes on there is no text
pub ReadSoFar-stops : (P : ℕ → Type 0) (read chars begun : List ℕ) (byte : ℕ) (rest : List ℕ) → ReadSoFar P read chars begun → Utf8Stops P (Some begun) byte
    → IsTextOf P (read ++ byte ∷ rest) → ⊥
ReadSoFar-stops P read chars begun byte rest r stops text =
    let flat = text.2 ∙ (ap (λ t. t ++ byte ∷ rest) r.spelled ∙ append_assoc (encode_utf8_all chars) begun (byte ∷ rest)) in
    let tail = after_chars P chars text.0 (begun ++ byte ∷ rest) text.1 flat in
    no_text_begins P begun byte rest r.begins stops tail.0 tail.1 tail.2

no_text_is_begun : (P : ℕ → Type 0) (begun : List ℕ) → IsFront begun → (0 < length begun) → (ds : List ℕ) → encode_utf8_all ds ≡ begun → ⊥
no_text_is_begun P begun f some [] e = omega (arith, ap length e)
no_text_is_begun P begun f some (d ∷ ds) e = no_char_in_front begun f d (encode_utf8_all ds) (sym e)

-- bytes that end within a character are no text
pub ReadSoFar-cut : (P : ℕ → Type 0) (read chars begun : List ℕ) → ReadSoFar P read chars begun → (begun ≡ [] → ⊥) → IsTextOf P read → ⊥
ReadSoFar-cut P read chars [] r some text = some refl
ReadSoFar-cut P read chars (b ∷ begun) r some text =
    let tail = after_chars P chars text.0 (b ∷ begun) text.1 (text.2 ∙ r.spelled) in
    elim r.begins [
      | inl none ↦ some none
      | inr front ↦ no_text_is_begun P (b ∷ begun) front (omega arith) tail.0 tail.2
    ]

ReadTo-next : (P : ℕ → Type 0) (place : ℕ) (bytes begun chars next : List ℕ) (step : Option (List ℕ)) → place < length bytes → step ≡ Some begun
    → ReadSoFar P (take place bytes ++ get_or bytes place 0 ∷ []) chars begun → ReadTo P (place + 1) bytes step
ReadTo-next P place bytes begun chars next step h e r =
    record {
      begun = begun;
      chars = chars;
      step_is = e;
      so_far = subst (λ t. ReadSoFar P t chars begun) (sym (take_more bytes place 0 h)) r;
    }

goes_on : (P : ℕ → Type 0) (place : ℕ) (bytes begun chars : List ℕ) (new : Option (List ℕ)) → place < length bytes
    → ReadSoFar P (take place bytes) chars begun → Utf8GoesOn P (Some begun) (get_or bytes place 0) new → ReadTo P (place + 1) bytes new
goes_on P place bytes begun chars new h r (inl m) =
    ReadTo-next P place bytes _ chars [] new h m.1 (ReadSoFar-more P _ chars begun _ r m.0)
goes_on P place bytes begun chars new h r (inr m) =
    ReadTo-next P place bytes _ _ [] new h m.3 (ReadSoFar-char P _ chars begun _ m.0 r m.1 m.2)

-- one more byte of the list
pub ReadTo-goes : (P : ℕ → Type 0) (place : ℕ) (bytes : List ℕ) (old new : Option (List ℕ)) → place < length bytes → ReadTo P place bytes old
    → Utf8GoesOn P old (get_or bytes place 0) new → ReadTo P (place + 1) bytes new
ReadTo-goes P place bytes old new h r g =
    goes_on P place bytes r.begun r.chars new h r.so_far (subst (λ o. Utf8GoesOn P o (get_or bytes place 0) new) r.step_is g)

pub ReadTo-stops : (P : ℕ → Type 0) (place : ℕ) (bytes : List ℕ) (old : Option (List ℕ)) → place < length bytes → ReadTo P place bytes old
    → Utf8Stops P old (get_or bytes place 0) → IsTextOf P bytes → ⊥
ReadTo-stops P place bytes old h r s text =
    let split : bytes ≡ take place bytes ++ get_or bytes place 0 ∷ drop (place + 1) bytes =
    sym (take-append-drop place bytes) ∙ ap (λ t. take place bytes ++ t) (rw (add-one, drop-cons bytes place 0)) in
    ReadSoFar-stops P (take place bytes) r.chars r.begun (get_or bytes place 0) (drop (place + 1) bytes) r.so_far
    (subst (λ o. Utf8Stops P o (get_or bytes place 0)) r.step_is s) (subst (IsTextOf P) split text)

-- a character that P has not ends here: nothing with P begins so
pub Stops-char : (P : ℕ → Type 0) (old new : Option (List ℕ)) (byte c : ℕ) → Steps old byte (Char c) new → (P c → ⊥) → Utf8Stops P old byte
Stops-char P None new byte c s none = tt
Stops-char P (Some begun) new byte c s none =
    λ d rest p e. let same = encode_same d c [] rest (append-nil (encode_utf8 d) ∙ (e ∙ (sym (append_assoc begun (byte ∷ []) rest) ∙ ap (λ t. t ++ rest) (sym s.1)))) in
    none (subst P same.0 p)

-- no character begins so, and so none with P
pub Stops-bad : (P : ℕ → Type 0) → ((c : ℕ) → P c → IsScalar c) → (old new : Option (List ℕ)) (byte : ℕ) → Steps old byte Bad new → Utf8Stops P old byte
Stops-bad P scalars None new byte s = tt
Stops-bad P scalars (Some begun) new byte s = λ d rest p e. s.0 d rest (scalars d p) (e ∙ sym (append_assoc begun (byte ∷ []) rest))

pub ReadTo-whole : (P : ℕ → Type 0) (bytes : List ℕ) (place : ℕ) (step : Option (List ℕ)) → length bytes ≤ place → ReadTo P place bytes step → step ≡ Some []
    → IsTextOf P bytes
ReadTo-whole P bytes place step h r e =
    let none : r.begun ≡ [] = cc in
    ReadSoFar-whole P bytes r.chars (subst (λ t. ReadSoFar P t r.chars []) (take_all place bytes h) (subst (ReadSoFar P (take place bytes) r.chars) none r.so_far))

pub ReadTo-cut : (P : ℕ → Type 0) (bytes : List ℕ) (place : ℕ) (step : Option (List ℕ)) → length bytes ≤ place → ReadTo P place bytes step → (step ≡ Some [] → ⊥)
    → IsTextOf P bytes → ⊥
ReadTo-cut P bytes place step h r none text =
    ReadSoFar-cut P bytes r.chars r.begun (subst (λ t. ReadSoFar P t r.chars r.begun) (take_all place bytes h) r.so_far) (λ e. none (r.step_is ∙ ap Some e)) text
