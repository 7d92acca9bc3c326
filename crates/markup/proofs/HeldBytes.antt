-- What is held of an open token is no more than its bytes.
use Rattle.std.proofs.Common.{◌≡◌, ℕ, zero, suc, Bool, true, false, not, ◌==◌, ◌&&◌, ◌||◌, ◌+◌, ◌<◌, ◌≤◌, ◌⊎◌, inl, inr, List, [], ◌∷◌, ◌++◌, length, reverse, Option, Some, None, if◌then◌else◌, refl, sym, ◌∙◌, ap, subst, length-append, arith}
use Rattle.std.specs.Char.{encode_utf8}
use Rattle.std.specs.Str.{encode_utf8_all}
use Rattle.std.proofs.lemmas.Bool.{and_parts, both_ways, cases_Bool}
use Rattle.std.proofs.lemmas.Str.{encode_ascii, length-encode, len_utf8_bounds}
use Rattle.markup.specs.Chars.{is_xml_char, is_name_start, is_space}
use Rattle.markup.specs.Events.{Placed}
use Rattle.markup.specs.inner.Words.{letter_of}
use Rattle.markup.specs.inner.Drafts.{no_draft, literal_char, given_by, given_char, add, value_noted, note_character, held_name, held_all, draft_size}
use Rattle.markup.specs.inner.ReferenceScans.{entity_char_of, letter_step, gives, numbered_char, digit_step, first_digit, more_digits, reference_step}
use Rattle.markup.specs.inner.Scans.{step, name_step, name_turn, referring, referring_in, text_step, line_step, behind_attribute_step, before_equals_step, end_gap_step}
use Rattle.markup.specs.inner.ScanRuns.{At, turn_run, run, position}
use Rattle.markup.specs.inner.Tokenizers.{is_tag, IsTokenOpen}
use Rattle.markup.specs.Reading.{HasTakenUnder, open_token_held}
use Rattle.markup.specs.declared.draft.Draft.{Draft}
use Rattle.markup.specs.declared.reader.Reader.{Reader}
use Rattle.markup.specs.declared.tag.Given.{Given}
use Rattle.markup.specs.declared.tag.Spelled.{Spelled}
use Rattle.markup.specs.declared.word.Word.{Word}
use Rattle.markup.specs.declared.word.Word.TheVariants.{Less, Greater, Apostrophe, Quote}
use Rattle.markup.specs.declared.reference.ReferenceScan.{ReferenceScan}
use Rattle.markup.specs.declared.reference.ReferenceScan.TheVariants.{Begun, LetterA, Name as NameOf, Hash, HashX, Decimal, Hexadecimal}
use Rattle.markup.specs.declared.reference.ReferenceTurn.{ReferenceTurn}
use Rattle.markup.specs.declared.reference.ReferenceTurn.TheVariants.{Continues, Gives, Breaks}
use Rattle.markup.specs.declared.scan.NameScan.{NameScan}
use Rattle.markup.specs.declared.scan.NameScan.TheVariants.{First, Colon, Second}
use Rattle.markup.specs.declared.scan.NameTurn.{NameTurn}
use Rattle.markup.specs.declared.scan.NameTurn.TheVariants.{Remains, Ends, Fails}
use Rattle.markup.specs.declared.scan.Position.{Position}
use Rattle.markup.specs.declared.scan.Position.TheVariants.{Start as AtStart, AfterMark, Text, Cdata}
use Rattle.markup.specs.declared.scan.Scan.{Scan}
use Rattle.markup.specs.declared.scan.Scan.TheVariants.{Begin, Reference as InReference, Opened, StartName, Gap, AttributeName, BeforeEquals, AfterEquals, Value, ValueReference, AfterValue, Slash, EndOpened, EndName, EndGap}
use Rattle.markup.specs.declared.scan.Turn.{Turn}
use Rattle.markup.specs.declared.scan.Turn.TheVariants.{Goes, Whole, Stuck}
use Rattle.markup.proofs.CharLemmas.{some_bytes}
use Rattle.markup.proofs.Placed.{is_other, other_goes, other_turn, Placed as ScanPlaced, run_placed}
use Rattle.markup.proofs.PlainLemmas.{at_same}

-- ---- bytes of a reference that have come, of which nothing is held yet: 3 at most

abbrev credit_of : ReferenceScan → ℕ
credit_of Begun = 1
credit_of Hash = 2
credit_of HashX = 3
credit_of (Decimal n) = 3
credit_of (Hexadecimal n) = 3
credit_of _ = 0

abbrev credit : Scan → ℕ
credit (ValueReference q r) = credit_of r
credit _ = 0

-- a test that computes where the first number is known
abbrev is_within : ℕ → ℕ → Bool
is_within zero m = true
is_within (suc n) zero = false
is_within (suc n) (suc m) = is_within n m

within_le : (n m : ℕ) → is_within n m ≡ true → n ≤ m
within_le zero m h = omega arith
within_le (suc n) zero h = absurd (both_ways false refl h)
within_le (suc n) (suc m) h = omega (arith, within_le n m h)

le_within : (n m : ℕ) → n ≤ m → is_within n m ≡ true
le_within zero m h = refl
le_within (suc n) zero h = absurd (omega arith)
le_within (suc n) (suc m) h = le_within n m (omega arith)

-- a character makes no more of them than one, and gives no more than they are with it
abbrev pays : ReferenceScan → ReferenceTurn → Bool
pays r (Continues s) = is_within (credit_of s) (suc (credit_of r))
pays r (Gives c) = is_within (length (encode_utf8 c)) (suc (credit_of r))
pays r Breaks = true

record Pays (r : ReferenceScan) (t : ReferenceTurn) : Type 0 where
  is : pays r t ≡ true

pp : (r : ReferenceScan) (t : ReferenceTurn) → pays r t ≡ true → Pays r t
pp r t h = record { is = h }

pi : (r : ReferenceScan) (b : Bool) (x y : ReferenceTurn) → Pays r x → Pays r y → Pays r (if b then x else y)
pi r true x y h k = h
pi r false x y h k = k

entity_below : (w : Word) → entity_char_of w < 128
entity_below Less = omega arith
entity_below Greater = omega arith
entity_below Apostrophe = omega arith
entity_below Quote = omega arith
entity_below _ = omega arith

entity_one : (w : Word) → is_within (length (encode_utf8 (entity_char_of w))) 1 ≡ true
entity_one w = ap (λ v. is_within (length v) 1) (encode_ascii (entity_char_of w) (entity_below w))

four_bytes : (c : ℕ) → is_within (length (encode_utf8 c)) 4 ≡ true
four_bytes c = le_within (length (encode_utf8 c)) 4 (omega (arith, length-encode c, len_utf8_bounds c))

letter_pays : (w : Word) (at c : ℕ) (o : Option ℕ) → Pays (NameOf w at) (letter_step w at c o)
letter_pays w at c None = pi (NameOf w at) (c == 59) (Gives (entity_char_of w)) Breaks (pp _ _ (entity_one w)) (pp _ _ refl)
letter_pays w at c (Some l) = pi (NameOf w at) (c == l) (Continues (NameOf w (at + 1))) Breaks (pp _ _ refl) (pp _ _ refl)

decimal_first : (o : Option ℕ) → Pays Hash (first_digit Decimal o)
decimal_first None = pp _ _ refl
decimal_first (Some n) = pp _ _ refl

hexadecimal_first : (o : Option ℕ) → Pays HashX (first_digit Hexadecimal o)
hexadecimal_first None = pp _ _ refl
hexadecimal_first (Some n) = pp _ _ refl

decimal_gives : (n : ℕ) (o : Option ℕ) → Pays (Decimal n) (gives o)
decimal_gives n None = pp _ _ refl
decimal_gives n (Some c) = pp _ _ (four_bytes c)

hexadecimal_gives : (n : ℕ) (o : Option ℕ) → Pays (Hexadecimal n) (gives o)
hexadecimal_gives n None = pp _ _ refl
hexadecimal_gives n (Some c) = pp _ _ (four_bytes c)

decimal_more : (n c : ℕ) (o : Option ℕ) → Pays (Decimal n) (more_digits Decimal n c o)
decimal_more n c None = pi (Decimal n) (c == 59) (gives (numbered_char n)) Breaks (decimal_gives n (numbered_char n)) (pp _ _ refl)
decimal_more n c (Some m) = pp _ _ refl

hexadecimal_more : (n c : ℕ) (o : Option ℕ) → Pays (Hexadecimal n) (more_digits Hexadecimal n c o)
hexadecimal_more n c None = pi (Hexadecimal n) (c == 59) (gives (numbered_char n)) Breaks (hexadecimal_gives n (numbered_char n)) (pp _ _ refl)
hexadecimal_more n c (Some m) = pp _ _ refl

reference_pays : (r : ReferenceScan) (c : ℕ) → Pays r (reference_step r c)
reference_pays Begun c = pi Begun (c == 97) _ _ (pp _ _ refl) (pi Begun (c == 108) _ _ (pp _ _ refl) (pi Begun (c == 103) _ _ (pp _ _ refl) (pi Begun (c == 113) _ _ (pp _ _ refl) (pi Begun (c == 35) _ _ (pp _ _ refl) (pp _ _ refl)))))
reference_pays LetterA c = pi LetterA (c == 109) _ _ (pp _ _ refl) (pi LetterA (c == 112) _ _ (pp _ _ refl) (pp _ _ refl))
reference_pays (NameOf w at) c = letter_pays w at c (letter_of w at)
reference_pays Hash c = pi Hash (c == 120) (Continues HashX) (first_digit Decimal (digit_step 10 0 c)) (pp _ _ refl) (decimal_first (digit_step 10 0 c))
reference_pays HashX c = hexadecimal_first (digit_step 16 0 c)
reference_pays (Decimal n) c = decimal_more n c (digit_step 10 n c)
reference_pays (Hexadecimal n) c = hexadecimal_more n c (digit_step 16 n c)

given_within : (r : ReferenceScan) (c : ℕ) → length (given_char r c) ≤ credit_of r + length (encode_utf8 c)
given_within r c = by (reference_step r c) (reference_pays r c).is where
  by : (t : ReferenceTurn) → pays r t ≡ true → length (given_by t) ≤ credit_of r + length (encode_utf8 c)
  by (Gives x) h = omega (arith, within_le (length (encode_utf8 x)) (suc (credit_of r)) h, some_bytes c)
  by (Continues s) h = omega arith
  by Breaks h = omega arith

-- ---- the scans: a tag stays one, and no more is owed than one byte more

abbrev fits : Scan → Turn → Bool
fits s (Goes t) = is_within (credit t) (suc (credit s)) && (is_tag t || not (is_tag s))
fits s _ = true

record Fits (s : Scan) (t : Turn) : Type 0 where
  is : fits s t ≡ true

ff : (s : Scan) (t : Turn) → fits s t ≡ true → Fits s t
ff s t h = record { is = h }

fi : (s : Scan) (b : Bool) (x y : Turn) → Fits s x → Fits s y → Fits s (if b then x else y)
fi s true x y h k = h
fi s false x y h k = k

other_no_tag : (s : Scan) → is_other s ≡ true → is_tag s ≡ false
other_no_tag (StartName n) h = absurd (both_ways false refl h)
other_no_tag Gap h = absurd (both_ways false refl h)
other_no_tag (AttributeName n) h = absurd (both_ways false refl h)
other_no_tag BeforeEquals h = absurd (both_ways false refl h)
other_no_tag AfterEquals h = absurd (both_ways false refl h)
other_no_tag (Value q r) h = absurd (both_ways false refl h)
other_no_tag (ValueReference q r) h = absurd (both_ways false refl h)
other_no_tag AfterValue h = absurd (both_ways false refl h)
other_no_tag Slash h = absurd (both_ways false refl h)
other_no_tag EndOpened h = absurd (both_ways false refl h)
other_no_tag (EndName n) h = absurd (both_ways false refl h)
other_no_tag EndGap h = absurd (both_ways false refl h)
other_no_tag _ h = refl

other_credit : (s : Scan) → is_other s ≡ true → credit s ≡ 0
other_credit (ValueReference q r) h = absurd (both_ways false refl h)
other_credit _ h = refl

other_fits : (s : Scan) (t : Turn) → is_other s ≡ true → other_goes t ≡ true → Fits s t
other_fits s (Goes t) h k = ff s (Goes t) (rw (other_credit t k, other_no_tag s h) (by (is_tag t))) where
  by : (b : Bool) → (true && (b || true)) ≡ true
  by true = refl
  by false = refl
other_fits s (Whole e) h k = ff s (Whole e) refl
other_fits s Stuck h k = ff s Stuck refl

behind_fits : (s : Scan) (c : ℕ) → Fits s (behind_attribute_step c)
behind_fits s c = fi s (is_space c) _ _ (ff s _ refl) (fi s (c == 47) _ _ (ff s _ refl) (fi s (c == 62) _ _ (ff s _ refl) (ff s _ refl)))

equals_fits : (s : Scan) (c : ℕ) → Fits s (before_equals_step c)
equals_fits s c = fi s (is_space c) _ _ (ff s _ refl) (fi s (c == 61) _ _ (ff s _ refl) (ff s _ refl))

gap_fits : (s : Scan) (c : ℕ) → Fits s (end_gap_step c)
gap_fits s c = fi s (is_space c) _ _ (ff s _ refl) (fi s (c == 62) _ _ (ff s _ refl) (ff s _ refl))

name_fits : (s : Scan) (at : NameScan → Scan) (behind : Turn) → ((n : NameScan) → Fits s (Goes (at n))) → Fits s behind → (t : NameTurn) → Fits s (name_turn at behind t)
name_fits s at behind f b (Remains n) = f n
name_fits s at behind f b Ends = b
name_fits s at behind f b Fails = ff s Stuck refl

reference_fits : (r : ReferenceScan) (t : ReferenceTurn) → Fits (InReference r) (referring t)
reference_fits r (Continues s) = ff _ _ refl
reference_fits r (Gives c) = ff _ _ refl
reference_fits r Breaks = ff _ _ refl

value_reference_fits : (q : ℕ) (r : ReferenceScan) (t : ReferenceTurn) → pays r t ≡ true → Fits (ValueReference q r) (referring_in q t)
value_reference_fits q r (Continues s) h = ff _ _ (ap (λ b. b && true) h)
value_reference_fits q r (Gives c) h = ff _ _ refl
value_reference_fits q r Breaks h = ff _ _ refl

line_fits : (p : Position) (c : ℕ) → Fits (Begin p) (line_step c)
line_fits p c = fi (Begin p) (c == 13) _ _ (ff _ _ refl) (fi (Begin p) (c == 10) _ _ (ff _ _ refl) (fi (Begin p) (is_xml_char c) _ _ (ff _ _ refl) (ff _ _ refl)))

text_fits : (p : Position) (first : Bool) (c : ℕ) → Fits (Begin p) (text_step first c)
text_fits p first c = fi (Begin p) (c == 60) _ _ (ff _ _ refl) (fi (Begin p) (c == 38) _ _ (ff _ _ refl) (line_fits p c))

step_fits : (s : Scan) (c : ℕ) → Fits s (step s c)
step_fits (Begin AtStart) c = fi (Begin AtStart) (c == 0xFEFF) _ _ (ff _ _ refl) (text_fits AtStart true c)
step_fits (Begin AfterMark) c = text_fits AfterMark true c
step_fits (Begin Text) c = text_fits Text false c
step_fits (Begin Cdata) c = fi (Begin Cdata) (c == 93) _ _ (ff _ _ refl) (line_fits Cdata c)
step_fits (InReference r) c = reference_fits r (reference_step r c)
step_fits (Opened first) c = fi (Opened first) (c == 33) _ _ (ff _ _ refl) (fi (Opened first) (c == 63) _ _ (ff _ _ refl) (fi (Opened first) (c == 47) _ _ (ff _ _ refl) (fi (Opened first) (is_name_start c) _ _ (ff _ _ refl) (ff _ _ refl))))
step_fits (StartName n) c = name_fits (StartName n) StartName (behind_attribute_step c) (λ m. ff _ _ refl) (behind_fits (StartName n) c) (name_step n c)
step_fits Gap c = fi Gap (is_name_start c) _ _ (ff _ _ refl) (behind_fits Gap c)
step_fits (AttributeName n) c = name_fits (AttributeName n) AttributeName (before_equals_step c) (λ m. ff _ _ refl) (equals_fits (AttributeName n) c) (name_step n c)
step_fits BeforeEquals c = equals_fits BeforeEquals c
step_fits AfterEquals c = fi AfterEquals (is_space c) _ _ (ff _ _ refl) (fi AfterEquals (c == 34 || c == 39) _ _ (ff _ _ refl) (ff _ _ refl))
step_fits (Value q r) c = fi (Value q r) (c == q) _ _ (ff _ _ refl) (fi (Value q r) (c == 38) _ _ (ff _ _ refl) (fi (Value q r) (is_xml_char c && not (c == 60)) _ _ (ff _ _ refl) (ff _ _ refl)))
step_fits (ValueReference q r) c = value_reference_fits q r (reference_step r c) (reference_pays r c).is
step_fits AfterValue c = behind_fits AfterValue c
step_fits Slash c = fi Slash (c == 62) _ _ (ff _ _ refl) (ff _ _ refl)
step_fits EndOpened c = fi EndOpened (is_name_start c) _ _ (ff _ _ refl) (ff _ _ refl)
step_fits (EndName n) c = name_fits (EndName n) EndName (end_gap_step c) (λ m. ff _ _ refl) (gap_fits (EndName n) c) (name_step n c)
step_fits EndGap c = gap_fits EndGap c
step_fits s c = other_fits s (step s c) refl (other_turn s c refl).is

goes_fits : (s t : Scan) (c : ℕ) → step s c ≡ Goes t → (credit t ≤ suc (credit s)) × ((is_tag t || not (is_tag s)) ≡ true)
goes_fits s t c e = let h : fits s (Goes t) ≡ true = subst (λ u. fits s u ≡ true) e (step_fits s c).is in
    let k = and_parts (is_within (credit t) (suc (credit s))) (is_tag t || not (is_tag s)) h in (within_le _ _ k.0, k.1)

-- ---- what is held, one character after another

held_append : (xs : List Given) (g : Given) → held_all (xs ++ g ∷ []) ≡ held_all xs + (held_name g.name + length g.value)
held_append [] g = omega arith
held_append (x ∷ xs) g = omega (arith, held_append xs g)

held_add : (part : NameScan) (c : ℕ) (n : Spelled) → held_name (add part c n) ≤ held_name n + length (encode_utf8 c)
held_add Colon c n = omega arith
held_add First c n = omega (arith, length-append n.local (encode_utf8 c))
held_add Second c n = omega (arith, length-append n.local (encode_utf8 c))

space_within : (c : ℕ) → length (encode_utf8 32) ≤ length (encode_utf8 c)
space_within c = omega (arith, some_bytes c, ap length (encode_ascii 32 (omega arith)))

literal_within : (r : Bool) (c : ℕ) → length (literal_char r c) ≤ length (encode_utf8 c)
literal_within r c = by (c == 10 && r) (is_space c) where
  by : (a b : Bool) → length (if a then [] else (if b then encode_utf8 32 else encode_utf8 c)) ≤ length (encode_utf8 c)
  by true b = omega arith
  by false true = space_within c
  by false false = omega arith

-- the value goes on
value_within : (s : Scan) (c : ℕ) (d : Draft) → draft_size (value_noted s c d) ≤ draft_size d + (credit s + length (encode_utf8 c))
value_within (Value q r) c d = omega (arith, length-append d.value (literal_char r c), literal_within r c)
value_within (ValueReference q r) c d = omega (arith, length-append d.value (given_char r c), given_within r c)
value_within _ c d = omega arith

noted_within : (s t : Scan) (c : ℕ) (d : Draft) → credit t ≤ suc (credit s) → draft_size (note_character s t c d) + credit t ≤ draft_size d + (credit s + length (encode_utf8 c))
noted_within s (StartName part) c d h = omega (arith, held_add part c d.name)
noted_within s (EndName part) c d h = omega (arith, held_add part c d.name)
noted_within s (AttributeName part) c d h = omega (arith, held_add part c d.attribute)
noted_within s (Value q r) c d h = omega (arith, value_within s c d)
noted_within s AfterValue c d h = omega (arith, held_append d.given (record { name = d.attribute; value = d.value }))
noted_within s (ValueReference q r) c d h = omega (arith, h, some_bytes c)
noted_within s _ c d h = omega arith

run_within : (s t : Scan) (d e : Draft) (cs : List ℕ) → run s d cs ≡ At t e → draft_size e + credit t ≤ draft_size d + (credit s + length (encode_utf8_all cs))
run_within s t d e [] h = let k : (s ≡ t) × (d ≡ e) = at_same s t d e h in omega (arith, ap draft_size k.1, ap credit k.0)
run_within s t d e (c ∷ cs) h = by (step s c) refl h (λ u k. run_within u t (note_character s u c d) e cs k) where
  by : (u : Turn) → step s c ≡ u → turn_run (λ u. run u (note_character s u c d) cs) d cs u ≡ At t e → ((u : Scan) → run u (note_character s u c d) cs ≡ At t e → draft_size e + credit t ≤ draft_size (note_character s u c d) + (credit u + length (encode_utf8_all cs))) → draft_size e + credit t ≤ draft_size d + (credit s + length (encode_utf8 c ++ encode_utf8_all cs))
  by (Goes u) e h more = omega (arith, more u h, noted_within s u c d (goes_fits s u c e).0, length-append (encode_utf8 c) (encode_utf8_all cs))
  by (Whole k) e h more = absurd (cc)
  by Stuck e h more = absurd (cc)

-- a tag stays one
run_tag : (s t : Scan) (d e : Draft) (cs : List ℕ) → run s d cs ≡ At t e → is_tag s ≡ true → is_tag t ≡ true
run_tag s t d e [] h k = subst (λ v. is_tag v ≡ true) (at_same s t d e h).0 k
run_tag s t d e (c ∷ cs) h k = by (step s c) refl h (λ u k. run_tag u t (note_character s u c d) e cs k) where
  stays : (a b : Bool) → (a || not b) ≡ true → b ≡ true → a ≡ true
  stays true b h k = refl
  stays false b h k = absurd (both_ways b (not_true b h) k) where
    not_true : (b : Bool) → (false || not b) ≡ true → b ≡ false
    not_true false h = refl
    not_true true h = absurd (both_ways false refl h)

  by : (u : Turn) → step s c ≡ u → turn_run (λ u. run u (note_character s u c d) cs) d cs u ≡ At t e → ((u : Scan) → run u (note_character s u c d) cs ≡ At t e → is_tag u ≡ true → is_tag t ≡ true) → is_tag t ≡ true
  by (Goes u) e h more = more u h (stays (is_tag u) (is_tag s) (goes_fits s u c e).1 k)
  by (Whole k) e h more = absurd (cc)
  by Stuck e h more = absurd (cc)

-- and outside of tags nothing is held
noted_outside : (s t : Scan) (c : ℕ) (d : Draft) → is_tag t ≡ false → note_character s t c d ≡ d
noted_outside s (StartName part) c d h = absurd (both_ways true h refl)
noted_outside s (EndName part) c d h = absurd (both_ways true h refl)
noted_outside s (AttributeName part) c d h = absurd (both_ways true h refl)
noted_outside s (Value q r) c d h = absurd (both_ways true h refl)
noted_outside s AfterValue c d h = absurd (both_ways true h refl)
noted_outside s _ c d h = refl

run_outside : (s t : Scan) (d e : Draft) (cs : List ℕ) → run s d cs ≡ At t e → is_tag t ≡ false → e ≡ d
run_outside s t d e [] h k = sym (at_same s t d e h).1
run_outside s t d e (c ∷ cs) h k = by (step s c) h (λ u k. run_outside u t (note_character s u c d) e cs k) where
  by : (u : Turn) → turn_run (λ u. run u (note_character s u c d) cs) d cs u ≡ At t e → ((u : Scan) → run u (note_character s u c d) cs ≡ At t e → is_tag t ≡ false → e ≡ note_character s u c d) → e ≡ d
  by (Goes u) h more = more u h k ∙ noted_outside s u c d (not_tag (cases_Bool (is_tag u))) where
    not_tag : (is_tag u ≡ true) ⊎ (is_tag u ≡ false) → is_tag u ≡ false
    not_tag (inl y) = absurd (both_ways (is_tag t) k (run_tag u t (note_character s u c d) e cs h y))
    not_tag (inr n) = n
  by (Whole k) h more = absurd (cc)
  by Stuck h more = absurd (cc)

-- ---- the reader

module _ {limit : ℕ} (r : Reader) (bytes : List ℕ) (told : List Placed) (h : HasTakenUnder limit r bytes told) where
  abbrev o : IsTokenOpen limit r.tokenizer (reverse h.0) h.1.reads.bytes
  o = h.1.reads.opens

  within_chars : open_token_held r ≤ length (encode_utf8_all o.chars)
  within_chars = omega (arith, run_within (Begin (position (reverse h.0))) r.tokenizer.scan no_draft r.tokenizer.draft o.chars o.scan_is)

  within_bytes : open_token_held r ≤ length h.1.reads.bytes
  within_bytes = omega (arith, within_chars, ap length o.bytes_are, length-append (encode_utf8_all o.chars) o.part)

  -- no more than the open token has
  pub token_within : open_token_held r + r.tokenizer.start ≤ r.tokenizer.place
  token_within = omega (arith, within_bytes, o.place_is)

  -- and no more than a tag may have
  pub token_bounded : open_token_held r ≤ limit
  token_bounded = by (cases_Bool (is_tag r.tokenizer.scan)) where
    here : ScanPlaced o.chars r.tokenizer.scan
    here = run_placed (position (reverse h.0)) o.chars r.tokenizer.scan no_draft r.tokenizer.draft o.scan_is

    count : (n m limit : ℕ) → n ≤ m → m < limit → n ≤ limit
    count n m limit h k = omega arith

    none : (n limit : ℕ) → n ≡ 0 → n ≤ limit
    none n limit h = omega arith

    by : (is_tag r.tokenizer.scan ≡ true) ⊎ (is_tag r.tokenizer.scan ≡ false) → open_token_held r ≤ limit
    by (inl y) = count (open_token_held r) (length h.1.reads.bytes) limit within_bytes (o.short (here.tag (here.same y)))
    by (inr n) = none (open_token_held r) limit (ap draft_size (run_outside (Begin (position (reverse h.0))) r.tokenizer.scan no_draft r.tokenizer.draft o.chars o.scan_is n))
