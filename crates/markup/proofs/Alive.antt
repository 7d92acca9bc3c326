-- Each scan that a character leads to has a text that completes its token.
use Rattle.std.proofs.Common.{◌≡◌, ℕ, Bool, true, false, not, ◌==◌, ◌||◌, ◌&&◌, ◌+◌, ◌*◌, ◌≤◌, ◌<◌, inl, inr, List, [], ◌∷◌, ◌++◌, map, codes, drop, Option, Some, None, is_none, nat_le, if◌then◌else◌, refl, sym, ◌∙◌, ap, subst, arith}
use Rattle.std.specs.List.{list_all}
use Rattle.std.specs.Char.{is_digit, digit_value, to_ascii_lowercase}
use Rattle.std.proofs.lemmas.Bool.{and_from, leb-true, cases_lt}
use Rattle.std.proofs.lemmas.List.{drop-map}
use Rattle.std.proofs.lemmas.Bool.Decides.{nat_tests}
use Rattle.markup.specs.Chars.{is_xml_char, is_name_start, is_name_char, is_space}
use Rattle.markup.specs.Name.{Plain}
use Rattle.markup.specs.Reference.{Ampersand as AmpersandEntity, Less as LessEntity, Named, Numbered, is_reference, number}
use Rattle.markup.specs.Token.{Comment, Instruction, TypeDeclaration, Lf}
use Rattle.markup.specs.inner.Words.{word_text, letter_of}
use Rattle.markup.specs.inner.ReferenceScans.{reference_step, digit_step, first_digit, more_digits, digits_step, numbered_char, gives, letter_step}
use Rattle.markup.specs.inner.Scans.{step, fixed_ended, fits_letter, name_step, name_turn, name_word, referring, referring_in, behind_attribute_step, fixed_letter, field_letter, field_word_letter, field_end_step}
use Rattle.markup.specs.declared.word.Word.{Word}
use Rattle.markup.specs.declared.word.Word.TheVariants.{Utf8, One, Yes}
use Rattle.markup.specs.declared.reference.ReferenceScan.{ReferenceScan}
use Rattle.markup.specs.declared.reference.ReferenceScan.TheVariants.{Begun, LetterA, Name as NameOf, Hash, HashX, Decimal, Hexadecimal}
use Rattle.markup.specs.declared.reference.ReferenceTurn.{ReferenceTurn}
use Rattle.markup.specs.declared.reference.ReferenceTurn.TheVariants.{Continues, Gives, Breaks}
use Rattle.markup.specs.declared.scan.NameScan.{NameScan}
use Rattle.markup.specs.declared.scan.NameScan.TheVariants.{First, Colon, Second}
use Rattle.markup.specs.declared.scan.NameTurn.{NameTurn}
use Rattle.markup.specs.declared.scan.NameTurn.TheVariants.{Remains, Ends, Fails}
use Rattle.markup.specs.declared.scan.Field.{Field}
use Rattle.markup.specs.declared.scan.Field.TheVariants.{Version, Encoding, Standalone}
use Rattle.markup.specs.declared.scan.Position.TheVariants.{Start as AtStart, AfterMark, Text, Cdata}
use Rattle.markup.specs.declared.scan.Scan.{Scan}
use Rattle.markup.specs.declared.scan.Scan.TheVariants.{Begin, AfterReturn, Bracket, Brackets, Reference as InReference, Opened, Bang, BangHyphen, CommentText, CommentHyphen, CommentEnd, Fixed, Question, TargetX, TargetXm, TargetXml, Target, TargetMark, InstructionText, InstructionMark, DeclarationGap, FieldName, FieldBefore, FieldAfter, FieldValue, FieldWord, FieldEnd, FieldGap, DeclarationMark, StartName, Gap, AttributeName, BeforeEquals, AfterEquals, Value, ValueReference, AfterValue, Slash, EndOpened, EndName, EndGap}
use Rattle.markup.specs.declared.scan.Turn.{Turn}
use Rattle.markup.specs.declared.scan.Turn.TheVariants.{Goes, Whole, Stuck}
use Rattle.markup.proofs.CharLemmas.{x_starts, word_chars}
use Rattle.markup.proofs.Complete.{is_none_left, begins_so}
use Rattle.markup.proofs.Residuals.{ReferenceRest, NameRest, Spaced, Tail, InValue, Quoted, Equalled, GapThen, EndClose, TargetRest, follows, FieldsRest, spells, WordRest, FieldValueRest, FieldQuoted, FieldEqualled, FieldNamed, FieldGapThen, Rest}
use Rattle.markup.proofs.Sound.{Completed, line_completed, instruction_is}
use Rattle.markup.proofs.TagSound.{spaced_none}

-- numbers of references so far are no more than the last code point
abbrev pub good_reference : ReferenceScan → Bool
good_reference (Decimal n) = nat_le n 0x10_FFFF
good_reference (Hexadecimal n) = nat_le n 0x10_FFFF
good_reference _ = true

abbrev pub good : Scan → Bool
good (InReference r) = good_reference r
good (ValueReference q r) = good_reference r
good _ = true

abbrev pub good_turn : Turn → Bool
good_turn (Goes s) = good s
good_turn _ = true

abbrev good_reference_turn : ReferenceTurn → Bool
good_reference_turn (Continues r) = good_reference r
good_reference_turn _ = true

-- the facts as records, whose arguments a check can read off a goal
pub record GoodTurn (t : Turn) : Type 0 where
  pub is : good_turn t ≡ true

record GoodReference (t : ReferenceTurn) : Type 0 where
  is : good_reference_turn t ≡ true

ok : (t : Turn) → good_turn t ≡ true → GoodTurn t
ok t h = record { is = h }

okr : (t : ReferenceTurn) → good_reference_turn t ≡ true → GoodReference t
okr t h = record { is = h }

gi : (b : Bool) (x y : Turn) → GoodTurn x → GoodTurn y → GoodTurn (if b then x else y)
gi true x y h k = h
gi false x y h k = k

gr : (b : Bool) (x y : ReferenceTurn) → GoodReference x → GoodReference y → GoodReference (if b then x else y)
gr true x y h k = h
gr false x y h k = k

digit_good : (radix n c m : ℕ) → digit_step radix n c ≡ Some m → nat_le m 0x10_FFFF ≡ true
digit_good radix n c m h = by (is_digit c radix) (nat_le (n * radix + digit_value c) 0x10_FFFF) refl h where
  some_same : (a b : ℕ) → Some a ≡ Some b → a ≡ b
  some_same a b e = cc

  by : (a b : Bool) → nat_le (n * radix + digit_value c) 0x10_FFFF ≡ b → (if a && b then Some (n * radix + digit_value c) else None) ≡ Some m → nat_le m 0x10_FFFF ≡ true
  by true true e h = subst (λ x. nat_le x 0x10_FFFF ≡ true) (some_same _ _ h) e
  by true false e h = absurd (cc)
  by false b e h = absurd (cc)

gives_good : (o : Option ℕ) → GoodReference (gives o)
gives_good None = okr _ refl
gives_good (Some c) = okr _ refl

digits_good : (n c : ℕ) → GoodReference (digits_step n c)
digits_good n c = gr (c == 59) _ Breaks (gives_good (numbered_char n)) (okr _ refl)

module _ (at : ℕ → ReferenceScan) (bound : (m : ℕ) → nat_le m 0x10_FFFF ≡ true → good_reference (at m) ≡ true) (radix : ℕ) where
  first_good : (c : ℕ) → GoodReference (first_digit at (digit_step radix 0 c))
  first_good c = by (digit_step radix 0 c) refl where
    by : (o : Option ℕ) → digit_step radix 0 c ≡ o → GoodReference (first_digit at o)
    by None e = okr _ refl
    by (Some m) e = okr _ (bound m (digit_good radix 0 c m e))

  more_good : (n c : ℕ) → GoodReference (more_digits at n c (digit_step radix n c))
  more_good n c = by (digit_step radix n c) refl where
    by : (o : Option ℕ) → digit_step radix n c ≡ o → GoodReference (more_digits at n c o)
    by None e = digits_good n c
    by (Some m) e = okr _ (bound m (digit_good radix n c m e))

letter_good : (w : Word) (at c : ℕ) (o : Option ℕ) → GoodReference (letter_step w at c o)
letter_good w at c None = gr (c == 59) _ Breaks (okr _ refl) (okr _ refl)
letter_good w at c (Some l) = gr (c == l) _ Breaks (okr _ refl) (okr _ refl)

reference_good : (r : ReferenceScan) (c : ℕ) → GoodReference (reference_step r c)
reference_good Begun c = gr (c == 97) _ _ (okr _ refl) (gr (c == 108) _ _ (okr _ refl) (gr (c == 103) _ _ (okr _ refl) (gr (c == 113) _ _ (okr _ refl) (gr (c == 35) _ _ (okr _ refl) (okr _ refl)))))
reference_good LetterA c = gr (c == 109) _ _ (okr _ refl) (gr (c == 112) _ _ (okr _ refl) (okr _ refl))
reference_good (NameOf w at) c = letter_good w at c _
reference_good Hash c = gr (c == 120) _ _ (okr _ refl) (first_good Decimal (λ m h. h) 10 c)
reference_good HashX c = first_good Hexadecimal (λ m h. h) 16 c
reference_good (Decimal n) c = more_good Decimal (λ m h. h) 10 n c
reference_good (Hexadecimal n) c = more_good Hexadecimal (λ m h. h) 16 n c

referring_good : (t : ReferenceTurn) → GoodReference t → GoodTurn (referring t)
referring_good (Continues r) h = ok _ h.is
referring_good (Gives c) h = ok _ refl
referring_good Breaks h = ok _ refl

referring_in_good : (q : ℕ) (t : ReferenceTurn) → GoodReference t → GoodTurn (referring_in q t)
referring_in_good q (Continues r) h = ok _ h.is
referring_in_good q (Gives c) h = ok _ refl
referring_in_good q Breaks h = ok _ refl

name_good : (at : NameScan → Scan) (behind : Turn) (t : NameTurn) → ((n : NameScan) → good (at n) ≡ true) → GoodTurn behind → GoodTurn (name_turn at behind t)
name_good at behind (Remains n) h k = ok _ (h n)
name_good at behind Ends h k = k
name_good at behind Fails h k = ok _ refl

line_good : (c : ℕ) → GoodTurn (step (Begin Cdata) c)
line_good c = gi (c == 93) _ _ (ok _ refl) (gi (c == 13) _ _ (ok _ refl) (gi (c == 10) _ _ (ok _ refl) (gi (is_xml_char c) _ _ (ok _ refl) (ok _ refl))))

text_good : (c : ℕ) → GoodTurn (step (Begin Text) c)
text_good c = gi (c == 60) _ _ (ok _ refl) (gi (c == 38) _ _ (ok _ refl) (gi (c == 13) _ _ (ok _ refl) (gi (c == 10) _ _ (ok _ refl) (gi (is_xml_char c) _ _ (ok _ refl) (ok _ refl)))))

after_good : (c : ℕ) → GoodTurn (step (Begin AfterMark) c)
after_good c = gi (c == 60) _ _ (ok _ refl) (gi (c == 38) _ _ (ok _ refl) (gi (c == 13) _ _ (ok _ refl) (gi (c == 10) _ _ (ok _ refl) (gi (is_xml_char c) _ _ (ok _ refl) (ok _ refl)))))

behind_good : (c : ℕ) → GoodTurn (behind_attribute_step c)
behind_good c = gi (is_space c) _ _ (ok _ refl) (gi (c == 47) _ _ (ok _ refl) (gi (c == 62) _ _ (ok _ refl) (ok _ refl)))

fixed_good : (w : Word) (at c : ℕ) (o : Option ℕ) → GoodTurn (fixed_letter w at c o)
fixed_good w at c None = ok _ refl
fixed_good w at c (Some l) = gi (c == l) _ Stuck (gi (is_none (letter_of w (at + 1))) (Whole (fixed_ended w)) (Goes (Fixed w (at + 1))) (ok _ refl) (ok _ refl)) (ok _ refl)

field_letter_good : (f : Field) (at c : ℕ) (o : Option ℕ) → GoodTurn (field_letter f at c o)
field_letter_good f at c None = gi (is_space c) _ _ (ok _ refl) (gi (c == 61) _ _ (ok _ refl) (ok _ refl))
field_letter_good f at c (Some l) = gi (c == l) _ _ (ok _ refl) (ok _ refl)

word_letter_good : (f : Field) (w : Word) (q at c : ℕ) (o : Option ℕ) → GoodTurn (field_word_letter f w q at c o)
word_letter_good f w q at c None = gi (c == q) _ _ (ok _ refl) (ok _ refl)
word_letter_good f w q at c (Some l) = gi (fits_letter w l c) (Goes (FieldWord f w q (at + 1))) Stuck (ok _ refl) (ok _ refl)

field_end_good : (f : Field) (c : ℕ) → GoodTurn (field_end_step f c)
field_end_good f c = gi (is_space c) _ _ (ok _ refl) (gi (c == 63) _ _ (ok _ refl) (ok _ refl))

target_good : (c : ℕ) → GoodTurn (step Target c)
target_good c = gi (is_name_char c) _ _ (ok _ refl) (gi (is_space c) _ _ (ok _ refl) (gi (c == 63) _ _ (ok _ refl) (ok _ refl)))

instruction_good : (c : ℕ) → GoodTurn (step InstructionText c)
instruction_good c = gi (c == 63) _ _ (ok _ refl) (gi (is_xml_char c) _ _ (ok _ refl) (ok _ refl))

pub step_good : (s : Scan) (c : ℕ) → GoodTurn (step s c)
step_good (Begin AtStart) c = gi (c == 0xFEFF) _ _ (ok _ refl) (after_good c)
step_good (Begin AfterMark) c = after_good c
step_good (Begin Text) c = text_good c
step_good (Begin Cdata) c = line_good c
step_good AfterReturn c = gi (c == 10) _ _ (ok _ refl) (ok _ refl)
step_good Bracket c = gi (c == 93) _ _ (ok _ refl) (ok _ refl)
step_good Brackets c = gi (c == 62) _ _ (ok _ refl) (ok _ refl)
step_good (InReference r) c = referring_good _ (reference_good r c)
step_good (Opened first) c = gi (c == 33) _ _ (ok _ refl) (gi (c == 63) _ _ (ok _ refl) (gi (c == 47) _ _ (ok _ refl) (gi (is_name_start c) _ _ (ok _ refl) (ok _ refl))))
step_good Bang c = gi (c == 45) _ _ (ok _ refl) (gi (c == 91) _ _ (ok _ refl) (gi (c == 68) _ _ (ok _ refl) (ok _ refl)))
step_good BangHyphen c = gi (c == 45) _ _ (ok _ refl) (ok _ refl)
step_good CommentText c = gi (c == 45) _ _ (ok _ refl) (gi (is_xml_char c) _ _ (ok _ refl) (ok _ refl))
step_good CommentHyphen c = gi (c == 45) _ _ (ok _ refl) (gi (is_xml_char c) _ _ (ok _ refl) (ok _ refl))
step_good CommentEnd c = gi (c == 62) _ _ (ok _ refl) (ok _ refl)
step_good (Fixed w at) c = fixed_good w at c _
step_good (Question first) c = gi (c == 120) _ _ (ok _ refl) (gi (c == 88) _ _ (ok _ refl) (gi (is_name_start c) _ _ (ok _ refl) (ok _ refl)))
step_good (TargetX first) c = gi (c == 109) _ _ (ok _ refl) (gi (c == 77) _ _ (ok _ refl) (target_good c))
step_good (TargetXm first) c = gi (c == 108) _ _ (ok _ refl) (gi (c == 76) _ _ (ok _ refl) (target_good c))
step_good (TargetXml first) c = gi (is_name_char c) _ _ (ok _ refl) (gi (first && is_space c) _ _ (ok _ refl) (ok _ refl))
step_good Target c = target_good c
step_good TargetMark c = gi (c == 62) _ _ (ok _ refl) (ok _ refl)
step_good InstructionText c = instruction_good c
step_good InstructionMark c = gi (c == 62) _ _ (ok _ refl) (instruction_good c)
step_good DeclarationGap c = gi (is_space c) _ _ (ok _ refl) (gi (c == 118) _ _ (ok _ refl) (ok _ refl))
step_good (FieldName f at) c = field_letter_good f at c _
step_good (FieldBefore f) c = gi (is_space c) _ _ (ok _ refl) (gi (c == 61) _ _ (ok _ refl) (ok _ refl))
step_good (FieldAfter f) c = gi (is_space c) _ _ (ok _ refl) (gi (c == 34 || c == 39) _ _ (ok _ refl) (ok _ refl))
step_good (FieldValue Version q) c = gi (c == 49) _ _ (ok _ refl) (ok _ refl)
step_good (FieldValue Encoding q) c = gi (c == 117 || c == 85) _ _ (ok _ refl) (ok _ refl)
step_good (FieldValue Standalone q) c = gi (c == 121) _ _ (ok _ refl) (gi (c == 110) _ _ (ok _ refl) (ok _ refl))
step_good (FieldWord f w q at) c = word_letter_good f w q at c _
step_good (FieldEnd f) c = field_end_good f c
step_good (FieldGap Version) c = gi (c == 101) _ _ (ok _ refl) (gi (c == 115) _ _ (ok _ refl) (field_end_good Version c))
step_good (FieldGap Encoding) c = gi (c == 115) _ _ (ok _ refl) (field_end_good Encoding c)
step_good (FieldGap Standalone) c = field_end_good Standalone c
step_good DeclarationMark c = gi (c == 62) _ _ (ok _ refl) (ok _ refl)
step_good (StartName n) c = name_good StartName _ (name_step n c) (λ _. refl) (behind_good c)
step_good Gap c = gi (is_name_start c) _ _ (ok _ refl) (behind_good c)
step_good (AttributeName n) c = name_good AttributeName _ (name_step n c) (λ _. refl) (gi (is_space c) _ _ (ok _ refl) (gi (c == 61) _ _ (ok _ refl) (ok _ refl)))
step_good BeforeEquals c = gi (is_space c) _ _ (ok _ refl) (gi (c == 61) _ _ (ok _ refl) (ok _ refl))
step_good AfterEquals c = gi (is_space c) _ _ (ok _ refl) (gi (c == 34 || c == 39) _ _ (ok _ refl) (ok _ refl))
step_good (Value q r) c = gi (c == q) _ _ (ok _ refl) (gi (c == 38) _ _ (ok _ refl) (gi (is_xml_char c && not (c == 60)) _ _ (ok _ refl) (ok _ refl)))
step_good (ValueReference q r) c = referring_in_good q _ (reference_good r c)
step_good AfterValue c = behind_good c
step_good Slash c = gi (c == 62) _ _ (ok _ refl) (ok _ refl)
step_good EndOpened c = gi (is_name_start c) _ _ (ok _ refl) (ok _ refl)
step_good (EndName n) c = name_good EndName _ (name_step n c) (λ _. refl) (gi (is_space c) _ _ (ok _ refl) (gi (c == 62) _ _ (ok _ refl) (ok _ refl)))
step_good EndGap c = gi (is_space c) _ _ (ok _ refl) (gi (c == 62) _ _ (ok _ refl) (ok _ refl))

pub step_good_at : (s t : Scan) (c : ℕ) → step s c ≡ Goes t → good t ≡ true
step_good_at s t c h = subst (λ u. good_turn u ≡ true) h (step_good s c).is

-- a number that an XML character's number begins with, and digits that make it one
record NumberEnd (radix n : ℕ) : Type 0 where
  digits : List ℕ
  are : list_all (λ d. is_digit d radix) digits ≡ true
  xml : is_xml_char (number radix n digits) ≡ true

decimal_thirty : (n : ℕ) → 1 ≤ n → n ≤ 0x10_FFFF → is_xml_char n ≡ false → is_xml_char (n * 10 + 0) ≡ false → is_xml_char ((n * 10 + 0) * 10 + 0) ≡ true
unfolding is_xml_char
decimal_thirty n a b h k = grind (arith, nat_tests)

hexadecimal_thirty : (n : ℕ) → 1 ≤ n → n ≤ 0x10_FFFF → is_xml_char n ≡ false → is_xml_char (n * 16 + 0) ≡ false → is_xml_char ((n * 16 + 0) * 16 + 0) ≡ true
unfolding is_xml_char
hexadecimal_thirty n a b h k = grind (arith, nat_tests)

thirty_three : (is_xml_char 33 ≡ true) × (is_xml_char 32 ≡ true)
unfolding is_xml_char
thirty_three = (refl, refl)

decimal_end : (n : ℕ) → nat_le n 0x10_FFFF ≡ true → NumberEnd 10 n
decimal_end n h = by (is_xml_char n) (is_xml_char (n * 10 + 0)) refl refl where
  by : (a b : Bool) → is_xml_char n ≡ a → is_xml_char (n * 10 + 0) ≡ b → NumberEnd 10 n
  by true b e f = record { digits = []; are = refl; xml = e }
  by false true e f = record { digits = 48 ∷ []; are = refl; xml = f }
  by false false e f = elim (cases_lt n 1) as (λ _. NumberEnd 10 n) [
    | inl k ↦ zero_end n (below n k)
    | inr k ↦ record { digits = 48 ∷ 48 ∷ []; are = refl; xml = decimal_thirty n k (leb-true n 0x10_FFFF h) e f }
  ] where
    below : (n : ℕ) → n < 1 → n ≡ 0
    below n k = omega arith

    zero_end : (n : ℕ) → n ≡ 0 → NumberEnd 10 n
    zero_end n e = subst (NumberEnd 10) (sym e) (record { digits = 51 ∷ 51 ∷ []; are = refl; xml = thirty_three.0 })

hexadecimal_end : (n : ℕ) → nat_le n 0x10_FFFF ≡ true → NumberEnd 16 n
hexadecimal_end n h = by (is_xml_char n) (is_xml_char (n * 16 + 0)) refl refl where
  by : (a b : Bool) → is_xml_char n ≡ a → is_xml_char (n * 16 + 0) ≡ b → NumberEnd 16 n
  by true b e f = record { digits = []; are = refl; xml = e }
  by false true e f = record { digits = 48 ∷ []; are = refl; xml = f }
  by false false e f = elim (cases_lt n 1) as (λ _. NumberEnd 16 n) [
    | inl k ↦ zero_end n (below n k)
    | inr k ↦ record { digits = 48 ∷ 48 ∷ []; are = refl; xml = hexadecimal_thirty n k (leb-true n 0x10_FFFF h) e f }
  ] where
    below : (n : ℕ) → n < 1 → n ≡ 0
    below n k = omega arith

    zero_end : (n : ℕ) → n ≡ 0 → NumberEnd 16 n
    zero_end n e = subst (NumberEnd 16) (sym e) (record { digits = 50 ∷ 49 ∷ []; are = refl; xml = thirty_three.0 })

hash_end : is_reference (Numbered 10 (51 ∷ 51 ∷ [])) ≡ true
hash_end = thirty_three.0

-- a reference can end, before any text
reference_alive : (r : ReferenceScan) (v : List ℕ) → good_reference r ≡ true → (w : List ℕ) × ReferenceRest r w v
reference_alive Begun v h = (codes "lt;" ++ v, record { reference = Named LessEntity; is = refl; text = refl })
reference_alive LetterA v h = (codes "mp;" ++ v, record { reference = Named AmpersandEntity; is = refl; text = refl })
reference_alive (NameOf word at) v h = (drop at (word_text word) ++ 59 ∷ v, refl)
reference_alive Hash v h = (codes "33;" ++ v, record { reference = Numbered 10 (51 ∷ 51 ∷ []); is = hash_end; text = refl })
reference_alive HashX v h = (codes "21;" ++ v, record { digit = 50; more = 49 ∷ []; text = refl; are = refl; xml = thirty_three.0 })
reference_alive (Decimal n) v h = let k = decimal_end n h in (k.digits ++ 59 ∷ v, record { digits = k.digits; text = refl; are = k.are; xml = k.xml })
reference_alive (Hexadecimal n) v h = let k = hexadecimal_end n h in (k.digits ++ 59 ∷ v, record { digits = k.digits; text = refl; are = k.are; xml = k.xml })

tail_alive : Tail (62 ∷ [])
tail_alive = record { attributes = []; gap = []; is_empty = false; are = refl; spaces = refl; text = refl }

value_alive : (q : ℕ) → InValue q (q ∷ 62 ∷ [])
value_alive q = record { pieces = []; after = 62 ∷ []; are = refl; text = refl; next = tail_alive }

quoted_alive : Spaced Quoted (34 ∷ 34 ∷ 62 ∷ [])
quoted_alive = spaced_none Quoted _ (record { quote = 34; more = 34 ∷ 62 ∷ []; is = refl; text = refl; next = value_alive 34 })

equalled_alive : Spaced Equalled (61 ∷ 34 ∷ 34 ∷ 62 ∷ [])
equalled_alive = spaced_none Equalled _ (record { more = 34 ∷ 34 ∷ 62 ∷ []; text = refl; next = quoted_alive })

name_alive : (K : List ℕ → Type 0) (n : NameScan) (v : List ℕ) → K v → (w : List ℕ) × NameRest K n w
name_alive K First v k = (v, record { chars = []; after = v; text = refl; are = refl; next = inl k })
name_alive K Colon v k = (120 ∷ v, record { first = 120; more = v; text = refl; starts = x_starts.0; next = record { chars = []; after = v; text = refl; are = refl; next = k } })
name_alive K Second v k = (v, record { chars = []; after = v; text = refl; are = refl; next = k })

fields_alive : (f : Field) → FieldsRest f (63 ∷ 62 ∷ [])
fields_alive f = record { fields = []; gap = []; are = none f; spaces = refl; text = refl } where
  none : (f : Field) → follows f [] ≡ true
  none Version = refl
  none Encoding = refl
  none Standalone = refl

lower_utf8 : map to_ascii_lowercase (word_text Utf8) ≡ word_text Utf8
lower_utf8 = refl

spelled_word : (word : Word) (at : ℕ) → spells word (drop at (word_text word)) (drop at (word_text word))
spelled_word Utf8 at = sym (drop-map to_ascii_lowercase at (word_text Utf8)) ∙ ap (drop at) lower_utf8
spelled_word _ at = refl

word_alive : (f : Field) (word : Word) (q at : ℕ) → (w : List ℕ) × WordRest f word q at w
word_alive f word q at = (drop at (word_text word) ++ q ∷ 63 ∷ 62 ∷ [], record { chars = drop at (word_text word); after = 63 ∷ 62 ∷ []; is = spelled_word word at; text = refl; next = fields_alive f })

field_value_alive : (f : Field) (q : ℕ) → (w : List ℕ) × FieldValueRest f q w
field_value_alive Version q = let k = word_alive Version One q 0 in (k.0, record { word = One; is = refl; rest = k.1 })
field_value_alive Encoding q = let k = word_alive Encoding Utf8 q 0 in (k.0, record { word = Utf8; is = refl; rest = k.1 })
field_value_alive Standalone q = let k = word_alive Standalone Yes q 0 in (k.0, record { word = Yes; is = refl; rest = k.1 })

field_quoted_alive : (f : Field) → (w : List ℕ) × Spaced (FieldQuoted f) w
field_quoted_alive f = let k = field_value_alive f 34 in (34 ∷ k.0, spaced_none (FieldQuoted f) (34 ∷ k.0) (record { quote = 34; more = k.0; is = refl; text = refl; next = k.1 }))

field_equalled_alive : (f : Field) → (w : List ℕ) × Spaced (FieldEqualled f) w
field_equalled_alive f = let k = field_quoted_alive f in (61 ∷ k.0, spaced_none (FieldEqualled f) (61 ∷ k.0) (record { more = k.0; text = refl; next = k.1 }))

field_named_alive : (f : Field) (at : ℕ) → (w : List ℕ) × FieldNamed f at w
field_named_alive f at = let k = field_equalled_alive f in (drop at (word_text (name_word f)) ++ k.0, record { after = k.0; text = refl; next = k.1 })

target_alive : (bad : List ℕ → Bool) → bad [] ≡ false → TargetRest bad (63 ∷ 62 ∷ [])
target_alive bad h = record { name = []; chars = []; are = refl; good = h; is = refl; blank = refl; text = refl }

-- each such scan can end
pub alive : (s : Scan) → good s ≡ true → (w : List ℕ) × Rest Completed s w
alive (Begin p) h = (10 ∷ [], line_completed p Lf (10 ∷ []) (λ _. refl) refl)
alive AfterReturn h = (10 ∷ [], refl)
alive Bracket h = (93 ∷ 62 ∷ [], refl)
alive Brackets h = (62 ∷ [], refl)
alive (InReference r) h = reference_alive r [] h
alive (Opened first) h = (codes "!DOCTYPE", record { token = TypeDeclaration; is = refl; text = refl })
alive Bang h = (codes "DOCTYPE", record { token = TypeDeclaration; is = refl; text = refl })
alive BangHyphen h = (codes "--->", record { token = Comment []; is = refl; text = refl })
alive CommentText h = (codes "-->", record { chars = []; is = refl; text = refl })
alive CommentHyphen h = (codes "->", record { chars = []; is = refl; text = refl })
alive CommentEnd h = (62 ∷ [], refl)
alive (Fixed word at) h = (drop at (word_text word), refl)
alive (Question first) h = (codes "x?>", record { token = Instruction (120 ∷ []) []; is = instruction_is (120 ∷ []) [] (and_from _ _ x_starts.0 refl) refl refl refl; text = refl })
alive (TargetX first) h = (codes "?>", inl (target_alive (begins_so 109 (begins_so 108 is_none_left)) refl))
alive (TargetXm first) h = (codes "?>", inl (target_alive (begins_so 108 is_none_left) refl))
alive (TargetXml first) h = (codes "m?>", inl (record { name = 109 ∷ []; chars = []; are = and_from _ _ word_chars.0 refl; good = refl; is = refl; blank = refl; text = refl }))
alive Target h = (codes "?>", target_alive (λ _. false) refl)
alive TargetMark h = (62 ∷ [], refl)
alive InstructionText h = (codes "?>", record { chars = []; is = refl; text = refl })
alive InstructionMark h = (62 ∷ [], record { chars = []; is = refl; text = refl })
alive DeclarationGap h = let k = field_named_alive Version 0 in (k.0, spaced_none (FieldNamed Version 0) k.0 k.1)
alive (FieldName f at) h = field_named_alive f at
alive (FieldBefore f) h = field_equalled_alive f
alive (FieldAfter f) h = field_quoted_alive f
alive (FieldValue f q) h = field_value_alive f q
alive (FieldWord f word q at) h = word_alive f word q at
alive (FieldEnd f) h = (63 ∷ 62 ∷ [], fields_alive f)
alive (FieldGap f) h = (63 ∷ 62 ∷ [], spaced_none (FieldGapThen f) _ (inl refl))
alive DeclarationMark h = (62 ∷ [], refl)
alive (StartName n) h = name_alive Tail n (62 ∷ []) tail_alive
alive Gap h = (62 ∷ [], spaced_none GapThen _ (inl (false, refl)))
alive (AttributeName n) h = name_alive (Spaced Equalled) n _ equalled_alive
alive BeforeEquals h = (61 ∷ 34 ∷ 34 ∷ 62 ∷ [], equalled_alive)
alive AfterEquals h = (34 ∷ 34 ∷ 62 ∷ [], quoted_alive)
alive (Value q r) h = (q ∷ 62 ∷ [], value_alive q)
alive (ValueReference q r) h = let k = reference_alive r (q ∷ 62 ∷ []) h in (k.0, (q ∷ 62 ∷ [], k.1, value_alive q))
alive AfterValue h = (62 ∷ [], tail_alive)
alive Slash h = (62 ∷ [], refl)
alive EndOpened h = (120 ∷ 62 ∷ [], record { name = Plain (120 ∷ []); after = 62 ∷ []; is = and_from _ _ x_starts.0 refl; text = refl; next = spaced_none EndClose _ refl })
alive (EndName n) h = name_alive (Spaced EndClose) n (62 ∷ []) (spaced_none EndClose _ refl)
alive EndGap h = (62 ∷ [], spaced_none EndClose _ refl)
