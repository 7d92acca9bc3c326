-- Where the scan is in a reference, or in a tag, as the characters so far tell it.
use Rattle.std.proofs.Common.{◌≡◌, ℕ, Bool, true, false, not, ◌==◌, ◌||◌, ◌&&◌, ◌+◌, List, [], ◌∷◌, drop, suc, zero, Option, Some, None, if◌then◌else◌, refl, sym, ◌∙◌, ap, subst, arith}
use Rattle.std.specs.List.{list_all}
use Rattle.std.proofs.lemmas.Bool.{and_parts, both_ways, not-true, not_from_false, eqb-true}
use Rattle.std.proofs.lemmas.Bool.Decides.{nat_tests}
use Rattle.markup.specs.Chars.{is_xml_char, is_name_start, is_name_char, is_space}
use Rattle.markup.specs.Faults.{ends_in_reference}
use Rattle.markup.specs.inner.Words.{word_text, letter_of}
use Rattle.markup.specs.inner.ReferenceScans.{reference_step, digit_step, first_digit, more_digits, digits_step, numbered_char, gives, letter_step}
use Rattle.markup.specs.inner.Drafts.{note_character}
use Rattle.markup.specs.inner.Scans.{step, name_step, name_turn, behind_attribute_step, before_equals_step, after_equals_step, end_gap_step, value_step, referring_in}
use Rattle.markup.specs.inner.ScanRuns.{At, turn_run, run}
use Rattle.markup.specs.declared.draft.Draft.{Draft}
use Rattle.markup.specs.declared.word.Word.{Word}
use Rattle.markup.specs.declared.word.Word.TheVariants.{Cdata as CdataWord, Doctype as DoctypeWord, Ampersand, Less, Greater, Apostrophe, Quote, Version as VersionWord, Encoding as EncodingWord, Standalone as StandaloneWord, One, Utf8, Yes, No}
use Rattle.markup.specs.declared.reference.ReferenceScan.{ReferenceScan}
use Rattle.markup.specs.declared.reference.ReferenceScan.TheVariants.{Begun, LetterA, Name as NameOf, Hash, HashX, Decimal, Hexadecimal}
use Rattle.markup.specs.declared.reference.ReferenceTurn.{ReferenceTurn}
use Rattle.markup.specs.declared.reference.ReferenceTurn.TheVariants.{Continues, Gives, Breaks}
use Rattle.markup.specs.declared.scan.NameScan.{NameScan}
use Rattle.markup.specs.declared.scan.NameScan.TheVariants.{First, Colon, Second}
use Rattle.markup.specs.declared.scan.NameTurn.{NameTurn}
use Rattle.markup.specs.declared.scan.NameTurn.TheVariants.{Remains, Ends, Fails}
use Rattle.markup.specs.declared.scan.Scan.{Scan}
use Rattle.markup.specs.declared.scan.Scan.TheVariants.{Reference as InReference, StartName, Gap, AttributeName, BeforeEquals, AfterEquals, Value, ValueReference, AfterValue, Slash, EndOpened, EndName, EndGap}
use Rattle.markup.specs.declared.scan.Turn.{Turn}
use Rattle.markup.specs.declared.scan.Turn.TheVariants.{Goes, Whole, Stuck}
use Rattle.markup.proofs.CharLemmas.{digit_no_semicolon}
use Rattle.markup.proofs.NameSound.{drop_letter, digit_part}

-- the scan is in a reference
abbrev pub in_reference : Scan → Bool
in_reference (InReference r) = true
in_reference (ValueReference q r) = true
in_reference _ = false

-- the scan is in a start tag or an end tag
abbrev pub in_tag : Scan → Bool
in_tag (StartName n) = true
in_tag Gap = true
in_tag (AttributeName n) = true
in_tag BeforeEquals = true
in_tag AfterEquals = true
in_tag (Value q r) = not (q == 38)
in_tag (ValueReference q r) = not (q == 38)
in_tag AfterValue = true
in_tag Slash = true
in_tag EndOpened = true
in_tag (EndName n) = true
in_tag EndGap = true
in_tag _ = false

-- whether a reference is open behind one more character
abbrev behind_char : Bool → ℕ → Bool
behind_char b c = if c == 38 then true else (if c == 59 then false else b)

ends_one : (b : Bool) (c : ℕ) (cs : List ℕ) → ends_in_reference b (c ∷ cs) ≡ ends_in_reference (behind_char b c) cs
ends_one b c cs = by (c == 38) (c == 59) where
  by : (x y : Bool) → (if x then ends_in_reference true cs else (if y then ends_in_reference false cs else ends_in_reference b cs)) ≡ ends_in_reference (if x then true else (if y then false else b)) cs
  by true y = refl
  by false true = refl
  by false false = refl

-- a character that neither begins nor ends a reference
pub record IsQuiet (c : ℕ) : Type 0 where
  pub no_ampersand : (c == 38) ≡ false
  pub no_semicolon : (c == 59) ≡ false

quiet_behind : (b : Bool) (c : ℕ) → IsQuiet c → behind_char b c ≡ b
quiet_behind b c k = rw (k.no_ampersand, k.no_semicolon) refl

name_quiet : (c : ℕ) → is_name_char c ≡ true → IsQuiet c
unfolding is_name_char is_name_start
name_quiet c h = record { no_ampersand = grind (arith, nat_tests); no_semicolon = grind (arith, nat_tests) }

pub start_quiet : (c : ℕ) → is_name_start c ≡ true → IsQuiet c
unfolding is_name_start
start_quiet c h = record { no_ampersand = grind (arith, nat_tests); no_semicolon = grind (arith, nat_tests) }

space_quiet : (c : ℕ) → is_space c ≡ true → IsQuiet c
unfolding is_space
space_quiet c h = record { no_ampersand = grind (arith, nat_tests); no_semicolon = grind (arith, nat_tests) }

quote_quiet : (c : ℕ) → (c == 34 || c == 39) ≡ true → IsQuiet c
quote_quiet c h = record { no_ampersand = grind (arith, nat_tests); no_semicolon = grind (arith, nat_tests) }

known_quiet : (k c : ℕ) → (c == k) ≡ true → (k == 38) ≡ false → (k == 59) ≡ false → IsQuiet c
known_quiet k c h a b = subst IsQuiet (sym (eqb-true c k h)) (record { no_ampersand = a; no_semicolon = b })

-- what one more character makes of a tag
abbrev TagTurn : Bool → ℕ → Turn → Type 0
TagTurn b c (Goes u) = (in_tag u ≡ true) × (behind_char b c ≡ in_reference u)
TagTurn b c _ = Unit {0}

pub if_intro : (P : Turn → Type 0) (b : Bool) (x y : Turn) → (b ≡ true → P x) → (b ≡ false → P y) → P (if b then x else y)
if_intro P true x y f g = f refl
if_intro P false x y f g = g refl

-- a turn that leaves no reference open
quiet_goes : (u : Scan) (c : ℕ) → IsQuiet c → in_tag u ≡ true → in_reference u ≡ false → TagTurn false c (Goes u)
quiet_goes u c q h k = (h, quiet_behind false c q ∙ sym k)

behind_turn : (c : ℕ) → TagTurn false c (behind_attribute_step c)
behind_turn c = if_intro (TagTurn false c) (is_space c) _ _ (λ e. quiet_goes Gap c (space_quiet c e) refl refl)
    (λ _. if_intro (TagTurn false c) (c == 47) _ _ (λ e. quiet_goes Slash c (known_quiet 47 c e refl refl) refl refl)
    (λ _. if_intro (TagTurn false c) (c == 62) _ Stuck (λ _. tt) (λ _. tt)))

before_equals_turn : (c : ℕ) → TagTurn false c (before_equals_step c)
before_equals_turn c = if_intro (TagTurn false c) (is_space c) _ _ (λ e. quiet_goes BeforeEquals c (space_quiet c e) refl refl)
    (λ _. if_intro (TagTurn false c) (c == 61) _ Stuck (λ e. quiet_goes AfterEquals c (known_quiet 61 c e refl refl) refl refl) (λ _. tt))

after_equals_turn : (c : ℕ) → TagTurn false c (after_equals_step c)
after_equals_turn c = if_intro (TagTurn false c) (is_space c) _ _ (λ e. quiet_goes AfterEquals c (space_quiet c e) refl refl)
    (λ _. if_intro (TagTurn false c) (c == 34 || c == 39) _ Stuck (λ e. quiet_goes (Value c false) c (quote_quiet c e) (not_from_false _ (quote_quiet c e).no_ampersand) refl) (λ _. tt))

end_gap_turn : (c : ℕ) → TagTurn false c (end_gap_step c)
end_gap_turn c = if_intro (TagTurn false c) (is_space c) _ _ (λ e. quiet_goes EndGap c (space_quiet c e) refl refl)
    (λ _. if_intro (TagTurn false c) (c == 62) _ Stuck (λ _. tt) (λ _. tt))

-- names
abbrev NameQuiet : ℕ → NameTurn → Type 0
NameQuiet c (Remains m) = IsQuiet c
NameQuiet c _ = Unit {0}

name_turn_quiet : (n : NameScan) (c : ℕ) → NameQuiet c (name_step n c)
name_turn_quiet First c = by (is_name_char c) (c == 58) refl refl where
  by : (a b : Bool) → is_name_char c ≡ a → (c == 58) ≡ b → NameQuiet c (if a then Remains First else (if b then Remains Colon else Ends))
  by true b e f = name_quiet c e
  by false true e f = known_quiet 58 c f refl refl
  by false false e f = tt
name_turn_quiet Colon c = by (is_name_start c) refl where
  by : (a : Bool) → is_name_start c ≡ a → NameQuiet c (if a then Remains Second else Fails)
  by true e = start_quiet c e
  by false e = tt
name_turn_quiet Second c = by (is_name_char c) refl where
  by : (a : Bool) → is_name_char c ≡ a → NameQuiet c (if a then Remains Second else Ends)
  by true e = name_quiet c e
  by false e = tt

in_name_turn : (at : NameScan → Scan) (behind : Turn) (c : ℕ) (t : NameTurn) → ((n : NameScan) → in_tag (at n) ≡ true) → ((n : NameScan) → in_reference (at n) ≡ false) → NameQuiet c t → TagTurn false c behind → TagTurn false c (name_turn at behind t)
in_name_turn at behind c (Remains n) h k q b = quiet_goes (at n) c q (h n) (k n)
in_name_turn at behind c Ends h k q b = b
in_name_turn at behind c Fails h k q b = tt

-- references
abbrev pub ReferenceFact : ℕ → ReferenceTurn → Type 0
ReferenceFact c (Continues r) = (c == 59) ≡ false
ReferenceFact c (Gives g) = (c == 59) ≡ true
ReferenceFact c Breaks = Unit {0}

fact_if : (c : ℕ) (b : Bool) (x y : ReferenceTurn) → (b ≡ true → ReferenceFact c x) → (b ≡ false → ReferenceFact c y) → ReferenceFact c (if b then x else y)
fact_if c true x y f g = f refl
fact_if c false x y f g = g refl

abbrev no_semi : ℕ → Bool
no_semi c = not (c == 59)

word_no_semicolon : (w : Word) → list_all no_semi (word_text w) ≡ true
word_no_semicolon CdataWord = refl
word_no_semicolon DoctypeWord = refl
word_no_semicolon Ampersand = refl
word_no_semicolon Less = refl
word_no_semicolon Greater = refl
word_no_semicolon Apostrophe = refl
word_no_semicolon Quote = refl
word_no_semicolon VersionWord = refl
word_no_semicolon EncodingWord = refl
word_no_semicolon StandaloneWord = refl
word_no_semicolon One = refl
word_no_semicolon Utf8 = refl
word_no_semicolon Yes = refl
word_no_semicolon No = refl

all_drop : (p : ℕ → Bool) (n : ℕ) (xs : List ℕ) → list_all p xs ≡ true → list_all p (drop n xs) ≡ true
all_drop p zero xs h = h
all_drop p (suc n) [] h = refl
all_drop p (suc n) (x ∷ xs) h = all_drop p n xs (and_parts _ _ h).1

letter_fact : (w : Word) (at l : ℕ) → letter_of w at ≡ Some l → (l == 59) ≡ false
letter_fact w at l h = not-true _ (and_parts (no_semi l) (list_all no_semi (drop (at + 1) (word_text w))) (subst (λ v. list_all no_semi v ≡ true) (drop_letter (word_text w) at l h) (all_drop no_semi at (word_text w) (word_no_semicolon w)))).0

letters_fact : (w : Word) (at c : ℕ) (o : Option ℕ) → letter_of w at ≡ o → ReferenceFact c (letter_step w at c o)
letters_fact w at c None h = fact_if c (c == 59) _ Breaks (λ e. e) (λ _. tt)
letters_fact w at c (Some l) h = fact_if c (c == l) _ Breaks (λ e. subst (λ (x : ℕ). (x == 59) ≡ false) (sym (eqb-true c l e)) (letter_fact w at l h)) (λ _. tt)

digit_fact : (radix n c m : ℕ) → (radix == 10 || radix == 16) ≡ true → digit_step radix n c ≡ Some m → (c == 59) ≡ false
digit_fact radix n c m r h = digit_no_semicolon radix c r (digit_part radix n c m h).0

digits_fact : (n c : ℕ) → ReferenceFact c (digits_step n c)
digits_fact n c = fact_if c (c == 59) _ Breaks (λ e. given (numbered_char n) e) (λ _. tt) where
  given : (o : Option ℕ) → (c == 59) ≡ true → ReferenceFact c (gives o)
  given None e = tt
  given (Some g) e = e

known_fact : (k c : ℕ) → (c == k) ≡ true → (k == 59) ≡ false → (c == 59) ≡ false
known_fact k c h a = subst (λ (x : ℕ). (x == 59) ≡ false) (sym (eqb-true c k h)) a

pub reference_fact : (r : ReferenceScan) (c : ℕ) → ReferenceFact c (reference_step r c)
reference_fact Begun c = fact_if c (c == 97) _ _ (λ e. known_fact 97 c e refl) (λ _. fact_if c (c == 108) _ _ (λ e. known_fact 108 c e refl) (λ _. fact_if c (c == 103) _ _ (λ e. known_fact 103 c e refl) (λ _. fact_if c (c == 113) _ _ (λ e. known_fact 113 c e refl) (λ _. fact_if c (c == 35) _ Breaks (λ e. known_fact 35 c e refl) (λ _. tt)))))
reference_fact LetterA c = fact_if c (c == 109) _ _ (λ e. known_fact 109 c e refl) (λ _. fact_if c (c == 112) _ Breaks (λ e. known_fact 112 c e refl) (λ _. tt))
reference_fact (NameOf w at) c = letters_fact w at c (letter_of w at) refl
reference_fact Hash c = fact_if c (c == 120) _ _ (λ e. known_fact 120 c e refl) (λ _. first (digit_step 10 0 c) refl) where
  first : (o : Option ℕ) → digit_step 10 0 c ≡ o → ReferenceFact c (first_digit Decimal o)
  first None h = tt
  first (Some m) h = digit_fact 10 0 c m refl h
reference_fact HashX c = first (digit_step 16 0 c) refl where
  first : (o : Option ℕ) → digit_step 16 0 c ≡ o → ReferenceFact c (first_digit Hexadecimal o)
  first None h = tt
  first (Some m) h = digit_fact 16 0 c m refl h
reference_fact (Decimal n) c = more (digit_step 10 n c) refl where
  more : (o : Option ℕ) → digit_step 10 n c ≡ o → ReferenceFact c (more_digits Decimal n c o)
  more None h = digits_fact n c
  more (Some m) h = digit_fact 10 n c m refl h
reference_fact (Hexadecimal n) c = more (digit_step 16 n c) refl where
  more : (o : Option ℕ) → digit_step 16 n c ≡ o → ReferenceFact c (more_digits Hexadecimal n c o)
  more None h = digits_fact n c
  more (Some m) h = digit_fact 16 n c m refl h

value_reference_turn : (q c : ℕ) (t : ReferenceTurn) → not (q == 38) ≡ true → ReferenceFact c t → TagTurn true c (referring_in q t)
value_reference_turn q c (Continues r) h k = (h, stays (c == 38) (c == 59) k) where
  stays : (a b : Bool) → b ≡ false → (if a then true else (if b then false else true)) ≡ true
  stays true b e = refl
  stays false b e = rw e refl
value_reference_turn q c (Gives g) h k = (h, subst (λ (x : ℕ). behind_char true x ≡ false) (sym (eqb-true c 59 k)) refl)
value_reference_turn q c Breaks h k = tt

value_turn : (q c : ℕ) → not (q == 38) ≡ true → TagTurn false c (value_step q c)
value_turn q c h = if_intro (TagTurn false c) (c == q) _ _ (λ e. (refl, closes (subst (λ (x : ℕ). (x == 38) ≡ false) (sym (eqb-true c q e)) (not-true _ h))))
    (λ _. if_intro (TagTurn false c) (c == 38) _ _ (λ e. (h, opens e))
    (λ n. if_intro (TagTurn false c) (is_xml_char c && not (c == 60)) _ Stuck (λ _. (h, closes n)) (λ _. tt))) where
      closes : (c == 38) ≡ false → behind_char false c ≡ false
      closes n = by (c == 59) n where
        by : (b : Bool) → (c == 38) ≡ false → (if c == 38 then true else (if b then false else false)) ≡ false
        by true n = rw n refl
        by false n = rw n refl

      opens : (c == 38) ≡ true → behind_char false c ≡ true
      opens e = rw e refl

-- each scan in a tag
tag_turn : (s : Scan) (c : ℕ) → in_tag s ≡ true → TagTurn (in_reference s) c (step s c)
tag_turn (StartName n) c h = in_name_turn StartName (behind_attribute_step c) c (name_step n c) (λ _. refl) (λ _. refl) (name_turn_quiet n c) (behind_turn c)
tag_turn Gap c h = if_intro (TagTurn false c) (is_name_start c) _ _ (λ e. quiet_goes (AttributeName First) c (start_quiet c e) refl refl) (λ _. behind_turn c)
tag_turn (AttributeName n) c h = in_name_turn AttributeName (before_equals_step c) c (name_step n c) (λ _. refl) (λ _. refl) (name_turn_quiet n c) (before_equals_turn c)
tag_turn BeforeEquals c h = before_equals_turn c
tag_turn AfterEquals c h = after_equals_turn c
tag_turn (Value q r) c h = value_turn q c h
tag_turn (ValueReference q r) c h = value_reference_turn q c (reference_step r c) h (reference_fact r c)
tag_turn AfterValue c h = behind_turn c
tag_turn Slash c h = if_intro (TagTurn false c) (c == 62) _ Stuck (λ _. tt) (λ _. tt)
tag_turn EndOpened c h = if_intro (TagTurn false c) (is_name_start c) _ Stuck (λ e. quiet_goes (EndName First) c (start_quiet c e) refl refl) (λ _. tt)
tag_turn (EndName n) c h = in_name_turn EndName (end_gap_step c) c (name_step n c) (λ _. refl) (λ _. refl) (name_turn_quiet n c) (end_gap_turn c)
tag_turn EndGap c h = end_gap_turn c
tag_turn _ c h = absurd (both_ways false refl h)

-- a run in a tag stays in it, and is in a reference where the characters end within one
pub tag_run : (s t : Scan) (d e : Draft) (cs : List ℕ) → in_tag s ≡ true → run s d cs ≡ At t e → (in_tag t ≡ true) × (ends_in_reference (in_reference s) cs ≡ in_reference t)
tag_run s t d e [] k h = (subst (λ u. in_tag u ≡ true) (scan_same s t d e h) k, ap in_reference (scan_same s t d e h)) where
  scan_same : (s t : Scan) (d e : Draft) → At s d ≡ At t e → s ≡ t
  scan_same s t d e h = cc
tag_run s t d e (c ∷ cs) k h = by (λ u k h. tag_run u t (note_character s u c d) e cs k h) (step s c) (tag_turn s c k) h where
  by : ((u : Scan) → in_tag u ≡ true → run u (note_character s u c d) cs ≡ At t e → (in_tag t ≡ true) × (ends_in_reference (in_reference u) cs ≡ in_reference t)) → (a : Turn) → TagTurn (in_reference s) c a → turn_run (λ u. run u (note_character s u c d) cs) d cs a ≡ At t e → (in_tag t ≡ true) × (ends_in_reference (in_reference s) (c ∷ cs) ≡ in_reference t)
  by f (Goes u) g h = let r = f u g.0 h in (r.0, ends_one (in_reference s) c cs ∙ (ap (λ b. ends_in_reference b cs) g.1 ∙ r.1))
  by f (Whole a) g h = absurd (cc)
  by f Stuck g h = absurd (cc)
