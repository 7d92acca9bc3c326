-- Where the scan is in a reference, or in a tag, from a token's first character on.
use Rattle.std.proofs.Common.{◌≡◌, ℕ, Bool, true, false, ◌==◌, ◌||◌, ◌&&◌, ◌+◌, List, [], ◌∷◌, Option, Some, None, is_none, if◌then◌else◌, refl, sym, ◌∙◌, ap, subst}
use Rattle.std.proofs.lemmas.Bool.{both_ways, eqb-true, eqb-false}
use Rattle.markup.specs.Chars.{is_xml_char, is_name_start, is_name_char, is_space}
use Rattle.markup.specs.Faults.{ends_in_reference, is_in_reference, IsTagBegun}
use Rattle.markup.specs.inner.Words.{letter_of}
use Rattle.markup.specs.inner.ReferenceScans.{reference_step}
use Rattle.markup.specs.inner.Drafts.{note_character}
use Rattle.markup.specs.inner.Scans.{step, fixed_ended, fits_letter, fixed_letter, field_letter, field_word_letter, field_end_step, text_step, line_step, opened_step, referring}
use Rattle.markup.specs.inner.Tokenizers.{is_tag}
use Rattle.markup.specs.inner.ScanRuns.{At, turn_run, run}
use Rattle.markup.specs.declared.draft.Draft.{Draft}
use Rattle.markup.specs.declared.word.Word.{Word}
use Rattle.markup.specs.declared.reference.ReferenceScan.{ReferenceScan}
use Rattle.markup.specs.declared.reference.ReferenceScan.TheVariants.{Begun}
use Rattle.markup.specs.declared.reference.ReferenceTurn.{ReferenceTurn}
use Rattle.markup.specs.declared.reference.ReferenceTurn.TheVariants.{Continues, Gives, Breaks}
use Rattle.markup.specs.declared.scan.NameScan.TheVariants.{First, Colon, Second}
use Rattle.markup.specs.declared.scan.Field.{Field}
use Rattle.markup.specs.declared.scan.Field.TheVariants.{Version, Encoding, Standalone}
use Rattle.markup.specs.declared.scan.Position.{Position}
use Rattle.markup.specs.declared.scan.Position.TheVariants.{Start as AtStart, AfterMark, Text, Cdata}
use Rattle.markup.specs.declared.scan.Scan.{Scan}
use Rattle.markup.specs.declared.scan.Scan.TheVariants.{Begin, AfterReturn, Bracket, Brackets, Reference as InReference, Opened, Bang, BangHyphen, CommentText, CommentHyphen, CommentEnd, Fixed, Question, TargetX, TargetXm, TargetXml, Target, TargetMark, InstructionText, InstructionMark, DeclarationGap, FieldName, FieldBefore, FieldAfter, FieldValue, FieldWord, FieldEnd, FieldGap, DeclarationMark, StartName, EndOpened}
use Rattle.markup.specs.declared.scan.Turn.{Turn}
use Rattle.markup.specs.declared.scan.Turn.TheVariants.{Goes, Whole, Stuck}
use Rattle.markup.proofs.ReferencePlaces.{in_reference, in_tag, tag_run, reference_fact, ReferenceFact, if_intro, start_quiet, IsQuiet}

-- the scans of comments, instructions, words and the declaration, and of what may end with what follows
abbrev pub is_other : Scan → Bool
is_other AfterReturn = true
is_other Bracket = true
is_other Brackets = true
is_other Bang = true
is_other BangHyphen = true
is_other CommentText = true
is_other CommentHyphen = true
is_other CommentEnd = true
is_other (Fixed w at) = true
is_other (Question f) = true
is_other (TargetX f) = true
is_other (TargetXm f) = true
is_other (TargetXml f) = true
is_other Target = true
is_other TargetMark = true
is_other InstructionText = true
is_other InstructionMark = true
is_other DeclarationGap = true
is_other (FieldName f at) = true
is_other (FieldBefore f) = true
is_other (FieldAfter f) = true
is_other (FieldValue f q) = true
is_other (FieldWord f w q at) = true
is_other (FieldEnd f) = true
is_other (FieldGap f) = true
is_other DeclarationMark = true
is_other _ = false

abbrev pub other_goes : Turn → Bool
other_goes (Goes s) = is_other s
other_goes _ = true

pub record OtherTurn (t : Turn) : Type 0 where
  pub is : other_goes t ≡ true

oo : (t : Turn) → other_goes t ≡ true → OtherTurn t
oo t h = record { is = h }

oi : (b : Bool) (x y : Turn) → OtherTurn x → OtherTurn y → OtherTurn (if b then x else y)
oi true x y h k = h
oi false x y h k = k

fixed_other : (w : Word) (at c : ℕ) (o : Option ℕ) → OtherTurn (fixed_letter w at c o)
fixed_other w at c None = oo _ refl
fixed_other w at c (Some l) = oi (c == l) _ Stuck (oi (is_none (letter_of w (at + 1))) (Whole (fixed_ended w)) (Goes (Fixed w (at + 1))) (oo _ refl) (oo _ refl)) (oo _ refl)

field_letter_other : (f : Field) (at c : ℕ) (o : Option ℕ) → OtherTurn (field_letter f at c o)
field_letter_other f at c None = oi (is_space c) _ _ (oo _ refl) (oi (c == 61) _ _ (oo _ refl) (oo _ refl))
field_letter_other f at c (Some l) = oi (c == l) _ _ (oo _ refl) (oo _ refl)

word_letter_other : (f : Field) (w : Word) (q at c : ℕ) (o : Option ℕ) → OtherTurn (field_word_letter f w q at c o)
word_letter_other f w q at c None = oi (c == q) _ _ (oo _ refl) (oo _ refl)
word_letter_other f w q at c (Some l) = oi (fits_letter w l c) (Goes (FieldWord f w q (at + 1))) Stuck (oo _ refl) (oo _ refl)

field_end_other : (f : Field) (c : ℕ) → OtherTurn (field_end_step f c)
field_end_other f c = oi (is_space c) _ _ (oo _ refl) (oi (c == 63) _ _ (oo _ refl) (oo _ refl))

target_other : (c : ℕ) → OtherTurn (step Target c)
target_other c = oi (is_name_char c) _ _ (oo _ refl) (oi (is_space c) _ _ (oo _ refl) (oi (c == 63) _ _ (oo _ refl) (oo _ refl)))

instruction_other : (c : ℕ) → OtherTurn (step InstructionText c)
instruction_other c = oi (c == 63) _ _ (oo _ refl) (oi (is_xml_char c) _ _ (oo _ refl) (oo _ refl))

pub other_turn : (s : Scan) (c : ℕ) → is_other s ≡ true → OtherTurn (step s c)
other_turn AfterReturn c h = oi (c == 10) _ _ (oo _ refl) (oo _ refl)
other_turn Bracket c h = oi (c == 93) _ _ (oo _ refl) (oo _ refl)
other_turn Brackets c h = oi (c == 62) _ _ (oo _ refl) (oo _ refl)
other_turn Bang c h = oi (c == 45) _ _ (oo _ refl) (oi (c == 91) _ _ (oo _ refl) (oi (c == 68) _ _ (oo _ refl) (oo _ refl)))
other_turn BangHyphen c h = oi (c == 45) _ _ (oo _ refl) (oo _ refl)
other_turn CommentText c h = oi (c == 45) _ _ (oo _ refl) (oi (is_xml_char c) _ _ (oo _ refl) (oo _ refl))
other_turn CommentHyphen c h = oi (c == 45) _ _ (oo _ refl) (oi (is_xml_char c) _ _ (oo _ refl) (oo _ refl))
other_turn CommentEnd c h = oi (c == 62) _ _ (oo _ refl) (oo _ refl)
other_turn (Fixed w at) c h = fixed_other w at c _
other_turn (Question first) c h = oi (c == 120) _ _ (oo _ refl) (oi (c == 88) _ _ (oo _ refl) (oi (is_name_start c) _ _ (oo _ refl) (oo _ refl)))
other_turn (TargetX first) c h = oi (c == 109) _ _ (oo _ refl) (oi (c == 77) _ _ (oo _ refl) (target_other c))
other_turn (TargetXm first) c h = oi (c == 108) _ _ (oo _ refl) (oi (c == 76) _ _ (oo _ refl) (target_other c))
other_turn (TargetXml first) c h = oi (is_name_char c) _ _ (oo _ refl) (oi (first && is_space c) _ _ (oo _ refl) (oo _ refl))
other_turn Target c h = target_other c
other_turn TargetMark c h = oi (c == 62) _ _ (oo _ refl) (oo _ refl)
other_turn InstructionText c h = instruction_other c
other_turn InstructionMark c h = oi (c == 62) _ _ (oo _ refl) (instruction_other c)
other_turn DeclarationGap c h = oi (is_space c) _ _ (oo _ refl) (oi (c == 118) _ _ (oo _ refl) (oo _ refl))
other_turn (FieldName f at) c h = field_letter_other f at c _
other_turn (FieldBefore f) c h = oi (is_space c) _ _ (oo _ refl) (oi (c == 61) _ _ (oo _ refl) (oo _ refl))
other_turn (FieldAfter f) c h = oi (is_space c) _ _ (oo _ refl) (oi (c == 34 || c == 39) _ _ (oo _ refl) (oo _ refl))
other_turn (FieldValue Version q) c h = oi (c == 49) _ _ (oo _ refl) (oo _ refl)
other_turn (FieldValue Encoding q) c h = oi (c == 117 || c == 85) _ _ (oo _ refl) (oo _ refl)
other_turn (FieldValue Standalone q) c h = oi (c == 121) _ _ (oo _ refl) (oi (c == 110) _ _ (oo _ refl) (oo _ refl))
other_turn (FieldWord f w q at) c h = word_letter_other f w q at c _
other_turn (FieldEnd f) c h = field_end_other f c
other_turn (FieldGap Version) c h = oi (c == 101) _ _ (oo _ refl) (oi (c == 115) _ _ (oo _ refl) (field_end_other Version c))
other_turn (FieldGap Encoding) c h = oi (c == 115) _ _ (oo _ refl) (field_end_other Encoding c)
other_turn (FieldGap Standalone) c h = field_end_other Standalone c
other_turn DeclarationMark c h = oi (c == 62) _ _ (oo _ refl) (oo _ refl)
other_turn _ c h = absurd (both_ways false refl h)

-- a run of such scans stays among them
other_run : (s t : Scan) (d e : Draft) (cs : List ℕ) → is_other s ≡ true → run s d cs ≡ At t e → is_other t ≡ true
other_run s t d e [] k h = subst (λ u. is_other u ≡ true) (scan_same s t d e h) k where
  scan_same : (s t : Scan) (d e : Draft) → At s d ≡ At t e → s ≡ t
  scan_same s t d e h = cc
other_run s t d e (c ∷ cs) k h = by (λ u k h. other_run u t (note_character s u c d) e cs k h) (step s c) (other_turn s c k) h where
  by : ((u : Scan) → is_other u ≡ true → run u (note_character s u c d) cs ≡ At t e → is_other t ≡ true) → (a : Turn) → OtherTurn a → turn_run (λ u. run u (note_character s u c d) cs) d cs a ≡ At t e → is_other t ≡ true
  by f (Goes u) g h = f u g.is h
  by f (Whole a) g h = absurd (cc)
  by f Stuck g h = absurd (cc)

other_is : (s : Scan) → is_other s ≡ true → (in_reference s ≡ false) × (in_tag s ≡ false) × (is_tag s ≡ false)
other_is s h = by s h where
  by : (s : Scan) → is_other s ≡ true → (in_reference s ≡ false) × (in_tag s ≡ false) × (is_tag s ≡ false)
  by AfterReturn h = (refl, refl, refl)
  by Bracket h = (refl, refl, refl)
  by Brackets h = (refl, refl, refl)
  by Bang h = (refl, refl, refl)
  by BangHyphen h = (refl, refl, refl)
  by CommentText h = (refl, refl, refl)
  by CommentHyphen h = (refl, refl, refl)
  by CommentEnd h = (refl, refl, refl)
  by (Fixed w at) h = (refl, refl, refl)
  by (Question f) h = (refl, refl, refl)
  by (TargetX f) h = (refl, refl, refl)
  by (TargetXm f) h = (refl, refl, refl)
  by (TargetXml f) h = (refl, refl, refl)
  by Target h = (refl, refl, refl)
  by TargetMark h = (refl, refl, refl)
  by InstructionText h = (refl, refl, refl)
  by InstructionMark h = (refl, refl, refl)
  by DeclarationGap h = (refl, refl, refl)
  by (FieldName f at) h = (refl, refl, refl)
  by (FieldBefore f) h = (refl, refl, refl)
  by (FieldAfter f) h = (refl, refl, refl)
  by (FieldValue f q) h = (refl, refl, refl)
  by (FieldWord f w q at) h = (refl, refl, refl)
  by (FieldEnd f) h = (refl, refl, refl)
  by (FieldGap f) h = (refl, refl, refl)
  by DeclarationMark h = (refl, refl, refl)
  by _ h = absurd (both_ways false refl h)

-- a run in a reference stays in it
referring_run : (r : ReferenceScan) (t : Scan) (d e : Draft) (cs : List ℕ) → run (InReference r) d cs ≡ At t e → (in_reference t ≡ true) × (in_tag t ≡ false) × (ends_in_reference true cs ≡ true) × (is_tag t ≡ false)
referring_run r t d e [] h = (subst (λ u. in_reference u ≡ true) (scan_same (InReference r) t d e h) refl, subst (λ u. in_tag u ≡ false) (scan_same (InReference r) t d e h) refl, refl, subst (λ u. is_tag u ≡ false) (scan_same (InReference r) t d e h) refl) where
  scan_same : (s t : Scan) (d e : Draft) → At s d ≡ At t e → s ≡ t
  scan_same s t d e h = cc
referring_run r t d e (c ∷ cs) h = by (λ u k. referring_run u t (note_character (InReference r) (InReference u) c d) e cs k) (reference_step r c) (reference_fact r c) h where
  by : ((u : ReferenceScan) → run (InReference u) (note_character (InReference r) (InReference u) c d) cs ≡ At t e → (in_reference t ≡ true) × (in_tag t ≡ false) × (ends_in_reference true cs ≡ true) × (is_tag t ≡ false)) → (a : ReferenceTurn) → ReferenceFact c a → turn_run (λ u. run u (note_character (InReference r) u c d) cs) d cs (referring a) ≡ At t e → (in_reference t ≡ true) × (in_tag t ≡ false) × (ends_in_reference true (c ∷ cs) ≡ true) × (is_tag t ≡ false)
  by f (Continues u) g h = let k = f u h in (k.0, k.1, stays (c == 38) (c == 59) g k.2, k.3) where
    stays : (a b : Bool) → b ≡ false → ends_in_reference true cs ≡ true → (if a then ends_in_reference true cs else (if b then ends_in_reference false cs else ends_in_reference true cs)) ≡ true
    stays true b e k = k
    stays false true e k = absurd (both_ways true e refl)
    stays false false e k = k
  by f (Gives v) g h = absurd (cc)
  by f Breaks g h = absurd (cc)

-- what is known of a run from a token's first character
pub record Placed (chars : List ℕ) (s : Scan) : Type 0 where
  pub reference : is_in_reference chars ≡ in_reference s
  pub tag : in_tag s ≡ true → IsTagBegun chars
  pub no_tag : in_tag s ≡ false → IsTagBegun chars → ⊥
  pub same : is_tag s ≡ true → in_tag s ≡ true

-- behind `<`
abbrev OpenedFact : ℕ → Turn → Type 0
OpenedFact c (Goes Bang) = (c == 33) ≡ true
OpenedFact c (Goes (Question f)) = (c == 63) ≡ true
OpenedFact c (Goes EndOpened) = ((c == 33) ≡ false) × ((c == 63) ≡ false) × IsQuiet c
OpenedFact c (Goes (StartName First)) = ((c == 33) ≡ false) × ((c == 63) ≡ false) × IsQuiet c
OpenedFact c (Goes _) = ⊥
OpenedFact c _ = Unit {0}

opened_fact : (first : Bool) (c : ℕ) → OpenedFact c (opened_step first c)
opened_fact first c = if_intro (OpenedFact c) (c == 33) _ _ (λ e. e)
    (λ n. if_intro (OpenedFact c) (c == 63) _ _ (λ e. e)
    (λ m. if_intro (OpenedFact c) (c == 47) _ _ (λ e. (n, m, slash c e))
    (λ _. if_intro (OpenedFact c) (is_name_start c) _ Stuck (λ e. (n, m, start_quiet c e)) (λ _. tt)))) where
      slash : (c : ℕ) → (c == 47) ≡ true → IsQuiet c
      slash c e = subst IsQuiet (sym (eqb-true c 47 e)) (record { no_ampersand = refl; no_semicolon = refl })

quiet_ends : (c : ℕ) (cs : List ℕ) → IsQuiet c → ends_in_reference false (60 ∷ c ∷ cs) ≡ ends_in_reference false cs
quiet_ends c cs q = rw (q.no_ampersand, q.no_semicolon) refl

-- the characters of a tag, of other markup, and of a reference
tag_chars : (c : ℕ) (cs : List ℕ) → (c == 33) ≡ false → (c == 63) ≡ false → is_in_reference (60 ∷ c ∷ cs) ≡ ends_in_reference false (60 ∷ c ∷ cs)
tag_chars c cs n m = rw (n, m) refl

opened_placed : (first : Bool) (cs : List ℕ) (t : Scan) (d e : Draft) → run (Opened first) d cs ≡ At t e → Placed (60 ∷ cs) t
opened_placed first [] t d e h = subst (Placed (60 ∷ [])) (scan_same (Opened first) t d e h) (record { reference = refl; tag = λ k. both_ways false refl k; no_tag = λ _ k. k; same = λ k. absurd (both_ways false refl k) }) where
  scan_same : (s t : Scan) (d e : Draft) → At s d ≡ At t e → s ≡ t
  scan_same s t d e h = cc
opened_placed first (c ∷ cs) t d e h = by (step (Opened first) c) (opened_fact first c) h where
  in_one : (u : Scan) → in_tag u ≡ true → in_reference u ≡ false → (c == 33) ≡ false → (c == 63) ≡ false → IsQuiet c → run u (note_character (Opened first) u c d) cs ≡ At t e → Placed (60 ∷ c ∷ cs) t
  in_one u k r n m q h =
      let g = tag_run u t (note_character (Opened first) u c d) e cs k h in
      record {
        reference = tag_chars c cs n m ∙ (quiet_ends c cs q ∙ (ap (λ b. ends_in_reference b cs) (sym r) ∙ g.1));
        tag = λ _. (refl, (λ x. eqb-false c 33 n x), (λ x. eqb-false c 63 m x));
        no_tag = λ x _. both_ways _ x g.0;
        same = λ _. g.0;
      }

  in_other : (u : Scan) (k : ℕ) → is_other u ≡ true → (c == k) ≡ true → is_in_reference (60 ∷ k ∷ cs) ≡ false → (IsTagBegun (60 ∷ k ∷ cs) → ⊥) → run u (note_character (Opened first) u c d) cs ≡ At t e → Placed (60 ∷ c ∷ cs) t
  in_other u k o q i n h =
      let g = other_is t (other_run u t (note_character (Opened first) u c d) e cs o h) in
      subst (λ (x : ℕ). Placed (60 ∷ x ∷ cs) t) (sym (eqb-true c k q)) (record { reference = i ∙ sym g.0; tag = λ x. absurd (both_ways _ g.1 x); no_tag = λ _ x. n x; same = λ x. absurd (both_ways _ g.2 x) })

  by : (a : Turn) → OpenedFact c a → turn_run (λ u. run u (note_character (Opened first) u c d) cs) d cs a ≡ At t e → Placed (60 ∷ c ∷ cs) t
  by (Goes Bang) f h = in_other Bang 33 refl f refl (λ x. x.1 refl) h
  by (Goes (Question q)) f h = in_other (Question q) 63 refl f refl (λ x. x.2 refl) h
  by (Goes EndOpened) f h = in_one EndOpened refl refl f.0 f.1 f.2 h
  by (Goes (StartName First)) f h = in_one (StartName First) refl refl f.0 f.1 f.2 h
  by (Goes (StartName Colon)) f h = absurd f
  by (Goes (StartName Second)) f h = absurd f
  by (Goes _) f h = absurd f
  by (Whole a) f h = absurd (cc)
  by Stuck f h = absurd (cc)

-- at the first character
abbrev BeginFact : ℕ → Turn → Type 0
BeginFact c (Goes (Opened f)) = (c == 60) ≡ true
BeginFact c (Goes (InReference Begun)) = (c == 38) ≡ true
BeginFact c (Goes AfterReturn) = (c == 13) ≡ true
BeginFact c (Goes Bracket) = (c == 93) ≡ true
BeginFact c (Goes _) = ⊥
BeginFact c _ = Unit {0}

line_fact : (c : ℕ) → BeginFact c (line_step c)
line_fact c = if_intro (BeginFact c) (c == 13) _ _ (λ e. e) (λ _. if_intro (BeginFact c) (c == 10) _ _ (λ _. tt) (λ _. if_intro (BeginFact c) (is_xml_char c) _ Stuck (λ _. tt) (λ _. tt)))

text_fact : (first : Bool) (c : ℕ) → BeginFact c (text_step first c)
text_fact first c = if_intro (BeginFact c) (c == 60) _ _ (λ e. e) (λ _. if_intro (BeginFact c) (c == 38) _ _ (λ e. e) (λ _. line_fact c))

begin_fact : (p : Position) (c : ℕ) → BeginFact c (step (Begin p) c)
begin_fact AtStart c = if_intro (BeginFact c) (c == 0xFEFF) _ _ (λ _. tt) (λ _. text_fact true c)
begin_fact AfterMark c = text_fact true c
begin_fact Text c = text_fact false c
begin_fact Cdata c = if_intro (BeginFact c) (c == 93) _ _ (λ e. e) (λ _. line_fact c)

-- the characters tell where the scan is
pub run_placed : (p : Position) (chars : List ℕ) (t : Scan) (d e : Draft) → run (Begin p) d chars ≡ At t e → Placed chars t
run_placed p [] t d e h = subst (Placed []) (scan_same (Begin p) t d e h) (record { reference = refl; tag = λ k. both_ways false refl k; no_tag = λ _ k. k; same = λ k. absurd (both_ways false refl k) }) where
  scan_same : (s t : Scan) (d e : Draft) → At s d ≡ At t e → s ≡ t
  scan_same s t d e h = cc
run_placed p (c ∷ cs) t d e h = by (step (Begin p) c) (begin_fact p c) h where
  alone : (u : Scan) (k : ℕ) → is_other u ≡ true → (c == k) ≡ true → ((cs : List ℕ) → is_in_reference (k ∷ cs) ≡ false) → ((cs : List ℕ) → IsTagBegun (k ∷ cs) → ⊥) → run u (note_character (Begin p) u c d) cs ≡ At t e → Placed (c ∷ cs) t
  alone u k o q i n h =
      let g = other_is t (other_run u t (note_character (Begin p) u c d) e cs o h) in
      subst (λ (x : ℕ). Placed (x ∷ cs) t) (sym (eqb-true c k q)) (record { reference = i cs ∙ sym g.0; tag = λ x. absurd (both_ways _ g.1 x); no_tag = λ _ x. n cs x; same = λ x. absurd (both_ways _ g.2 x) })

  no_thirteen : (cs : List ℕ) → is_in_reference (13 ∷ cs) ≡ false
  no_thirteen [] = refl
  no_thirteen (x ∷ cs) = refl

  no_bracket : (cs : List ℕ) → is_in_reference (93 ∷ cs) ≡ false
  no_bracket [] = refl
  no_bracket (x ∷ cs) = refl

  no_tag_at : (k : ℕ) → (k == 60) ≡ false → (cs : List ℕ) → IsTagBegun (k ∷ cs) → ⊥
  no_tag_at k h [] x = x
  no_tag_at k h (y ∷ cs) x = eqb-false k 60 h x.0

  in_ref : (cs : List ℕ) → ends_in_reference true cs ≡ true → is_in_reference (38 ∷ cs) ≡ true
  in_ref [] h = refl
  in_ref (x ∷ cs) h = h

  by : (a : Turn) → BeginFact c a → turn_run (λ u. run u (note_character (Begin p) u c d) cs) d cs a ≡ At t e → Placed (c ∷ cs) t
  by (Goes (Opened f)) q h = subst (λ (x : ℕ). Placed (x ∷ cs) t) (sym (eqb-true c 60 q)) (opened_placed f cs t (note_character (Begin p) (Opened f) c d) e h)
  by (Goes (InReference Begun)) q h =
      let g = referring_run Begun t (note_character (Begin p) (InReference Begun) c d) e cs h in
      subst (λ (x : ℕ). Placed (x ∷ cs) t) (sym (eqb-true c 38 q)) (record { reference = in_ref cs g.2 ∙ sym g.0; tag = λ x. absurd (both_ways _ g.1 x); no_tag = λ _ x. no_tag_at 38 refl cs x; same = λ x. absurd (both_ways _ g.3 x) })
  by (Goes AfterReturn) q h = alone AfterReturn 13 refl q no_thirteen (no_tag_at 13 refl) h
  by (Goes Bracket) q h = alone Bracket 93 refl q no_bracket (no_tag_at 93 refl) h
  by (Goes _) q h = absurd q
  by (Whole a) q h = absurd (cc)
  by Stuck q h = absurd (cc)
