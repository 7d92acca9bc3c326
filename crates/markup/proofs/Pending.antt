-- Which characters leave a token waiting for what follows: a CR, and brackets in a CDATA section.
use Rattle.std.proofs.Common.{◌≡◌, ℕ, Bool, true, false, not, ◌==◌, ◌||◌, ◌&&◌, ◌+◌, List, [], ◌∷◌, Option, Some, None, is_none, if◌then◌else◌, refl, sym, subst}
use Rattle.std.proofs.lemmas.Bool.{both_ways, eqb-true}
use Rattle.markup.specs.Chars.{is_xml_char, is_name_start, is_name_char, is_space}
use Rattle.markup.specs.inner.Words.{letter_of}
use Rattle.markup.specs.inner.ReferenceScans.{reference_step}
use Rattle.markup.specs.inner.Drafts.{note_character}
use Rattle.markup.specs.inner.Scans.{step, name_step, name_turn, fixed_ended, fits_letter, fixed_letter, field_letter, field_word_letter, field_end_step, behind_attribute_step, referring, referring_in, text_step, line_step}
use Rattle.markup.specs.inner.ScanRuns.{At, turn_run, run}
use Rattle.markup.specs.inner.Inside.{is_inside}
use Rattle.markup.specs.declared.draft.Draft.{Draft}
use Rattle.markup.specs.declared.word.Word.{Word}
use Rattle.markup.specs.declared.reference.ReferenceTurn.{ReferenceTurn}
use Rattle.markup.specs.declared.reference.ReferenceTurn.TheVariants.{Continues, Gives, Breaks}
use Rattle.markup.specs.declared.scan.NameScan.{NameScan}
use Rattle.markup.specs.declared.scan.NameTurn.{NameTurn}
use Rattle.markup.specs.declared.scan.NameTurn.TheVariants.{Remains, Ends, Fails}
use Rattle.markup.specs.declared.scan.Field.{Field}
use Rattle.markup.specs.declared.scan.Field.TheVariants.{Version, Encoding, Standalone}
use Rattle.markup.specs.declared.scan.Position.{Position}
use Rattle.markup.specs.declared.scan.Position.TheVariants.{Start as AtStart, AfterMark, Text, Cdata}
use Rattle.markup.specs.declared.scan.Scan.{Scan}
use Rattle.markup.specs.declared.scan.Scan.TheVariants.{Begin, AfterReturn, Bracket, Brackets, Reference as InReference, Opened, Bang, BangHyphen, CommentText, CommentHyphen, CommentEnd, Fixed, Question, TargetX, TargetXm, TargetXml, Target, TargetMark, InstructionText, InstructionMark, DeclarationGap, FieldName, FieldBefore, FieldAfter, FieldValue, FieldWord, FieldEnd, FieldGap, DeclarationMark, StartName, Gap, AttributeName, BeforeEquals, AfterEquals, Value, ValueReference, AfterValue, Slash, EndOpened, EndName, EndGap}
use Rattle.markup.specs.declared.scan.Ended.TheVariants.{LineEnd as LineEnded, Closer as CloserEnded}
use Rattle.markup.specs.declared.scan.Turn.{Turn}
use Rattle.markup.specs.declared.scan.Turn.TheVariants.{Goes, Whole, Stuck}
use Rattle.markup.proofs.ReferencePlaces.{if_intro}

abbrev inner_goes : Turn → Bool
inner_goes (Goes s) = is_inside s
inner_goes _ = true

record InnerTurn (t : Turn) : Type 0 where
  is : inner_goes t ≡ true

io : (t : Turn) → inner_goes t ≡ true → InnerTurn t
io t h = record { is = h }

ii : (b : Bool) (x y : Turn) → InnerTurn x → InnerTurn y → InnerTurn (if b then x else y)
ii true x y h k = h
ii false x y h k = k

referring_inner : (t : ReferenceTurn) → InnerTurn (referring t)
referring_inner (Continues r) = io _ refl
referring_inner (Gives c) = io _ refl
referring_inner Breaks = io _ refl

referring_in_inner : (q : ℕ) (t : ReferenceTurn) → InnerTurn (referring_in q t)
referring_in_inner q (Continues r) = io _ refl
referring_in_inner q (Gives c) = io _ refl
referring_in_inner q Breaks = io _ refl

behind_inner : (c : ℕ) → InnerTurn (behind_attribute_step c)
behind_inner c = ii (is_space c) _ _ (io _ refl) (ii (c == 47) _ _ (io _ refl) (ii (c == 62) _ _ (io _ refl) (io _ refl)))

fixed_inner : (w : Word) (at c : ℕ) (o : Option ℕ) → InnerTurn (fixed_letter w at c o)
fixed_inner w at c None = io _ refl
fixed_inner w at c (Some l) = ii (c == l) _ Stuck (ii (is_none (letter_of w (at + 1))) (Whole (fixed_ended w)) (Goes (Fixed w (at + 1))) (io _ refl) (io _ refl)) (io _ refl)

field_letter_inner : (f : Field) (at c : ℕ) (o : Option ℕ) → InnerTurn (field_letter f at c o)
field_letter_inner f at c None = ii (is_space c) _ _ (io _ refl) (ii (c == 61) _ _ (io _ refl) (io _ refl))
field_letter_inner f at c (Some l) = ii (c == l) _ _ (io _ refl) (io _ refl)

word_letter_inner : (f : Field) (w : Word) (q at c : ℕ) (o : Option ℕ) → InnerTurn (field_word_letter f w q at c o)
word_letter_inner f w q at c None = ii (c == q) _ _ (io _ refl) (io _ refl)
word_letter_inner f w q at c (Some l) = ii (fits_letter w l c) (Goes (FieldWord f w q (at + 1))) Stuck (io _ refl) (io _ refl)

field_end_inner : (f : Field) (c : ℕ) → InnerTurn (field_end_step f c)
field_end_inner f c = ii (is_space c) _ _ (io _ refl) (ii (c == 63) _ _ (io _ refl) (io _ refl))

target_inner : (c : ℕ) → InnerTurn (step Target c)
target_inner c = ii (is_name_char c) _ _ (io _ refl) (ii (is_space c) _ _ (io _ refl) (ii (c == 63) _ _ (io _ refl) (io _ refl)))

instruction_inner : (c : ℕ) → InnerTurn (step InstructionText c)
instruction_inner c = ii (c == 63) _ _ (io _ refl) (ii (is_xml_char c) _ _ (io _ refl) (io _ refl))

name_inner : (at : NameScan → Scan) (behind : Turn) (t : NameTurn) → ((n : NameScan) → is_inside (at n) ≡ true) → InnerTurn behind → InnerTurn (name_turn at behind t)
name_inner at behind (Remains n) h k = io _ (h n)
name_inner at behind Ends h k = k
name_inner at behind Fails h k = io _ refl

inner_turn : (s : Scan) (c : ℕ) → is_inside s ≡ true → InnerTurn (step s c)
inner_turn (InReference r) c h = referring_inner (reference_step r c)
inner_turn (Opened first) c h = ii (c == 33) _ _ (io _ refl) (ii (c == 63) _ _ (io _ refl) (ii (c == 47) _ _ (io _ refl) (ii (is_name_start c) _ _ (io _ refl) (io _ refl))))
inner_turn Bang c h = ii (c == 45) _ _ (io _ refl) (ii (c == 91) _ _ (io _ refl) (ii (c == 68) _ _ (io _ refl) (io _ refl)))
inner_turn BangHyphen c h = ii (c == 45) _ _ (io _ refl) (io _ refl)
inner_turn CommentText c h = ii (c == 45) _ _ (io _ refl) (ii (is_xml_char c) _ _ (io _ refl) (io _ refl))
inner_turn CommentHyphen c h = ii (c == 45) _ _ (io _ refl) (ii (is_xml_char c) _ _ (io _ refl) (io _ refl))
inner_turn CommentEnd c h = ii (c == 62) _ _ (io _ refl) (io _ refl)
inner_turn (Fixed w at) c h = fixed_inner w at c _
inner_turn (Question first) c h = ii (c == 120) _ _ (io _ refl) (ii (c == 88) _ _ (io _ refl) (ii (is_name_start c) _ _ (io _ refl) (io _ refl)))
inner_turn (TargetX first) c h = ii (c == 109) _ _ (io _ refl) (ii (c == 77) _ _ (io _ refl) (target_inner c))
inner_turn (TargetXm first) c h = ii (c == 108) _ _ (io _ refl) (ii (c == 76) _ _ (io _ refl) (target_inner c))
inner_turn (TargetXml first) c h = ii (is_name_char c) _ _ (io _ refl) (ii (first && is_space c) _ _ (io _ refl) (io _ refl))
inner_turn Target c h = target_inner c
inner_turn TargetMark c h = ii (c == 62) _ _ (io _ refl) (io _ refl)
inner_turn InstructionText c h = instruction_inner c
inner_turn InstructionMark c h = ii (c == 62) _ _ (io _ refl) (instruction_inner c)
inner_turn DeclarationGap c h = ii (is_space c) _ _ (io _ refl) (ii (c == 118) _ _ (io _ refl) (io _ refl))
inner_turn (FieldName f at) c h = field_letter_inner f at c _
inner_turn (FieldBefore f) c h = ii (is_space c) _ _ (io _ refl) (ii (c == 61) _ _ (io _ refl) (io _ refl))
inner_turn (FieldAfter f) c h = ii (is_space c) _ _ (io _ refl) (ii (c == 34 || c == 39) _ _ (io _ refl) (io _ refl))
inner_turn (FieldValue Version q) c h = ii (c == 49) _ _ (io _ refl) (io _ refl)
inner_turn (FieldValue Encoding q) c h = ii (c == 117 || c == 85) _ _ (io _ refl) (io _ refl)
inner_turn (FieldValue Standalone q) c h = ii (c == 121) _ _ (io _ refl) (ii (c == 110) _ _ (io _ refl) (io _ refl))
inner_turn (FieldWord f w q at) c h = word_letter_inner f w q at c _
inner_turn (FieldEnd f) c h = field_end_inner f c
inner_turn (FieldGap Version) c h = ii (c == 101) _ _ (io _ refl) (ii (c == 115) _ _ (io _ refl) (field_end_inner Version c))
inner_turn (FieldGap Encoding) c h = ii (c == 115) _ _ (io _ refl) (field_end_inner Encoding c)
inner_turn (FieldGap Standalone) c h = field_end_inner Standalone c
inner_turn DeclarationMark c h = ii (c == 62) _ _ (io _ refl) (io _ refl)
inner_turn (StartName n) c h = name_inner StartName _ (name_step n c) (λ _. refl) (behind_inner c)
inner_turn Gap c h = ii (is_name_start c) _ _ (io _ refl) (behind_inner c)
inner_turn (AttributeName n) c h = name_inner AttributeName _ (name_step n c) (λ _. refl) (ii (is_space c) _ _ (io _ refl) (ii (c == 61) _ _ (io _ refl) (io _ refl)))
inner_turn BeforeEquals c h = ii (is_space c) _ _ (io _ refl) (ii (c == 61) _ _ (io _ refl) (io _ refl))
inner_turn AfterEquals c h = ii (is_space c) _ _ (io _ refl) (ii (c == 34 || c == 39) _ _ (io _ refl) (io _ refl))
inner_turn (Value q r) c h = ii (c == q) _ _ (io _ refl) (ii (c == 38) _ _ (io _ refl) (ii (is_xml_char c && not (c == 60)) _ _ (io _ refl) (io _ refl)))
inner_turn (ValueReference q r) c h = referring_in_inner q (reference_step r c)
inner_turn AfterValue c h = behind_inner c
inner_turn Slash c h = ii (c == 62) _ _ (io _ refl) (io _ refl)
inner_turn EndOpened c h = ii (is_name_start c) _ _ (io _ refl) (io _ refl)
inner_turn (EndName n) c h = name_inner EndName _ (name_step n c) (λ _. refl) (ii (is_space c) _ _ (io _ refl) (ii (c == 62) _ _ (io _ refl) (io _ refl)))
inner_turn EndGap c h = ii (is_space c) _ _ (io _ refl) (ii (c == 62) _ _ (io _ refl) (io _ refl))
inner_turn _ c h = absurd (both_ways false refl h)

inner_run : (s t : Scan) (d e : Draft) (cs : List ℕ) → is_inside s ≡ true → run s d cs ≡ At t e → is_inside t ≡ true
inner_run s t d e [] k h = subst (λ u. is_inside u ≡ true) (scan_same s t d e h) k where
  scan_same : (s t : Scan) (d e : Draft) → At s d ≡ At t e → s ≡ t
  scan_same s t d e h = cc
inner_run s t d e (c ∷ cs) k h = by (λ u k h. inner_run u t (note_character s u c d) e cs k h) (step s c) (inner_turn s c k) h where
  by : ((u : Scan) → is_inside u ≡ true → run u (note_character s u c d) cs ≡ At t e → is_inside t ≡ true) → (a : Turn) → InnerTurn a → turn_run (λ u. run u (note_character s u c d) cs) d cs a ≡ At t e → is_inside t ≡ true
  by f (Goes u) g h = f u g.is h
  by f (Whole a) g h = absurd (cc)
  by f Stuck g h = absurd (cc)

-- what a scan that waits has read
abbrev pub Waits : Position → List ℕ → Scan → Type 0
Waits p chars AfterReturn = chars ≡ 13 ∷ []
Waits p chars Bracket = (chars ≡ 93 ∷ []) × (p ≡ Cdata)
Waits p chars Brackets = (chars ≡ 93 ∷ 93 ∷ []) × (p ≡ Cdata)
Waits p chars _ = Unit {0}

inner_waits : (p : Position) (chars : List ℕ) (s : Scan) → is_inside s ≡ true → Waits p chars s
inner_waits p chars AfterReturn h = absurd (both_ways false refl h)
inner_waits p chars Bracket h = absurd (both_ways false refl h)
inner_waits p chars Brackets h = absurd (both_ways false refl h)
inner_waits p chars _ h = tt

abbrev StartFact : Position → ℕ → Turn → Type 0
StartFact p c (Goes AfterReturn) = (c == 13) ≡ true
StartFact p c (Goes Bracket) = ((c == 93) ≡ true) × (p ≡ Cdata)
StartFact p c (Goes s) = is_inside s ≡ true
StartFact p c _ = Unit {0}

line_start : (p : Position) (c : ℕ) → StartFact p c (line_step c)
line_start p c = if_intro (StartFact p c) (c == 13) _ _ (λ e. e) (λ _. if_intro (StartFact p c) (c == 10) _ _ (λ _. tt) (λ _. if_intro (StartFact p c) (is_xml_char c) _ Stuck (λ _. tt) (λ _. tt)))

text_start : (p : Position) (first : Bool) (c : ℕ) → StartFact p c (text_step first c)
text_start p first c = if_intro (StartFact p c) (c == 60) _ _ (λ _. refl) (λ _. if_intro (StartFact p c) (c == 38) _ _ (λ _. refl) (λ _. line_start p c))

start_fact : (p : Position) (c : ℕ) → StartFact p c (step (Begin p) c)
start_fact AtStart c = if_intro (StartFact AtStart c) (c == 0xFEFF) _ _ (λ _. tt) (λ _. text_start AtStart true c)
start_fact AfterMark c = text_start AfterMark true c
start_fact Text c = text_start Text false c
start_fact Cdata c = if_intro (StartFact Cdata c) (c == 93) _ _ (λ e. (e, refl)) (λ _. line_start Cdata c)

at_same : (s t : Scan) (d e : Draft) (P : Scan → Type 0) → At s d ≡ At t e → P s → P t
at_same s t d e P h p = subst P (scan_same s t d e h) p where
  scan_same : (s t : Scan) (d e : Draft) → At s d ≡ At t e → s ≡ t
  scan_same s t d e h = cc

return_waits : (p : Position) (cs : List ℕ) (t : Scan) (d e : Draft) → run AfterReturn d cs ≡ At t e → Waits p (13 ∷ cs) t
return_waits p [] t d e h = at_same AfterReturn t d e (Waits p (13 ∷ [])) h refl
return_waits p (c ∷ cs) t d e h = by (c == 10) h where
  by : (b : Bool) → turn_run (λ u. run u (note_character AfterReturn u c d) cs) d cs (if b then Whole LineEnded else Stuck) ≡ At t e → Waits p (13 ∷ c ∷ cs) t
  by true h = absurd (cc)
  by false h = absurd (cc)

brackets_waits : (cs : List ℕ) (t : Scan) (d e : Draft) → run Brackets d cs ≡ At t e → Waits Cdata (93 ∷ 93 ∷ cs) t
brackets_waits [] t d e h = at_same Brackets t d e (Waits Cdata (93 ∷ 93 ∷ [])) h (refl, refl)
brackets_waits (c ∷ cs) t d e h = by (c == 62) h where
  by : (b : Bool) → turn_run (λ u. run u (note_character Brackets u c d) cs) d cs (if b then Whole CloserEnded else Stuck) ≡ At t e → Waits Cdata (93 ∷ 93 ∷ c ∷ cs) t
  by true h = absurd (cc)
  by false h = absurd (cc)

bracket_waits : (cs : List ℕ) (t : Scan) (d e : Draft) → run Bracket d cs ≡ At t e → Waits Cdata (93 ∷ cs) t
bracket_waits [] t d e h = at_same Bracket t d e (Waits Cdata (93 ∷ [])) h (refl, refl)
bracket_waits (c ∷ cs) t d e h = by (c == 93) refl h where
  by : (b : Bool) → (c == 93) ≡ b → turn_run (λ u. run u (note_character Bracket u c d) cs) d cs (if b then Goes Brackets else Stuck) ≡ At t e → Waits Cdata (93 ∷ c ∷ cs) t
  by true q h = subst (λ (x : ℕ). Waits Cdata (93 ∷ x ∷ cs) t) (sym (eqb-true c 93 q)) (brackets_waits cs t (note_character Bracket Brackets c d) e h)
  by false q h = absurd (cc)

-- from a token's first character on
pub run_waits : (p : Position) (chars : List ℕ) (t : Scan) (d e : Draft) → run (Begin p) d chars ≡ At t e → Waits p chars t
run_waits p [] t d e h = at_same (Begin p) t d e (Waits p []) h tt
run_waits p (c ∷ cs) t d e h = by (step (Begin p) c) (start_fact p c) h where
  inside : (u : Scan) → is_inside u ≡ true → run u (note_character (Begin p) u c d) cs ≡ At t e → Waits p (c ∷ cs) t
  inside u k h = inner_waits p (c ∷ cs) t (inner_run u t (note_character (Begin p) u c d) e cs k h)

  by : (a : Turn) → StartFact p c a → turn_run (λ u. run u (note_character (Begin p) u c d) cs) d cs a ≡ At t e → Waits p (c ∷ cs) t
  by (Goes AfterReturn) q h = subst (λ (x : ℕ). Waits p (x ∷ cs) t) (sym (eqb-true c 13 q)) (return_waits p cs t (note_character (Begin p) AfterReturn c d) e h)
  by (Goes Bracket) q h = subst (λ (x : ℕ). Waits p (x ∷ cs) t) (sym (eqb-true c 93 q.0)) (subst (λ r. Waits r (93 ∷ cs) t) (sym q.1) (bracket_waits cs t (note_character (Begin p) Bracket c d) e h))
  by (Goes u) q h = inside u q h
  by (Whole a) q h = absurd (cc)
  by Stuck q h = absurd (cc)

-- a token that begins with neither is open within
pub run_inside : (p : Position) (c : ℕ) (cs : List ℕ) (t : Scan) (d e : Draft) → (c == 13) ≡ false → (c == 93) ≡ false → run (Begin p) d (c ∷ cs) ≡ At t e → is_inside t ≡ true
run_inside p c cs t d e r b h = by (step (Begin p) c) (start_fact p c) h where
  by : (a : Turn) → StartFact p c a → turn_run (λ u. run u (note_character (Begin p) u c d) cs) d cs a ≡ At t e → is_inside t ≡ true
  by (Goes AfterReturn) q h = absurd (both_ways (c == 13) r q)
  by (Goes Bracket) q h = absurd (both_ways (c == 93) b q.0)
  by (Goes u) q h = inner_run u t (note_character (Begin p) u c d) e cs q h
  by (Whole a) q h = absurd (cc)
  by Stuck q h = absurd (cc)
