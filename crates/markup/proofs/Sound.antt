-- What the scan reads to its end is a token that stands there.
use Rattle.std.proofs.Common.{◌≡◌, ℕ, Bool, true, false, ◌==◌, ◌&&◌, inl, inr, List, [], ◌∷◌, ◌++◌, length, codes, if◌then◌else◌, refl, sym, ◌∙◌, ap, subst, append-nil, arith}
use Rattle.std.specs.List.{flat_map}
use Rattle.std.specs.Char.{to_ascii_lowercase}
use Rattle.std.proofs.lemmas.Bool.{and_parts, and_from, and_left, and_right, or_left, ne_eqb, not_from_false, both_ways, eqb-true}
use Rattle.markup.specs.Chars.{is_xml_char, is_name_start}
use Rattle.markup.specs.Name.{Name, is_name, is_part, name_text}
use Rattle.markup.specs.Reference.{is_reference}
use Rattle.markup.specs.Attribute.{attribute_text}
use Rattle.markup.specs.Token.{Token, Mark, Declaration, Comment, Instruction, Opener, Closer, TypeDeclaration, Start, End, Refer, LineEnd, Character, Line, Lf, CrLf, StartTag, is_instruction, is_instruction_text, is_xml_word, token_text}
use Rattle.markup.specs.Marks.{in_cdata, is_first, is_line_end, stands}
use Rattle.markup.specs.inner.Drafts.{note_character}
use Rattle.markup.specs.inner.Scans.{step, begin_step, text_step, line_step, opened_step, bang_step, question_step}
use Rattle.markup.specs.declared.draft.Draft.{Draft}
use Rattle.markup.specs.declared.scan.Field.TheVariants.{Version}
use Rattle.markup.specs.declared.scan.Position.{Position}
use Rattle.markup.specs.declared.scan.Position.TheVariants.{Start as AtStart, AfterMark, Text, Cdata}
use Rattle.markup.specs.declared.scan.Scan.{Scan}
use Rattle.markup.specs.declared.scan.Scan.TheVariants.{Begin, AfterReturn, Bracket, Brackets, Reference as InReference, Opened, Bang, BangHyphen, CommentText, CommentHyphen, CommentEnd, Fixed, Question, TargetX, TargetXm, TargetXml, Target, TargetMark, InstructionText, InstructionMark, DeclarationGap, FieldName, FieldBefore, FieldAfter, FieldValue, FieldWord, FieldEnd, FieldGap, DeclarationMark, StartName, Gap, AttributeName, BeforeEquals, AfterEquals, Value, ValueReference, AfterValue, Slash, EndOpened, EndName, EndGap}
use Rattle.markup.specs.declared.scan.Ended.{Ended}
use Rattle.markup.specs.declared.scan.Turn.{Turn}
use Rattle.markup.specs.declared.scan.Turn.TheVariants.{Goes, Whole, Stuck}
use Rattle.markup.proofs.CharLemmas.{x_starts, other_x}
use Rattle.markup.proofs.ReferenceLemmas.{reference_then}
use Rattle.markup.proofs.TokenLemmas.{close, start_tag_then}
use Rattle.markup.proofs.TokenKinds.{first_outside}
use Rattle.markup.proofs.TokenLaw.{instruction_then, declaration_then, end_then}
use Rattle.markup.proofs.Complete.{starts_blank, is_none_left, begins_so}
use Rattle.markup.proofs.NameSound.{on_if, at_char, name_begun}
use Rattle.markup.proofs.TagSound.{cons_same, behind_sound, gap_sound, before_equals_sound, after_equals_sound, value_sound, value_reference_sound, reference_turn_sound, end_gap_sound, start_name_sound, attribute_name_sound, end_name_sound}
use Rattle.markup.proofs.TextSound.{comment_text_sound, comment_hyphen_sound, fixed_sound, instruction_sound, mark_sound, target_sound, target_xml_sound, target_xm_sound, target_x_sound, declaration_gap_sound, field_before_sound, field_name_sound, field_after_sound, field_word_sound, field_value_sound}
use Rattle.markup.proofs.DeclarationSound.{DeclarationMade, declaration_made, field_end_sound, field_gap_sound}
use Rattle.markup.proofs.Residuals.{IsReference, NameThen, Spaced, Gapped, Tail, EndClose, CommentRest, TargetRest, FieldNamed, stands_less, LessToken, Rest, Then}
use Rattle.markup.specs.inner.ScanRuns.{Over, placed_by, position, run, turn_run}

-- a token from its whole text
whole : (t : Token) (w : List ℕ) → token_text t ++ [] ≡ w → token_text t ≡ w
whole t w e = sym (append-nil (token_text t)) ∙ e

pub instruction_is : (p t : List ℕ) → is_part p ≡ true → is_xml_word p ≡ false → is_instruction_text t ≡ true → starts_blank t ≡ true → is_instruction p t ≡ true
instruction_is p [] h k a b = and_from _ _ h (not_from_false _ k)
instruction_is p (c ∷ t) h k a b = and_from _ _ (and_from _ _ (and_from _ _ h (not_from_false _ k)) b) a

-- a target that begins with an x is no `xml`
word_no : (c : ℕ) (p : List ℕ) → begins_so 109 (begins_so 108 is_none_left) p ≡ false → is_xml_word (c ∷ p) ≡ false
word_no c [] h = refl
word_no c (e ∷ []) h = refl
word_no c (e ∷ f ∷ []) h = by (to_ascii_lowercase c == 120) (to_ascii_lowercase e == 109) (to_ascii_lowercase f == 108) h where
  by : (a b c : Bool) → (b && (c && true)) ≡ false → (a && b && c) ≡ false
  by true true true h = h
  by true true false h = refl
  by true false c h = refl
  by false b c h = refl
word_no c (e ∷ f ∷ g ∷ p) h = refl

-- nor is one that begins with another character
other_word : (c : ℕ) (p : List ℕ) → (to_ascii_lowercase c == 120) ≡ false → is_xml_word (c ∷ p) ≡ false
other_word c [] h = refl
other_word c (e ∷ []) h = refl
other_word c (e ∷ f ∷ []) h = rw h refl
other_word c (e ∷ f ∷ g ∷ p) h = refl

instruction_token : (first : Bool) (bad : List ℕ → Bool) (c : ℕ) (w : List ℕ) → is_name_start c ≡ true → ((p : List ℕ) → bad p ≡ false → is_xml_word (c ∷ p) ≡ false) → TargetRest bad w → LessToken first (60 ∷ 63 ∷ c ∷ w)
instruction_token first bad c w h k r = record {
  token = Instruction (c ∷ r.name) r.chars;
  is = instruction_is (c ∷ r.name) r.chars (and_from _ _ h r.are) (k r.name r.good) r.is r.blank;
  text = whole (Instruction (c ∷ r.name) r.chars) _ (instruction_then (c ∷ r.name) r.chars [] ∙ ap (λ u. 60 ∷ 63 ∷ c ∷ u) (sym r.text));
}

declaration_token : (first : Bool) (w v : List ℕ) → first ≡ true → w ≡ 109 ∷ 108 ∷ v → Gapped (FieldNamed Version 0) v → LessToken first (60 ∷ 63 ∷ 120 ∷ w)
declaration_token first w v f e g = by (declaration_made v g) where
  by : DeclarationMade v → LessToken first (60 ∷ 63 ∷ 120 ∷ w)
  by m = record {
    token = Declaration m.fields m.gap;
    is = and_from _ _ (and_from _ _ f m.is) m.spaces;
    text = whole (Declaration m.fields m.gap) _ (declaration_then m.fields m.gap [] ∙ ap (λ u. 60 ∷ 63 ∷ 120 ∷ u) (sym (e ∙ ap (λ u. 109 ∷ 108 ∷ u) m.text)));
  }

start_token : (first : Bool) (w : List ℕ) → NameThen Tail w → LessToken first (60 ∷ w)
start_token first w n = by n.name n.after n.is n.text n.next where
  by : (m : Name) (after : List ℕ) → is_name m ≡ true → w ≡ name_text m ++ after → Tail after → LessToken first (60 ∷ w)
  by m after h e t =
      let g : StartTag = record { name = m; attributes = t.attributes; gap = t.gap; is_empty = t.is_empty } in
      record {
        token = Start g;
        is = and_from _ _ (and_from _ _ h t.are) t.spaces;
        text = whole (Start g) _ (start_tag_then g [] ∙ ap (λ u. 60 ∷ u) (closed m t ∙ sym (e ∙ ap (λ u. name_text m ++ u) t.text)));
      } where
        closed : (m : Name) (t : Tail after) → name_text m ++ (flat_map attribute_text t.attributes ++ (t.gap ++ (close t.is_empty ++ []))) ≡ name_text m ++ (flat_map attribute_text t.attributes ++ (t.gap ++ close t.is_empty))
        closed m t = ap (λ u. name_text m ++ (flat_map attribute_text t.attributes ++ (t.gap ++ u))) (append-nil (close t.is_empty))

end_token : (first : Bool) (w : List ℕ) → NameThen (Spaced EndClose) w → LessToken first (60 ∷ 47 ∷ w)
end_token first w n = record {
  token = End n.name n.next.gap;
  is = and_from _ _ n.is n.next.are;
  text = whole (End n.name n.next.gap) _ (end_then n.name n.next.gap [] ∙ ap (λ u. 60 ∷ 47 ∷ u) (sym (n.text ∙ ap (λ u. name_text n.name ++ u) (n.next.text ∙ ap (λ u. n.next.gap ++ u) n.next.next))));
}

comment_token : (first : Bool) (w : List ℕ) → CommentRest w → LessToken first (60 ∷ 33 ∷ 45 ∷ 45 ∷ w)
comment_token first w r = record { token = Comment r.chars; is = r.is; text = ap (λ u. 60 ∷ 33 ∷ 45 ∷ 45 ∷ u) (sym r.text) }

opener_token : (first : Bool) (w : List ℕ) → w ≡ codes "CDATA[" → LessToken first (60 ∷ 33 ∷ 91 ∷ w)
opener_token first w e = record { token = Opener; is = refl; text = ap (λ u. 60 ∷ 33 ∷ 91 ∷ u) (sym e) }

type_token : (first : Bool) (w : List ℕ) → w ≡ codes "OCTYPE" → LessToken first (60 ∷ 33 ∷ 68 ∷ w)
type_token first w e = record { token = TypeDeclaration; is = refl; text = ap (λ u. 60 ∷ 33 ∷ 68 ∷ u) (sym e) }

-- what stands where no declaration may stands where one may
less_more : (first : Bool) (w : List ℕ) → LessToken false w → LessToken first w
less_more first w l = by l.token l.is l.text where
  by : (t : Token) → stands_less false t ≡ true → token_text t ≡ w → LessToken first w
  by Mark h e = absurd (both_ways false refl h)
  by (Declaration fs g) h e = absurd (both_ways false refl h)
  by (Comment s) h e = record { token = Comment s; is = h; text = e }
  by (Instruction p s) h e = record { token = Instruction p s; is = h; text = e }
  by Opener h e = record { token = Opener; is = h; text = e }
  by Closer h e = absurd (both_ways false refl h)
  by TypeDeclaration h e = record { token = TypeDeclaration; is = h; text = e }
  by (Start t) h e = record { token = Start t; is = h; text = e }
  by (End n g) h e = record { token = End n g; is = h; text = e }
  by (Refer r) h e = absurd (both_ways false refl h)
  by (LineEnd l) h e = absurd (both_ways false refl h)
  by (Character c) h e = absurd (both_ways false refl h)

-- a whole token that stands at such a place, whatever follows
pub record Completed (p : Position) (w : List ℕ) : Type 0 where
  pub token : Token
  pub is : (before : List Token) → position before ≡ p → (after : List ℕ) → stands before token after ≡ true
  pub text : token_text token ≡ w

-- of a place of this kind
record IsTextAt (p : Position) (first : Bool) : Type 0 where
  outside : (before : List Token) → position before ≡ p → in_cdata before ≡ false
  firsts : (before : List Token) → position before ≡ p → is_first before ≡ first

stands_here : (before : List Token) (first : Bool) (t : Token) (after : List ℕ) → in_cdata before ≡ false → is_first before ≡ first → stands_less first t ≡ true → stands before t after ≡ true
stands_here before first Mark after o f h = absurd (both_ways false refl h)
stands_here before first (Declaration fs g) after o f h = and_from _ _ (and_from _ _ (f ∙ (and_parts _ _ (and_parts _ _ h).0).0) (and_parts first _ (and_parts _ _ h).0).1) (and_parts _ _ h).1
stands_here before first (Comment s) after o f h = rw o h
stands_here before first (Instruction p s) after o f h = rw o h
stands_here before first Opener after o f h = rw o h
stands_here before first Closer after o f h = absurd (both_ways false refl h)
stands_here before first TypeDeclaration after o f h = rw o h
stands_here before first (Start t) after o f h = rw o h
stands_here before first (End n g) after o f h = rw o h
stands_here before first (Refer r) after o f h = absurd (both_ways false refl h)
stands_here before first (LineEnd l) after o f h = absurd (both_ways false refl h)
stands_here before first (Character c) after o f h = absurd (both_ways false refl h)

less_completed : (p : Position) (first : Bool) (w : List ℕ) → IsTextAt p first → LessToken first w → Completed p w
less_completed p first w a l = record { token = l.token; is = λ before e after. stands_here before first l.token after (a.outside before e) (a.firsts before e) l.is; text = l.text }

in_either : (b q : Bool) → q ≡ true → (if b then q else q) ≡ true
in_either true q h = h
in_either false q h = h

pub line_completed : (p : Position) (l : Line) (w : List ℕ) → ((after : List ℕ) → is_line_end l after ≡ true) → token_text (LineEnd l) ≡ w → Completed p w
line_completed p l w h e = record { token = LineEnd l; is = λ before _ after. in_either (in_cdata before) _ (h after); text = e }

refer_completed : (p : Position) (first : Bool) (w : List ℕ) → IsTextAt p first → IsReference w [] → Completed p (38 ∷ w)
refer_completed p first w a r = record {
  token = Refer r.reference;
  is = λ before e after. refers_stand before (a.outside before e) r.is;
  text = whole (Refer r.reference) _ (reference_then r.reference [] ∙ ap (λ u. 38 ∷ u) (sym r.text));
} where
  refers_stand : (before : List Token) → in_cdata before ≡ false → is_reference r.reference ≡ true → (if in_cdata before then false else is_reference r.reference) ≡ true
  refers_stand before o h = rw o h

text_char : (p : Position) (first : Bool) (c : ℕ) → IsTextAt p first → is_xml_char c ≡ true → (c == 10) ≡ false → (c == 13) ≡ false → (c == 60) ≡ false → (c == 38) ≡ false → ((before : List Token) → position before ≡ p → (length before == 0 && c == 0xFEFF) ≡ false) → Completed p (c ∷ [])
text_char p first c a x n1 n2 n3 n4 m = record { token = Character c; is = λ before e after. stand before after (a.outside before e) (m before e); text = refl } where
  stand : (before : List Token) (after : List ℕ) → in_cdata before ≡ false → (length before == 0 && c == 0xFEFF) ≡ false → stands before (Character c) after ≡ true
  stand before after o k = rw o (and_from _ _ (and_from _ _ (and_from _ _ (and_from _ _ (and_from _ _ x (not_from_false _ n1)) (not_from_false _ n2)) (not_from_false _ n3)) (not_from_false _ n4)) (not_from_false _ k))

-- behind the places
placed_is_text : (f g : Bool) → placed_by f g ≡ Text → (f ≡ false) × (g ≡ false)
placed_is_text true g e = absurd (cc)
placed_is_text false true e = absurd (cc)
placed_is_text false false e = (refl, refl)

placed_is_after : (f g : Bool) → placed_by f g ≡ AfterMark → f ≡ true
placed_is_after true g e = refl
placed_is_after false true e = absurd (cc)
placed_is_after false false e = absurd (cc)

placed_is_cdata : (f g : Bool) → placed_by f g ≡ Cdata → g ≡ true
placed_is_cdata true g e = absurd (cc)
placed_is_cdata false true e = refl
placed_is_cdata false false e = absurd (cc)

placed_no_start : (f g : Bool) → placed_by f g ≡ AtStart → ⊥
placed_no_start true g e = cc
placed_no_start false true e = cc
placed_no_start false false e = cc

at_text : IsTextAt Text false
at_text = record { outside = outside; firsts = firsts } where
  outside : (before : List Token) → position before ≡ Text → in_cdata before ≡ false
  outside [] e = absurd (cc)
  outside (t ∷ before) e = (placed_is_text (is_first (t ∷ before)) (in_cdata (t ∷ before)) e).1

  firsts : (before : List Token) → position before ≡ Text → is_first before ≡ false
  firsts [] e = absurd (cc)
  firsts (t ∷ before) e = (placed_is_text (is_first (t ∷ before)) (in_cdata (t ∷ before)) e).0

at_after : IsTextAt AfterMark true
at_after = record { outside = λ before e. first_outside before (firsts before e); firsts = firsts } where
  firsts : (before : List Token) → position before ≡ AfterMark → is_first before ≡ true
  firsts [] e = refl
  firsts (t ∷ before) e = placed_is_after (is_first (t ∷ before)) (in_cdata (t ∷ before)) e

at_start : IsTextAt AtStart true
at_start = record { outside = λ before e. first_outside before (firsts before e); firsts = firsts } where
  firsts : (before : List Token) → position before ≡ AtStart → is_first before ≡ true
  firsts [] e = refl
  firsts (t ∷ before) e = absurd (placed_no_start (is_first (t ∷ before)) (in_cdata (t ∷ before)) e)

pub at_cdata : (before : List Token) → position before ≡ Cdata → in_cdata before ≡ true
at_cdata [] e = absurd (cc)
at_cdata (t ∷ before) e = placed_is_cdata (is_first (t ∷ before)) (in_cdata (t ∷ before)) e

cdata_char : (c : ℕ) → is_xml_char c ≡ true → (c == 10) ≡ false → (c == 13) ≡ false → (c == 93) ≡ false → Completed Cdata (c ∷ [])
cdata_char c x n1 n2 n3 = record { token = Character c; is = λ before e after. stand before after (at_cdata before e); text = refl } where
  stand : (before : List Token) (after : List ℕ) → in_cdata before ≡ true → stands before (Character c) after ≡ true
  stand before after o = rw o (and_from _ _ (and_from _ _ (and_from _ _ x (not_from_false _ n1)) (not_from_false _ n2)) (or_left _ _ (not_from_false _ n3)))

not_start : (p : Position) → (AtStart ≡ p → ⊥) → (c : ℕ) (before : List Token) → position before ≡ p → (length before == 0 && c == 0xFEFF) ≡ false
not_start p n c [] e = absurd (n e)
not_start p n c (t ∷ before) e = and_left _ _ (ne_eqb (length (t ∷ before)) 0 (λ e. omega (arith, e)))

mark_completed : Completed AtStart (0xFEFF ∷ [])
mark_completed = record { token = Mark; is = λ before e after. none before e; text = refl } where
  none : (before : List Token) → position before ≡ AtStart → (length before == 0) ≡ true
  none [] e = refl
  none (t ∷ before) e = absurd (placed_no_start (is_first (t ∷ before)) (in_cdata (t ∷ before)) e)

closer_completed : (w : List ℕ) → w ≡ 93 ∷ 62 ∷ [] → Completed Cdata (93 ∷ w)
closer_completed w e = record { token = Closer; is = λ before k after. only (in_cdata before) (at_cdata before k); text = ap (λ u. 93 ∷ u) (sym e) } where
  only : (b : Bool) → b ≡ true → (if b then true else false) ≡ true
  only true h = refl
  only false h = h

-- at the first character
line_sound : (p : Position) (c : ℕ) (w : List ℕ) → (is_xml_char c ≡ true → (c == 10) ≡ false → (c == 13) ≡ false → Completed p (c ∷ [])) → Then Completed w (line_step c) → Completed p (c ∷ w)
line_sound p c w k h = on_if (Then Completed w) (c == 13) _ _ h
    (λ e r. line_completed p CrLf (c ∷ w) (λ _. refl) (sym (cons_same c 13 w (10 ∷ []) (eqb-true c 13 e) r)))
    (λ n h. on_if (Then Completed w) (c == 10) _ _ h
    (λ e r. line_completed p Lf (c ∷ w) (λ _. refl) (sym (cons_same c 10 w [] (eqb-true c 10 e) r)))
    (λ m h. on_if (Then Completed w) (is_xml_char c) _ Stuck h
    (λ e r. subst (λ u. Completed p (c ∷ u)) (sym r) (k e m n))
    (λ _ x. absurd x)))

text_sound : (p : Position) (first : Bool) (c : ℕ) (w : List ℕ) → IsTextAt p first → ((before : List Token) → position before ≡ p → (length before == 0 && c == 0xFEFF) ≡ false) → Then Completed w (text_step first c) → Completed p (c ∷ w)
text_sound p first c w a m h = on_if (Then Completed w) (c == 60) _ _ h
    (λ e r. at_char (λ x. Completed p (x ∷ w)) c 60 e (less_completed p first (60 ∷ w) a r))
    (λ n1 h. on_if (Then Completed w) (c == 38) _ _ h
    (λ e r. at_char (λ x. Completed p (x ∷ w)) c 38 e (refer_completed p first w a r))
    (λ n2 h. line_sound p c w (λ x l r. text_char p first c a x l r n1 n2 m) h))

begin_sound : (p : Position) (c : ℕ) (w : List ℕ) → Then Completed w (begin_step p c) → Completed p (c ∷ w)
begin_sound AtStart c w h = on_if (Then Completed w) (c == 0xFEFF) _ _ h
    (λ e r. at_char (λ x. Completed AtStart (x ∷ w)) c 0xFEFF e (subst (λ u. Completed AtStart (0xFEFF ∷ u)) (sym r) mark_completed))
    (λ n h. text_sound AtStart true c w at_start (λ before e. and_right (length before == 0) _ n) h)
begin_sound AfterMark c w h = text_sound AfterMark true c w at_after (not_start AfterMark (λ e. start_no_after e) c) h where
  start_no_after : AtStart ≡ AfterMark → ⊥
  start_no_after e = cc
begin_sound Text c w h = text_sound Text false c w at_text (not_start Text (λ e. start_no_text e) c) h where
  start_no_text : AtStart ≡ Text → ⊥
  start_no_text e = cc
begin_sound Cdata c w h = on_if (Then Completed w) (c == 93) _ _ h
    (λ e r. at_char (λ x. Completed Cdata (x ∷ w)) c 93 e (closer_completed w r))
    (λ n h. line_sound Cdata c w (λ x l r. cdata_char c x l r n) h)

opened_sound : (first : Bool) (c : ℕ) (w : List ℕ) → Then Completed w (opened_step first c) → LessToken first (60 ∷ c ∷ w)
opened_sound first c w h = on_if (Then Completed w) (c == 33) _ _ h
    (λ e r. at_char (λ x. LessToken first (60 ∷ x ∷ w)) c 33 e (less_more first (60 ∷ 33 ∷ w) r))
    (λ _ h. on_if (Then Completed w) (c == 63) _ _ h
    (λ e r. at_char (λ x. LessToken first (60 ∷ x ∷ w)) c 63 e r)
    (λ _ h. on_if (Then Completed w) (c == 47) _ _ h
    (λ e r. at_char (λ x. LessToken first (60 ∷ x ∷ w)) c 47 e (end_token first w r))
    (λ _ h. on_if (Then Completed w) (is_name_start c) _ Stuck h
    (λ e r. start_token first (c ∷ w) (name_begun Tail c w e r))
    (λ _ k. absurd k))))

bang_sound : (c : ℕ) (w : List ℕ) → Then Completed w (bang_step c) → LessToken false (60 ∷ 33 ∷ c ∷ w)
bang_sound c w h = on_if (Then Completed w) (c == 45) _ _ h
    (λ e r. at_char (λ x. LessToken false (60 ∷ 33 ∷ x ∷ w)) c 45 e r)
    (λ _ h. on_if (Then Completed w) (c == 91) _ _ h
    (λ e r. at_char (λ x. LessToken false (60 ∷ 33 ∷ x ∷ w)) c 91 e (opener_token false w r))
    (λ _ h. on_if (Then Completed w) (c == 68) _ Stuck h
    (λ e r. at_char (λ x. LessToken false (60 ∷ 33 ∷ x ∷ w)) c 68 e (type_token false w r))
    (λ _ k. absurd k)))

question_sound : (first : Bool) (c : ℕ) (w : List ℕ) → Then Completed w (question_step first c) → LessToken first (60 ∷ 63 ∷ c ∷ w)
question_sound first c w h = on_if (Then Completed w) (c == 120) _ _ h
    (λ e r. at_char (λ x. LessToken first (60 ∷ 63 ∷ x ∷ w)) c 120 e (low r))
    (λ n h. on_if (Then Completed w) (c == 88) _ _ h
    (λ e r. at_char (λ x. LessToken first (60 ∷ 63 ∷ x ∷ w)) c 88 e (up r))
    (λ m h. on_if (Then Completed w) (is_name_start c) _ Stuck h
    (λ e r. instruction_token first (λ _. false) c w e (λ p _. other_word c p (other_x c n m)) r)
    (λ _ k. absurd k))) where
      low : Rest Completed (TargetX first) w → LessToken first (60 ∷ 63 ∷ 120 ∷ w)
      low (inl r) = instruction_token first (begins_so 109 (begins_so 108 is_none_left)) 120 w x_starts.0 (λ p k. word_no 120 p k) r
      low (inr r) = declaration_token first w r.1 r.0 r.2 r.3

      up : Rest Completed (TargetX false) w → LessToken first (60 ∷ 63 ∷ 88 ∷ w)
      up (inl r) = instruction_token first (begins_so 109 (begins_so 108 is_none_left)) 88 w x_starts.1 (λ p k. word_no 88 p k) r
      up (inr r) = absurd (both_ways false refl r.0)

-- one character of a text
char_if : (c k : ℕ) (w v : List ℕ) (t : Turn) → Then Completed w (if c == k then t else Stuck) → (Then Completed w t → w ≡ v) → c ∷ w ≡ k ∷ v
char_if c k w v t h f = on_if (Then Completed w) (c == k) t Stuck h (λ e r. cons_same c k w v (eqb-true c k e) (f r)) (λ _ x. absurd x)

pub sound : (s : Scan) (c : ℕ) (w : List ℕ) → Then Completed w (step s c) → Rest Completed s (c ∷ w)
sound (Begin p) c w h = begin_sound p c w h
sound AfterReturn c w h = char_if c 10 w [] _ h (λ r. r)
sound Bracket c w h = char_if c 93 w (62 ∷ []) _ h (λ r. r)
sound Brackets c w h = char_if c 62 w [] _ h (λ r. r)
sound (InReference r) c w h = reference_turn_sound Completed r c w h
sound (Opened first) c w h = opened_sound first c w h
sound Bang c w h = bang_sound c w h
sound BangHyphen c w h = on_if (Then Completed w) (c == 45) _ Stuck h
    (λ e r. at_char (λ x. LessToken false (60 ∷ 33 ∷ 45 ∷ x ∷ w)) c 45 e (comment_token false w r)) (λ _ k. absurd k)
sound CommentText c w h = comment_text_sound Completed c w h
sound CommentHyphen c w h = comment_hyphen_sound Completed c w h
sound CommentEnd c w h = char_if c 62 w [] _ h (λ r. r)
sound (Fixed word at) c w h = fixed_sound Completed word at c w h
sound (Question first) c w h = question_sound first c w h
sound (TargetX first) c w h = target_x_sound Completed first c w h
sound (TargetXm first) c w h = target_xm_sound Completed first c w h
sound (TargetXml first) c w h = target_xml_sound Completed first c w h
sound Target c w h = target_sound Completed (λ _. false) c w (λ p. refl) refl h
sound TargetMark c w h = char_if c 62 w [] _ h (λ r. r)
sound InstructionText c w h = instruction_sound Completed c w h
sound InstructionMark c w h = mark_sound Completed c w h
sound DeclarationGap c w h = declaration_gap_sound Completed c w h
sound (FieldName f at) c w h = field_name_sound Completed f at c w h
sound (FieldBefore f) c w h = field_before_sound Completed f c w h
sound (FieldAfter f) c w h = field_after_sound Completed f c w h
sound (FieldValue f q) c w h = field_value_sound Completed f q c w h
sound (FieldWord f word q at) c w h = field_word_sound Completed f word q at c w h
sound (FieldEnd f) c w h = field_end_sound Completed f c w h
sound (FieldGap f) c w h = field_gap_sound Completed f c w h
sound DeclarationMark c w h = char_if c 62 w [] _ h (λ r. r)
sound (StartName n) c w h = start_name_sound Completed n c w h
sound Gap c w h = gap_sound Completed c w h
sound (AttributeName n) c w h = attribute_name_sound Completed n c w h
sound BeforeEquals c w h = before_equals_sound Completed c w h
sound AfterEquals c w h = after_equals_sound Completed c w h
sound (Value q after_return) c w h = value_sound Completed q c w h
sound (ValueReference q r) c w h = value_reference_sound Completed q r c w h
sound AfterValue c w h = behind_sound Completed c w h
sound Slash c w h = char_if c 62 w [] _ h (λ r. r)
sound EndOpened c w h = on_if (Then Completed w) (is_name_start c) _ Stuck h
    (λ e r. name_begun (Spaced EndClose) c w e r) (λ _ k. absurd k)
sound (EndName n) c w h = end_name_sound Completed n c w h
sound EndGap c w h = end_gap_sound Completed c w h

-- what the scan reads to the end of the characters completes its token
pub run_sound : (s : Scan) (d e : Draft) (k : Ended) (w : List ℕ) → run s d w ≡ Over k e [] → Rest Completed s w
run_sound s d e k [] h = absurd (cc)
run_sound s d e k (c ∷ w) h = by (λ t f. run_sound t (note_character s t c d) e k w f) (step s c) refl h where
  over_same : (a b : Ended) (d e : Draft) (v : List ℕ) → Over a d v ≡ Over b e [] → v ≡ []
  over_same a b d e v h = cc

  by : ((t : Scan) → run t (note_character s t c d) w ≡ Over k e [] → Rest Completed t w) → (t : Turn) → step s c ≡ t → turn_run (λ u. run u (note_character s u c d) w) d w t ≡ Over k e [] → Rest Completed s (c ∷ w)
  by f (Goes t) g h = sound s c w (subst (Then Completed w) (sym g) (f t h))
  by f (Whole a) g h = sound s c w (subst (Then Completed w) (sym g) (over_same a k d e w h))
  by f Stuck g h = absurd (cc)
