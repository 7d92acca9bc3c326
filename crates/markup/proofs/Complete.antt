-- Each token that stands somewhere is read by the scan to its end, and no further.
use Rattle.std.proofs.Common.{◌≡◌, ℕ, Bool, true, false, not, ◌==◌, ◌||◌, ◌&&◌, List, [], ◌∷◌, ◌++◌, length, if◌then◌else◌, refl, sym, ◌∙◌, ap, subst, arith, inl, inr}
use Rattle.std.specs.List.{list_all, flat_map}
use Rattle.std.specs.Char.{to_ascii_lowercase}
use Rattle.std.proofs.lemmas.Bool.{and_parts, or_parts, and_right, not-true, both_ways, cases_Bool, eqb-true}
use Rattle.std.proofs.lemmas.Bool.Decides.{nat_tests}
use Rattle.markup.specs.Chars.{is_xml_char, is_name_start, is_name_char, is_space}
use Rattle.markup.specs.Name.{name_text}
use Rattle.markup.specs.Reference.{Reference, is_reference, referred_character, reference_text}
use Rattle.markup.specs.Attribute.{attribute_text}
use Rattle.markup.specs.Token.{Token, Mark, Declaration, Comment, Instruction, Opener, Closer, TypeDeclaration, Start, End, Refer, LineEnd, Character, Line, Lf, Cr, CrLf, is_comment, is_instruction_text, is_instruction, is_xml_word, token_text}
use Rattle.markup.specs.Marks.{in_cdata, is_first, stands, stands_in_cdata, stands_outside}
use Rattle.markup.specs.inner.Drafts.{no_draft, note_character, value_noted}
use Rattle.markup.specs.inner.ScanRuns.{placed_by, position, ended_of, draft_of, ends_itself}
use Rattle.markup.specs.inner.Scans.{step, text_step, cdata_step, line_step, referring, target_step}
use Rattle.markup.specs.declared.draft.Draft.{Draft}
use Rattle.markup.specs.declared.reference.ReferenceScan.TheVariants.{Begun}
use Rattle.markup.specs.declared.scan.Scan.{Scan}
use Rattle.markup.specs.declared.scan.Scan.TheVariants.{Begin, AfterReturn, Bracket, Reference as InReference, Opened, CommentText, CommentHyphen, Question, TargetX, TargetXm, TargetXml, Target, TargetMark, InstructionText, InstructionMark, Value, ValueReference}
use Rattle.markup.specs.declared.scan.Ended.TheVariants.{Passed, Refer as ReferEnded, LineEnd as LineEnded, Character as CharacterEnded}
use Rattle.markup.specs.declared.scan.Turn.TheVariants.{Goes, Whole}
use Rattle.markup.proofs.CharLemmas.{space_no_name, question_no_name, question_no_space}
use Rattle.markup.proofs.ReferenceLemmas.{body, reference_then}
use Rattle.markup.proofs.ReferenceRuns.{reference_end, reference_goes}
use Rattle.markup.proofs.TokenLemmas.{IsInstruction, instruction_facts, start_tag_then, instruction_tail}
use Rattle.markup.proofs.TokenKinds.{never_in, only_in, cdata_char_facts, text_char_facts, first_outside}
use Rattle.markup.proofs.TokenLaw.{comment_then, instruction_then, declaration_then, end_then}
use Rattle.markup.proofs.TagRuns.{start_tag_run, end_tag_run}
use Rattle.markup.proofs.DeclarationRuns.{declaration_run}
use Rattle.markup.proofs.Runs.{goes, ends, alike_runs}
use Rattle.markup.proofs.Spans.{heads}
use Rattle.markup.specs.inner.ScanRuns.{Over, run}

-- the scans that say nothing of a value
abbrev plain : Scan → Bool
plain (Value q r) = false
plain (ValueReference q r) = false
plain _ = true

value_plain : (s : Scan) (c : ℕ) (d : Draft) → plain s ≡ true → value_noted s c d ≡ d
value_plain (Value q r) c d h = absurd (both_ways false refl h)
value_plain (ValueReference q r) c d h = absurd (both_ways false refl h)
value_plain _ c d h = refl

pub noted_plain : (s t : Scan) (c : ℕ) (d : Draft) → plain s ≡ true → note_character s t c d ≡ note_character Target t c d
noted_plain s (Value q r) c d h = value_plain s c d h
noted_plain s _ c d h = refl

-- the text begins with white space, or is none
abbrev pub starts_blank : List ℕ → Bool
starts_blank [] = true
starts_blank (c ∷ t) = is_space c

instruction_blank : (p t : List ℕ) → is_instruction p t ≡ true → starts_blank t ≡ true
instruction_blank p [] h = refl
instruction_blank p (c ∷ t) h = (and_parts _ _ (and_parts _ _ h).0).1

-- the rest of a target is none
abbrev pub is_none_left : List ℕ → Bool
is_none_left [] = true
is_none_left (c ∷ p) = false

-- it begins with the letter in either case, and the rest is so
abbrev pub begins_so : ℕ → (List ℕ → Bool) → List ℕ → Bool
begins_so low left [] = false
begins_so low left (c ∷ p) = to_ascii_lowercase c == low && left p

no_word : (c : ℕ) (p : List ℕ) → (to_ascii_lowercase c == 120) ≡ true → is_xml_word (c ∷ p) ≡ false → begins_so 109 (begins_so 108 is_none_left) p ≡ false
no_word c [] h k = refl
no_word c (e ∷ []) h k = and_right _ false refl
no_word c (e ∷ f ∷ []) h k = regroup (to_ascii_lowercase c == 120) (to_ascii_lowercase e == 109) (to_ascii_lowercase f == 108) h k where
  regroup : (a b c : Bool) → a ≡ true → (a && b && c) ≡ false → (b && (c && true)) ≡ false
  regroup true true true h k = k
  regroup true true false h k = refl
  regroup true false c h k = refl
  regroup false b c h k = absurd (both_ways false refl h)
no_word c (e ∷ f ∷ g ∷ p) h k = and_right _ _ (and_right _ false refl)

-- a letter in both cases
record IsLetter (l u : ℕ) : Type 0 where
  low : (c : ℕ) → (c == l) ≡ true → (to_ascii_lowercase c == l) ≡ true
  up : (c : ℕ) → (c == u) ≡ true → (to_ascii_lowercase c == l) ≡ true
  question : ((63 == l) ≡ false) × ((63 == u) ≡ false)
  space : (c : ℕ) → is_space c ≡ true → ((c == l) ≡ false) × ((c == u) ≡ false)

letter_x : IsLetter 120 88
unfolding is_space
letter_x = record { low = λ c h. grind (arith, nat_tests); up = λ c h. grind (arith, nat_tests); question = (refl, refl); space = λ c h. (grind (arith, nat_tests), grind (arith, nat_tests)) }

letter_m : IsLetter 109 77
unfolding is_space
letter_m = record { low = λ c h. grind (arith, nat_tests); up = λ c h. grind (arith, nat_tests); question = (refl, refl); space = λ c h. (grind (arith, nat_tests), grind (arith, nat_tests)) }

letter_l : IsLetter 108 76
unfolding is_space
letter_l = record { low = λ c h. grind (arith, nat_tests); up = λ c h. grind (arith, nat_tests); question = (refl, refl); space = λ c h. (grind (arith, nat_tests), grind (arith, nat_tests)) }

module _ (d : Draft) where
  comment_goes : (c : ℕ) (w : List ℕ) → is_xml_char c ≡ true → (c == 45) ≡ false → run CommentText d (c ∷ w) ≡ run CommentText d w
  comment_goes c w h k = goes CommentText CommentText c d d w (rw (k, h) refl) refl

  comment_back : (c : ℕ) (w : List ℕ) → is_xml_char c ≡ true → (c == 45) ≡ false → run CommentHyphen d (c ∷ w) ≡ run CommentText d w
  comment_back c w h k = goes CommentHyphen CommentText c d d w (rw (k, h) refl) refl

  -- a comment's text; a hyphen in it leads back
  comment_run : (s w : List ℕ) → is_comment s ≡ true → run CommentText d (s ++ 45 ∷ 45 ∷ 62 ∷ w) ≡ Over Passed d w
  comment_run [] w h = refl
  comment_run (c ∷ []) w h = let k = and_parts _ _ h in comment_goes c (45 ∷ 45 ∷ 62 ∷ w) k.0 (not-true _ k.1)
  comment_run (c ∷ e ∷ s) w h =
      let k = and_parts _ _ h in let l = and_parts _ _ k.0 in
      hyphen (c == 45) c e s w refl l.0 (not-true _ l.1) k.1 (comment_run (e ∷ s) w k.1) where
        hyphen : (b : Bool) (c e : ℕ) (s w : List ℕ) → (c == 45) ≡ b → is_xml_char c ≡ true → (c == 45 && e == 45) ≡ false → is_comment (e ∷ s) ≡ true
            → run CommentText d (e ∷ (s ++ 45 ∷ 45 ∷ 62 ∷ w)) ≡ Over Passed d w
            → run CommentText d (c ∷ e ∷ (s ++ 45 ∷ 45 ∷ 62 ∷ w)) ≡ Over Passed d w
        hyphen false c e s w b x n a r = comment_goes c (e ∷ (s ++ 45 ∷ 45 ∷ 62 ∷ w)) x b ∙ r
        hyphen true c e s w b x n a r =
            goes CommentText CommentHyphen c d d (e ∷ (s ++ 45 ∷ 45 ∷ 62 ∷ w)) (rw b refl) refl
            ∙ (comment_back e (s ++ 45 ∷ 45 ∷ 62 ∷ w) (comment_head e s a) (second (c == 45) (e == 45) b n)
            ∙ (sym (comment_goes e (s ++ 45 ∷ 45 ∷ 62 ∷ w) (comment_head e s a) (second (c == 45) (e == 45) b n)) ∙ r)) where
              second : (a b : Bool) → a ≡ true → (a && b) ≡ false → b ≡ false
              second true b h k = k
              second false b h k = absurd (both_ways false refl h)

              comment_head : (e : ℕ) (s : List ℕ) → is_comment (e ∷ s) ≡ true → is_xml_char e ≡ true
              comment_head e [] a = (and_parts _ _ a).0
              comment_head e (f ∷ s) a = (and_parts _ _ (and_parts _ _ a).0).0

  instruction_goes : (c : ℕ) (w : List ℕ) → is_xml_char c ≡ true → (c == 63) ≡ false → run InstructionText d (c ∷ w) ≡ run InstructionText d w
  instruction_goes c w h k = goes InstructionText InstructionText c d d w (rw (k, h) refl) refl

  -- a mark in an instruction's text that does not end it
  mark_back : (c : ℕ) (w : List ℕ) → (c == 62) ≡ false → run InstructionMark d (c ∷ w) ≡ run InstructionText d (c ∷ w)
  mark_back c w h = alike_runs InstructionMark InstructionText c d w (rw h refl) (λ t. noted_plain InstructionMark t c d refl ∙ sym (noted_plain InstructionText t c d refl))

  instruction_run : (s w : List ℕ) → is_instruction_text s ≡ true → run InstructionText d (s ++ 63 ∷ 62 ∷ w) ≡ Over Passed d w
  instruction_run [] w h = refl
  instruction_run (c ∷ []) w h = elim (cases_Bool (c == 63)) as (λ _. run InstructionText d (c ∷ 63 ∷ 62 ∷ w) ≡ Over Passed d w) [
    | inl k ↦ goes InstructionText InstructionMark c d d (63 ∷ 62 ∷ w) (rw k refl) refl
    | inr k ↦ instruction_goes c (63 ∷ 62 ∷ w) h k
  ]
  instruction_run (c ∷ e ∷ s) w h =
      let k = and_parts _ _ h in let l = and_parts _ _ k.0 in
      mark (c == 63) c e s w refl l.0 (not-true _ l.1) (instruction_run (e ∷ s) w k.1) where
        mark : (b : Bool) (c e : ℕ) (s w : List ℕ) → (c == 63) ≡ b → is_xml_char c ≡ true → (c == 63 && e == 62) ≡ false
            → run InstructionText d (e ∷ (s ++ 63 ∷ 62 ∷ w)) ≡ Over Passed d w
            → run InstructionText d (c ∷ e ∷ (s ++ 63 ∷ 62 ∷ w)) ≡ Over Passed d w
        mark false c e s w b x n r = instruction_goes c (e ∷ (s ++ 63 ∷ 62 ∷ w)) x b ∙ r
        mark true c e s w b x n r =
            goes InstructionText InstructionMark c d d (e ∷ (s ++ 63 ∷ 62 ∷ w)) (rw b refl) refl
            ∙ (mark_back e (s ++ 63 ∷ 62 ∷ w) (second (c == 63) (e == 62) b n) ∙ r) where
              second : (a b : Bool) → a ≡ true → (a && b) ≡ false → b ≡ false
              second true b h k = k
              second false b h k = absurd (both_ways false refl h)

  -- the rest of a target, and the text behind it
  target_run : (p s w : List ℕ) → list_all is_name_char p ≡ true → is_instruction_text s ≡ true → starts_blank s ≡ true → run Target d (p ++ (s ++ 63 ∷ 62 ∷ w)) ≡ Over Passed d w
  target_run (c ∷ p) s w a b k = goes Target Target c d d (p ++ (s ++ 63 ∷ 62 ∷ w)) (rw (and_parts (is_name_char c) (list_all is_name_char p) a).0 refl) refl ∙ target_run p s w (and_parts (is_name_char c) (list_all is_name_char p) a).1 b k
  target_run [] [] w a b k = goes Target TargetMark 63 d d (62 ∷ w) (rw (question_no_name, question_no_space) refl) refl
  target_run [] (c ∷ s) w a b k = goes Target InstructionText c d d (s ++ 63 ∷ 62 ∷ w) (rw (space_no_name c k, k) refl) refl ∙ instruction_run s w (instruction_tail c s b)

  -- a scan that takes what follows as a target's rest does
  target_like : (s : Scan) (p t w : List ℕ) → plain s ≡ true → list_all is_name_char p ≡ true → is_instruction_text t ≡ true → starts_blank t ≡ true → ((c : ℕ) (v : List ℕ) → p ++ (t ++ 63 ∷ 62 ∷ w) ≡ c ∷ v → step s c ≡ target_step c) → run s d (p ++ (t ++ 63 ∷ 62 ∷ w)) ≡ Over Passed d w
  target_like s [] [] w l a b k h = alike_runs s Target 63 d (62 ∷ w) (h 63 (62 ∷ w) refl) (λ u. noted_plain s u 63 d l) ∙ target_run [] [] w a b k
  target_like s [] (c ∷ t) w l a b k h = alike_runs s Target c d (t ++ 63 ∷ 62 ∷ w) (h c (t ++ 63 ∷ 62 ∷ w) refl) (λ u. noted_plain s u c d l) ∙ target_run [] (c ∷ t) w a b k
  target_like s (c ∷ p) t w l a b k h = alike_runs s Target c d (p ++ (t ++ 63 ∷ 62 ∷ w)) (h c (p ++ (t ++ 63 ∷ 62 ∷ w)) refl) (λ u. noted_plain s u c d l) ∙ target_run (c ∷ p) t w a b k

  -- behind `xml` in some case a target goes on
  xml_run : (first : Bool) (p t w : List ℕ) → list_all is_name_char p ≡ true → is_none_left p ≡ false → is_instruction_text t ≡ true → starts_blank t ≡ true → run (TargetXml first) d (p ++ (t ++ 63 ∷ 62 ∷ w)) ≡ Over Passed d w
  xml_run first [] t w a n b k = absurd (both_ways true n refl)
  xml_run first (c ∷ p) t w a n b k = goes (TargetXml first) Target c d d (p ++ (t ++ 63 ∷ 62 ∷ w)) (rw (and_parts (is_name_char c) (list_all is_name_char p) a).0 refl) refl ∙ target_run p t w (and_parts (is_name_char c) (list_all is_name_char p) a).1 b k

  -- the scans of a word's letters: one that is the letter in either case leads on, and others stand in another target
  letter_run : (s : Scan) (low up : ℕ) (next : Bool → Scan) (first : Bool) (left : List ℕ → Bool) (p t w : List ℕ) → plain s ≡ true
      → ((c : ℕ) → step s c ≡ (if c == low then Goes (next first) else (if c == up then Goes (next false) else target_step c)))
      → ((f : Bool) (c : ℕ) → note_character s (next f) c d ≡ d)
      → ((f : Bool) (p : List ℕ) → list_all is_name_char p ≡ true → left p ≡ false → run (next f) d (p ++ (t ++ 63 ∷ 62 ∷ w)) ≡ Over Passed d w)
      → IsLetter low up → list_all is_name_char p ≡ true → begins_so low left p ≡ false → is_instruction_text t ≡ true → starts_blank t ≡ true → run s d (p ++ (t ++ 63 ∷ 62 ∷ w)) ≡ Over Passed d w
  letter_run s low up next first left [] t w l h m n i a e b k = target_like s [] t w l refl b k (behind t k) where
    behind : (t : List ℕ) → starts_blank t ≡ true → (c : ℕ) (v : List ℕ) → t ++ 63 ∷ 62 ∷ w ≡ c ∷ v → step s c ≡ target_step c
    behind [] k c v e = h c ∙ other c (subst (λ (x : ℕ). ((x == low) ≡ false) × ((x == up) ≡ false)) (heads 63 c _ _ e) i.question) where
      other : (c : ℕ) → ((c == low) ≡ false) × ((c == up) ≡ false) → (if c == low then Goes (next first) else (if c == up then Goes (next false) else target_step c)) ≡ target_step c
      other c k = rw (k.0, k.1) refl
    behind (f ∷ t) k c v e = h c ∙ other c (subst (λ (x : ℕ). ((x == low) ≡ false) × ((x == up) ≡ false)) (heads f c _ _ e) (i.space f k)) where
      other : (c : ℕ) → ((c == low) ≡ false) × ((c == up) ≡ false) → (if c == low then Goes (next first) else (if c == up then Goes (next false) else target_step c)) ≡ target_step c
      other c k = rw (k.0, k.1) refl
  letter_run s low up next first left (c ∷ p) t w l h m n i a e b k = by (c == low) (c == up) refl refl where
    by : (x y : Bool) → (c == low) ≡ x → (c == up) ≡ y → run s d (c ∷ (p ++ (t ++ 63 ∷ 62 ∷ w))) ≡ Over Passed d w
    by true y f g = goes s (next first) c d d (p ++ (t ++ 63 ∷ 62 ∷ w)) (h c ∙ rw f refl) (m first c) ∙ n first p (and_parts (is_name_char c) (list_all is_name_char p) a).1 (begun (to_ascii_lowercase c == low) (left p) (i.low c f) e) where
      begun : (x y : Bool) → x ≡ true → (x && y) ≡ false → y ≡ false
      begun true y h k = k
      begun false y h k = absurd (both_ways false refl h)
    by false true f g = goes s (next false) c d d (p ++ (t ++ 63 ∷ 62 ∷ w)) (h c ∙ rw (f, g) refl) (m false c) ∙ n false p (and_parts (is_name_char c) (list_all is_name_char p) a).1 (begun (to_ascii_lowercase c == low) (left p) (i.up c g) e) where
      begun : (x y : Bool) → x ≡ true → (x && y) ≡ false → y ≡ false
      begun true y h k = k
      begun false y h k = absurd (both_ways false refl h)
    by false false f g = alike_runs s Target c d (p ++ (t ++ 63 ∷ 62 ∷ w)) (h c ∙ rw (f, g) refl) (λ u. noted_plain s u c d l) ∙ target_run (c ∷ p) t w a b k

  xm_run : (first : Bool) (p t w : List ℕ) → list_all is_name_char p ≡ true → begins_so 108 is_none_left p ≡ false → is_instruction_text t ≡ true → starts_blank t ≡ true → run (TargetXm first) d (p ++ (t ++ 63 ∷ 62 ∷ w)) ≡ Over Passed d w
  xm_run first p t w a e b k = letter_run (TargetXm first) 108 76 TargetXml first is_none_left p t w refl (λ c. refl) (λ f c. refl) (λ f p g h. xml_run f p t w g h b k) letter_l a e b k

  x_run : (first : Bool) (p t w : List ℕ) → list_all is_name_char p ≡ true → begins_so 109 (begins_so 108 is_none_left) p ≡ false → is_instruction_text t ≡ true → starts_blank t ≡ true → run (TargetX first) d (p ++ (t ++ 63 ∷ 62 ∷ w)) ≡ Over Passed d w
  x_run first p t w a e b k = letter_run (TargetX first) 109 77 TargetXm first (begins_so 108 is_none_left) p t w refl (λ c. refl) (λ f c. refl) (λ f p g h. xm_run f p t w g h b k) letter_m a e b k

  -- an instruction behind its `<?`
  question_run : (first : Bool) (p t w : List ℕ) → is_instruction p t ≡ true → run (Question first) d (p ++ (t ++ 63 ∷ 62 ∷ w)) ≡ Over Passed d w
  question_run first [] t w h = absurd (no_target t h) where
    no_target : (t : List ℕ) → is_instruction [] t ≡ true → ⊥
    no_target [] h = both_ways false refl h
    no_target (c ∷ t) h = both_ways false refl h
  question_run first (c ∷ p) t w h = by (c == 120) (c == 88) refl refl where
    f : IsInstruction (c ∷ p) t
    f = instruction_facts (c ∷ p) t h

    blank : starts_blank t ≡ true
    blank = instruction_blank (c ∷ p) t h

    by : (x y : Bool) → (c == 120) ≡ x → (c == 88) ≡ y → run (Question first) d (c ∷ (p ++ (t ++ 63 ∷ 62 ∷ w))) ≡ Over Passed d w
    by true y g k = goes (Question first) (TargetX first) c d d (p ++ (t ++ 63 ∷ 62 ∷ w)) (rw g refl) refl ∙ x_run first p t w (and_parts _ _ f.target).1 (no_word c p (letter_x.low c g) f.no_xml) f.text blank
    by false true g k = goes (Question first) (TargetX false) c d d (p ++ (t ++ 63 ∷ 62 ∷ w)) (rw (g, k) refl) refl ∙ x_run false p t w (and_parts _ _ f.target).1 (no_word c p (letter_x.up c k) f.no_xml) f.text blank
    by false false g k = goes (Question first) Target c d d (p ++ (t ++ 63 ∷ 62 ∷ w)) (rw (g, k, (and_parts (is_name_start c) (list_all is_name_char p) f.target).0) refl) refl ∙ target_run p t w (and_parts _ _ f.target).1 f.text blank

placed_text : (f : Bool) (c : ℕ) → step (Begin (placed_by f false)) c ≡ text_step f c
placed_text true c = refl
placed_text false c = refl

-- how a token begins outside a CDATA section
pub begins_text : (before : List Token) (c : ℕ) → in_cdata before ≡ false → (length before == 0 && c == 0xFEFF) ≡ false → step (Begin (position before)) c ≡ text_step (is_first before) c
begins_text [] c h k = rw k refl
begins_text (t ∷ before) c h k = ap (λ b. step (Begin (placed_by (is_first (t ∷ before)) b)) c) h ∙ placed_text (is_first (t ∷ before)) c

-- and in one
pub begins_cdata : (before : List Token) (c : ℕ) → in_cdata before ≡ true → step (Begin (position before)) c ≡ cdata_step c
begins_cdata [] c h = absurd (both_ways false refl h)
begins_cdata (t ∷ before) c h = by (is_first (t ∷ before)) (in_cdata (t ∷ before)) h (first_outside (t ∷ before)) where
  by : (f b : Bool) → b ≡ true → (f ≡ true → b ≡ false) → step (Begin (placed_by f b)) c ≡ cdata_step c
  by true b h k = absurd (both_ways b (k refl) h)
  by false true h k = refl
  by false false h k = absurd (both_ways false refl h)

no_mark : (b : Bool) (c : ℕ) → (c == 0xFEFF) ≡ false → (b && c == 0xFEFF) ≡ false
no_mark b c h = and_right b _ h

-- a token that begins with `<`
less_goes : (before : List Token) (w : List ℕ) → in_cdata before ≡ false → run (Begin (position before)) no_draft (60 ∷ w) ≡ run (Opened (is_first before)) no_draft w
less_goes before w h = goes (Begin (position before)) (Opened (is_first before)) 60 no_draft no_draft w (begins_text before 60 h (no_mark (length before == 0) 60 refl)) refl

refer_run : (before : List Token) (r : Reference) (w : List ℕ) → in_cdata before ≡ false → is_reference r ≡ true → run (Begin (position before)) no_draft (reference_text r ++ w) ≡ Over (ReferEnded (referred_character r)) no_draft w
refer_run before r w h a =
    let e = reference_end r a in
    ap (run (Begin (position before)) no_draft) (reference_then r w)
    ∙ (goes (Begin (position before)) (InReference Begun) 38 no_draft no_draft (body r ++ 59 ∷ w) (begins_text before 38 h (no_mark (length before == 0) 38 refl)) refl
    ∙ (reference_goes InReference no_draft (λ r t c k. ap referring k) (λ r t c. refl) Begun e.scan (body r) (59 ∷ w) e.read
    ∙ ends (InReference e.scan) (ReferEnded (referred_character r)) 59 no_draft w (ap referring e.gives_is)))

-- how a line end or another character begins anywhere
begins_line : (before : List Token) (c : ℕ) → (c == 60) ≡ false → (c == 38) ≡ false → (c == 93) ≡ false → (c == 0xFEFF) ≡ false → step (Begin (position before)) c ≡ line_step c
begins_line before c h k l m = by (in_cdata before) refl where
  by : (b : Bool) → in_cdata before ≡ b → step (Begin (position before)) c ≡ line_step c
  by true e = begins_cdata before c e ∙ rw l refl
  by false e = begins_text before c e (no_mark (length before == 0) c m) ∙ rw (h, k) refl

line_end_run : (before : List Token) (l : Line) (w : List ℕ) → ends_itself (in_cdata before) (LineEnd l) ≡ true → run (Begin (position before)) no_draft (token_text (LineEnd l) ++ w) ≡ Over LineEnded no_draft w
line_end_run before Lf w h = ends (Begin (position before)) LineEnded 10 no_draft w (begins_line before 10 refl refl refl refl)
line_end_run before Cr w h = absurd (both_ways false refl h)
line_end_run before CrLf w h = goes (Begin (position before)) AfterReturn 13 no_draft no_draft (10 ∷ w) (begins_line before 13 refl refl refl refl) refl

-- a CR alone stays open
pub return_run : (before : List Token) (w : List ℕ) → run (Begin (position before)) no_draft (13 ∷ w) ≡ run AfterReturn no_draft w
return_run before w = goes (Begin (position before)) AfterReturn 13 no_draft no_draft w (begins_line before 13 refl refl refl refl) refl

line_char : (c : ℕ) → is_xml_char c ≡ true → (c == 10 || c == 13) ≡ false → line_step c ≡ Whole (CharacterEnded c)
line_char c h k = rw ((or_parts (c == 10) (c == 13) k).1, (or_parts (c == 10) (c == 13) k).0, h) refl

character_run : (before : List Token) (c : ℕ) (x w : List ℕ) → stands before (Character c) x ≡ true → ends_itself (in_cdata before) (Character c) ≡ true → run (Begin (position before)) no_draft (c ∷ w) ≡ Over (CharacterEnded c) no_draft w
character_run before c x w h k = ends (Begin (position before)) (CharacterEnded c) c no_draft w (by (in_cdata before) refl h k) where
  by : (b : Bool) → in_cdata before ≡ b → (if b then stands_in_cdata (Character c) x else stands_outside (Character c) x && not (length before == 0 && c == 0xFEFF)) ≡ true → not (b && c == 93) ≡ true → step (Begin (position before)) c ≡ Whole (CharacterEnded c)
  by true e h k = let f = cdata_char_facts c x h in begins_cdata before c e ∙ (ap (λ (v : Bool). if v then Goes Bracket else line_step c) (not-true _ k) ∙ line_char c f.xml f.no_line)
  by false e h k =
      let f = text_char_facts c x (and_parts _ _ h).0 in
      begins_text before c e (not-true _ (and_parts _ _ h).1)
      ∙ (ap (λ (v : Bool). if v then Goes (Opened (is_first before)) else (if c == 38 then Goes (InReference Begun) else line_step c)) f.no_less
      ∙ (ap (λ (v : Bool). if v then Goes (InReference Begun) else line_step c) f.no_ampersand ∙ line_char c f.xml f.no_line))

-- the first `]` in a CDATA section stays open
pub bracket_run : (before : List Token) (w : List ℕ) → in_cdata before ≡ true → run (Begin (position before)) no_draft (93 ∷ w) ≡ run Bracket no_draft w
bracket_run before w h = goes (Begin (position before)) Bracket 93 no_draft no_draft w (begins_cdata before 93 h) refl

-- a token that ends itself is read to its end
pub complete : (before : List Token) (t : Token) (x w : List ℕ) → stands before t x ≡ true → ends_itself (in_cdata before) t ≡ true → run (Begin (position before)) no_draft (token_text t ++ w) ≡ Over (ended_of t) (draft_of t) w
complete [] Mark x w h k = refl
complete (b ∷ before) Mark x w h k = absurd (nothing_first b before h) where
  nothing_first : (b : Token) (before : List Token) → (length (b ∷ before) == 0) ≡ true → ⊥
  nothing_first b before h = omega (arith, eqb-true (length (b ∷ before)) 0 h)
complete before (Declaration fs g) x w h k =
    let a = and_parts _ _ h in let b = and_parts _ _ a.0 in
    ap (run (Begin (position before)) no_draft) (declaration_then fs g w)
    ∙ (less_goes before (63 ∷ 120 ∷ 109 ∷ 108 ∷ (flat_map attribute_text fs ++ (g ++ 63 ∷ 62 ∷ w))) (first_outside before b.0)
    ∙ (ap (λ f. run (Opened f) no_draft (63 ∷ 120 ∷ 109 ∷ 108 ∷ (flat_map attribute_text fs ++ (g ++ 63 ∷ 62 ∷ w)))) b.0
    ∙ declaration_run no_draft fs g w b.1 a.1))
complete before (Comment text) x w h k =
    let a = never_in (in_cdata before) _ h in
    ap (run (Begin (position before)) no_draft) (comment_then text w) ∙ (less_goes before (33 ∷ 45 ∷ 45 ∷ (text ++ 45 ∷ 45 ∷ 62 ∷ w)) a.0 ∙ comment_run no_draft text w a.1)
complete before (Instruction p s) x w h k =
    let a = never_in (in_cdata before) _ h in
    ap (run (Begin (position before)) no_draft) (instruction_then p s w) ∙ (less_goes before (63 ∷ (p ++ (s ++ 63 ∷ 62 ∷ w))) a.0 ∙ question_run no_draft (is_first before) p s w a.1)
complete before Opener x w h k = less_goes before (33 ∷ 91 ∷ 67 ∷ 68 ∷ 65 ∷ 84 ∷ 65 ∷ 91 ∷ w) (never_in (in_cdata before) _ h).0
complete before Closer x w h k = bracket_run before (93 ∷ 62 ∷ w) (only_in (in_cdata before) h)
complete before TypeDeclaration x w h k = less_goes before (33 ∷ 68 ∷ 79 ∷ 67 ∷ 84 ∷ 89 ∷ 80 ∷ 69 ∷ w) (never_in (in_cdata before) _ h).0
complete before (Start t) x w h k =
    let a = never_in (in_cdata before) _ h in
    ap (run (Begin (position before)) no_draft) (start_tag_then t w) ∙ (less_goes before _ a.0 ∙ start_tag_run (is_first before) t w a.1)
complete before (End n g) x w h k =
    let a = never_in (in_cdata before) _ h in
    ap (run (Begin (position before)) no_draft) (end_then n g w) ∙ (less_goes before (47 ∷ (name_text n ++ (g ++ 62 ∷ w))) a.0 ∙ end_tag_run n g w (and_parts _ _ a.1).0 (and_parts _ _ a.1).1)
complete before (Refer r) x w h k = let a = never_in (in_cdata before) _ h in refer_run before r w a.0 a.1
complete before (LineEnd l) x w h k = line_end_run before l w k
complete before (Character c) x w h k = character_run before c x w h k
