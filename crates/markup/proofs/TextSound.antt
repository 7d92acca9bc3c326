-- What completes a comment, an instruction or a declaration behind one more character completes it with that character.
use Rattle.std.proofs.Common.{◌≡◌, ℕ, Bool, true, false, ◌==◌, ◌||◌, ◌&&◌, ◌+◌, inl, inr, List, [], ◌∷◌, ◌++◌, drop, Option, Some, None, is_none, if◌then◌else◌, refl, sym, ◌∙◌, ap, subst}
use Rattle.std.specs.Char.{to_ascii_lowercase}
use Rattle.std.proofs.lemmas.Bool.{and_parts, and_from, and_left, and_right, not_from_false, both_ways, eqb-true}
use Rattle.markup.specs.Chars.{is_xml_char, is_name_char, is_space}
use Rattle.markup.specs.Token.{is_comment, is_instruction_text}
use Rattle.markup.specs.inner.Words.{word_text, letter_of}
use Rattle.markup.specs.inner.Scans.{comment_step, fixed_ended, fixed_step, fixed_letter, target_step, target_x_step, target_xm_step, target_xml_step, instruction_step, mark_step, declaration_gap_step, name_word, field_letter, field_name_step, field_before_step, field_after_step, field_value_step, fits_letter, field_word_letter, field_word_step}
use Rattle.markup.specs.declared.word.Word.{Word}
use Rattle.markup.specs.declared.word.Word.TheVariants.{Utf8, One, Yes, No}
use Rattle.markup.specs.declared.scan.Field.{Field}
use Rattle.markup.specs.declared.scan.Field.TheVariants.{Version, Encoding, Standalone}
use Rattle.markup.specs.declared.scan.Position.{Position}
use Rattle.markup.specs.declared.scan.Scan.TheVariants.{CommentHyphen, CommentEnd, Fixed, TargetX, TargetXm, TargetXml}
use Rattle.markup.specs.declared.scan.Turn.TheVariants.{Goes, Whole, Stuck}
use Rattle.markup.proofs.CharLemmas.{hyphen_xml, question_xml, space_xml, space_no_question, word_chars, other_m, other_l, letter_u}
use Rattle.markup.proofs.Spans.{heads}
use Rattle.markup.proofs.Complete.{is_none_left, begins_so}
use Rattle.markup.proofs.NameSound.{on_if, at_char, drop_letter, drop_past}
use Rattle.markup.proofs.TagSound.{cons_same, spaced_more, spaced_none}
use Rattle.markup.proofs.Residuals.{Spaced, CommentRest, InstructionRest, TargetRest, spells, WordRest, is_value_of, FieldValueRest, FieldQuoted, FieldEqualled, FieldNamed, Rest, Then}

-- a comment's text with one more character before it
pub comment_more : (c : ℕ) (s : List ℕ) → is_xml_char c ≡ true → (c == 45) ≡ false → is_comment s ≡ true → is_comment (c ∷ s) ≡ true
comment_more c [] h k a = and_from _ _ h (not_from_false _ k)
comment_more c (d ∷ s) h k a = and_from _ _ (and_from _ _ h (not_from_false _ (and_left _ _ k))) a

comment_hyphen : (c : ℕ) (s : List ℕ) → is_xml_char c ≡ true → (c == 45) ≡ false → is_comment s ≡ true → is_comment (45 ∷ c ∷ s) ≡ true
comment_hyphen c s h k a = and_from _ _ (and_from _ _ hyphen_xml (not_from_false _ k)) (comment_more c s h k a)

-- an instruction's text with one more character before it
pub instruction_more : (c : ℕ) (s : List ℕ) → is_xml_char c ≡ true → (c == 63) ≡ false → is_instruction_text s ≡ true → is_instruction_text (c ∷ s) ≡ true
instruction_more c [] h k a = h
instruction_more c (d ∷ s) h k a = and_from _ _ (and_from _ _ h (not_from_false _ (and_left _ _ k))) a

pub instruction_mark : (c : ℕ) (s : List ℕ) → (c == 62) ≡ false → is_instruction_text (c ∷ s) ≡ true → is_instruction_text (63 ∷ c ∷ s) ≡ true
instruction_mark c s k a = and_from _ _ (and_from _ _ question_xml (not_from_false _ k)) a

module _ (W : Position → List ℕ → Type 0) where
  pub comment_text_sound : (c : ℕ) (w : List ℕ) → Then W w (comment_step CommentHyphen c) → CommentRest (c ∷ w)
  comment_text_sound c w h = on_if (Then W w) (c == 45) _ _ h
      (λ e r. at_char (λ d. CommentRest (d ∷ w)) c 45 e r)
      (λ n h. on_if (Then W w) (is_xml_char c) _ Stuck h
      (λ e r. record { chars = c ∷ r.chars; is = comment_more c r.chars e n r.is; text = ap (λ u. c ∷ u) r.text })
      (λ _ k. absurd k))

  pub comment_hyphen_sound : (c : ℕ) (w : List ℕ) → Then W w (comment_step CommentEnd c) → CommentRest (45 ∷ c ∷ w)
  comment_hyphen_sound c w h = on_if (Then W w) (c == 45) _ _ h
      (λ e r. record { chars = []; is = refl; text = ap (λ u. 45 ∷ u) (cons_same c 45 w (62 ∷ []) (eqb-true c 45 e) r) })
      (λ n h. on_if (Then W w) (is_xml_char c) _ Stuck h
      (λ e r. record { chars = 45 ∷ c ∷ r.chars; is = comment_hyphen c r.chars e n r.is; text = ap (λ u. 45 ∷ c ∷ u) r.text })
      (λ _ k. absurd k))

  pub fixed_sound : (word : Word) (at c : ℕ) (w : List ℕ) → Then W w (fixed_step word at c) → c ∷ w ≡ drop at (word_text word)
  fixed_sound word at c w h = by (letter_of word at) refl h where
    by : (o : Option ℕ) → letter_of word at ≡ o → Then W w (fixed_letter word at c o) → c ∷ w ≡ drop at (word_text word)
    by None e h = absurd h
    by (Some letter) e h = on_if (Then W w) (c == letter) _ Stuck h
        (λ f k. cons_same c letter w _ (eqb-true c letter f) (last (letter_of word (at + 1)) refl k) ∙ sym (drop_letter (word_text word) at letter e))
        (λ _ k. absurd k) where
          last : (o : Option ℕ) → letter_of word (at + 1) ≡ o → Then W w (if is_none o then Whole (fixed_ended word) else Goes (Fixed word (at + 1))) → w ≡ drop (at + 1) (word_text word)
          last None e k = k ∙ sym (drop_past (word_text word) (at + 1) e)
          last (Some l) e k = k

  pub instruction_sound : (c : ℕ) (w : List ℕ) → Then W w (instruction_step c) → InstructionRest (c ∷ w)
  instruction_sound c w h = on_if (Then W w) (c == 63) _ _ h
      (λ e r. at_char (λ d. InstructionRest (d ∷ w)) c 63 e r)
      (λ n h. on_if (Then W w) (is_xml_char c) _ Stuck h
      (λ e r. record { chars = c ∷ r.chars; is = instruction_more c r.chars e n r.is; text = ap (λ u. c ∷ u) r.text })
      (λ _ k. absurd k))

  -- a mark that ends no instruction
  marked : (c : ℕ) (w : List ℕ) → (c == 62) ≡ false → InstructionRest (c ∷ w) → InstructionRest (63 ∷ c ∷ w)
  marked c w n r = by r.chars r.is r.text where
    by : (s : List ℕ) → is_instruction_text s ≡ true → c ∷ w ≡ s ++ 63 ∷ 62 ∷ [] → InstructionRest (63 ∷ c ∷ w)
    by [] a e = record { chars = 63 ∷ []; is = question_xml; text = ap (λ u. 63 ∷ u) e }
    by (d ∷ s) a e = record { chars = 63 ∷ d ∷ s; is = instruction_mark d s (subst (λ (x : ℕ). (x == 62) ≡ false) (heads c d _ _ e) n) a; text = ap (λ u. 63 ∷ u) e }

  pub mark_sound : (c : ℕ) (w : List ℕ) → Then W w (mark_step c) → InstructionRest (63 ∷ c ∷ w)
  mark_sound c w h = on_if (Then W w) (c == 62) _ _ h
      (λ e r. record { chars = []; is = refl; text = ap (λ u. 63 ∷ u) (cons_same c 62 w [] (eqb-true c 62 e) r) })
      (λ n h. marked c w n (instruction_sound c w h))

  -- the rest of a target, from a character that stands in one
  pub target_sound : (bad : List ℕ → Bool) (c : ℕ) (w : List ℕ) → ((p : List ℕ) → bad (c ∷ p) ≡ false) → bad [] ≡ false → Then W w (target_step c) → TargetRest bad (c ∷ w)
  target_sound bad c w more none h = on_if (Then W w) (is_name_char c) _ _ h
      (λ e r. record { name = c ∷ r.name; chars = r.chars; are = and_from _ _ e r.are; good = more r.name; is = r.is; blank = r.blank; text = ap (λ u. c ∷ u) r.text })
      (λ _ h. on_if (Then W w) (is_space c) _ _ h
      (λ e r. record { name = []; chars = c ∷ r.chars; are = refl; good = none; is = instruction_more c r.chars (space_xml c e) (space_no_question c e) r.is; blank = e; text = ap (λ u. c ∷ u) r.text })
      (λ _ h. on_if (Then W w) (c == 63) _ Stuck h
      (λ e r. record { name = []; chars = []; are = refl; good = none; is = refl; blank = refl; text = cons_same c 63 w (62 ∷ []) (eqb-true c 63 e) r })
      (λ _ k. absurd k)))

  -- a letter of a word that targets may not be, in either case, and what is left then
  target_letter : (bad left : List ℕ → Bool) (c : ℕ) (w : List ℕ) → is_name_char c ≡ true → ((p : List ℕ) → left p ≡ false → bad (c ∷ p) ≡ false) → TargetRest left w → TargetRest bad (c ∷ w)
  target_letter bad left c w h k r = record { name = c ∷ r.name; chars = r.chars; are = and_from _ _ h r.are; good = k r.name r.good; is = r.is; blank = r.blank; text = ap (λ u. c ∷ u) r.text }

  pub target_xml_sound : (first : Bool) (c : ℕ) (w : List ℕ) → Then W w (target_xml_step first c) → Rest W (TargetXml first) (c ∷ w)
  target_xml_sound first c w h = on_if (Then W w) (is_name_char c) _ _ h
      (λ e r. inl (target_letter is_none_left (λ _. false) c w e (λ p k. refl) r))
      (λ _ h. on_if (Then W w) (first && is_space c) _ Stuck h
      (λ e r. inr ((and_parts _ _ e).0, record { first = c; more = w; is = (and_parts first _ e).1; text = refl; next = r }))
      (λ _ k. absurd k))

  pub target_xm_sound : (first : Bool) (c : ℕ) (w : List ℕ) → Then W w (target_xm_step first c) → Rest W (TargetXm first) (c ∷ w)
  target_xm_sound first c w h = on_if (Then W w) (c == 108) _ _ h
      (λ e r. low e r)
      (λ n h. on_if (Then W w) (c == 76) _ _ h
      (λ e r. up e r)
      (λ m h. inl (target_sound (begins_so 108 is_none_left) c w (λ p. and_left _ _ (other_l c n m)) refl h))) where
        low : (c == 108) ≡ true → Rest W (TargetXml first) w → Rest W (TargetXm first) (c ∷ w)
        low e (inl r) = inl (target_letter (begins_so 108 is_none_left) is_none_left c w (at_char (λ x. is_name_char x ≡ true) c 108 e word_chars.2) (λ p k. and_right _ _ k) r)
        low e (inr r) = inr (r.0, w, ap (λ x. x ∷ w) (eqb-true c 108 e), r.1)

        up : (c == 76) ≡ true → Rest W (TargetXml false) w → Rest W (TargetXm first) (c ∷ w)
        up e (inl r) = inl (target_letter (begins_so 108 is_none_left) is_none_left c w (at_char (λ x. is_name_char x ≡ true) c 76 e word_chars.3) (λ p k. and_right _ _ k) r)
        up e (inr r) = absurd (both_ways false refl r.0)

  pub target_x_sound : (first : Bool) (c : ℕ) (w : List ℕ) → Then W w (target_x_step first c) → Rest W (TargetX first) (c ∷ w)
  target_x_sound first c w h = on_if (Then W w) (c == 109) _ _ h
      (λ e r. low e r)
      (λ n h. on_if (Then W w) (c == 77) _ _ h
      (λ e r. up e r)
      (λ m h. inl (target_sound (begins_so 109 (begins_so 108 is_none_left)) c w (λ p. and_left _ _ (other_m c n m)) refl h))) where
        low : (c == 109) ≡ true → Rest W (TargetXm first) w → Rest W (TargetX first) (c ∷ w)
        low e (inl r) = inl (target_letter (begins_so 109 (begins_so 108 is_none_left)) (begins_so 108 is_none_left) c w (at_char (λ x. is_name_char x ≡ true) c 109 e word_chars.0) (λ p k. and_right _ _ k) r)
        low e (inr r) = inr (r.0, r.1, cons_same c 109 w (108 ∷ r.1) (eqb-true c 109 e) r.2, r.3)

        up : (c == 77) ≡ true → Rest W (TargetXm false) w → Rest W (TargetX first) (c ∷ w)
        up e (inl r) = inl (target_letter (begins_so 109 (begins_so 108 is_none_left)) (begins_so 108 is_none_left) c w (at_char (λ x. is_name_char x ≡ true) c 77 e word_chars.1) (λ p k. and_right _ _ k) r)
        up e (inr r) = absurd (both_ways false refl r.0)

  -- in a declaration
  pub declaration_gap_sound : (c : ℕ) (w : List ℕ) → Then W w (declaration_gap_step c) → Spaced (FieldNamed Version 0) (c ∷ w)
  declaration_gap_sound c w h = on_if (Then W w) (is_space c) _ _ h
      (λ e r. spaced_more (FieldNamed Version 0) c w e r)
      (λ _ h. on_if (Then W w) (c == 118) _ Stuck h
      (λ e r. spaced_none (FieldNamed Version 0) (c ∷ w) (record { after = r.after; text = cons_same c 118 w _ (eqb-true c 118 e) r.text; next = r.next }))
      (λ _ k. absurd k))

  pub field_before_sound : (f : Field) (c : ℕ) (w : List ℕ) → Then W w (field_before_step f c) → Spaced (FieldEqualled f) (c ∷ w)
  field_before_sound f c w h = on_if (Then W w) (is_space c) _ _ h
      (λ e r. spaced_more (FieldEqualled f) c w e r)
      (λ _ h. on_if (Then W w) (c == 61) _ Stuck h
      (λ e r. spaced_none (FieldEqualled f) (c ∷ w) (record { more = w; text = ap (λ x. x ∷ w) (eqb-true c 61 e); next = r }))
      (λ _ k. absurd k))

  pub field_name_sound : (f : Field) (at c : ℕ) (w : List ℕ) → Then W w (field_name_step f at c) → FieldNamed f at (c ∷ w)
  field_name_sound f at c w h = by (letter_of (name_word f) at) refl h where
    by : (o : Option ℕ) → letter_of (name_word f) at ≡ o → Then W w (field_letter f at c o) → FieldNamed f at (c ∷ w)
    by None e h = record { after = c ∷ w; text = ap (λ u. u ++ c ∷ w) (sym (drop_past (word_text (name_word f)) at e)); next = field_before_sound f c w h }
    by (Some letter) e h = on_if (Then W w) (c == letter) _ Stuck h
        (λ k r. record { after = r.after; text = cons_same c letter w _ (eqb-true c letter k) r.text ∙ ap (λ u. u ++ r.after) (sym (drop_letter (word_text (name_word f)) at letter e)); next = r.next })
        (λ _ k. absurd k)

  pub field_after_sound : (f : Field) (c : ℕ) (w : List ℕ) → Then W w (field_after_step f c) → Spaced (FieldQuoted f) (c ∷ w)
  field_after_sound f c w h = on_if (Then W w) (is_space c) _ _ h
      (λ e r. spaced_more (FieldQuoted f) c w e r)
      (λ _ h. on_if (Then W w) (c == 34 || c == 39) _ Stuck h
      (λ e r. spaced_none (FieldQuoted f) (c ∷ w) (record { quote = c; more = w; is = e; text = refl; next = r }))
      (λ _ k. absurd k))

  spells_none : (word : Word) → spells word [] []
  spells_none Utf8 = refl
  spells_none _ = refl

  spells_more : (word : Word) (letter c : ℕ) (ls cs : List ℕ) → fits_letter word letter c ≡ true → spells word ls cs → spells word (letter ∷ ls) (c ∷ cs)
  spells_more Utf8 letter c ls cs h k = cons_same (to_ascii_lowercase c) letter _ ls (eqb-true _ letter h) k
  spells_more _ letter c ls cs h k = cons_same c letter cs ls (eqb-true c letter h) k

  pub field_word_sound : (f : Field) (word : Word) (q at c : ℕ) (w : List ℕ) → Then W w (field_word_step f word q at c) → WordRest f word q at (c ∷ w)
  field_word_sound f word q at c w h = by (letter_of word at) refl h where
    by : (o : Option ℕ) → letter_of word at ≡ o → Then W w (field_word_letter f word q at c o) → WordRest f word q at (c ∷ w)
    by None e h = on_if (Then W w) (c == q) _ Stuck h
        (λ k r. record { chars = []; after = w; is = subst (λ u. spells word u []) (sym (drop_past (word_text word) at e)) (spells_none word); text = ap (λ x. x ∷ w) (eqb-true c q k); next = r })
        (λ _ k. absurd k)
    by (Some letter) e h = on_if (Then W w) (fits_letter word letter c) _ Stuck h
        (λ k r. record { chars = c ∷ r.chars; after = r.after; is = subst (λ u. spells word u (c ∷ r.chars)) (sym (drop_letter (word_text word) at letter e)) (spells_more word letter c _ r.chars k r.is); text = ap (λ u. c ∷ u) r.text; next = r.next })
        (λ _ k. absurd k)

  -- a value from its first letter on
  value_begun : (f : Field) (word : Word) (q c letter : ℕ) (w : List ℕ) → is_value_of f word ≡ true → drop 0 (word_text word) ≡ letter ∷ drop 1 (word_text word) → fits_letter word letter c ≡ true → WordRest f word q 1 w → FieldValueRest f q (c ∷ w)
  value_begun f word q c letter w h e k r = record { word = word; is = h; rest = record { chars = c ∷ r.chars; after = r.after; is = subst (λ u. spells word u (c ∷ r.chars)) (sym e) (spells_more word letter c _ r.chars k r.is); text = ap (λ u. c ∷ u) r.text; next = r.next } }

  pub field_value_sound : (f : Field) (q c : ℕ) (w : List ℕ) → Then W w (field_value_step f q c) → FieldValueRest f q (c ∷ w)
  field_value_sound Version q c w h = on_if (Then W w) (c == 49) _ Stuck h (λ e r. value_begun Version One q c 49 w refl refl e r) (λ _ k. absurd k)
  field_value_sound Encoding q c w h = on_if (Then W w) (c == 117 || c == 85) _ Stuck h (λ e r. value_begun Encoding Utf8 q c 117 w refl refl (letter_u c e) r) (λ _ k. absurd k)
  field_value_sound Standalone q c w h = on_if (Then W w) (c == 121) _ _ h
      (λ e r. value_begun Standalone Yes q c 121 w refl refl e r)
      (λ _ h. on_if (Then W w) (c == 110) _ Stuck h (λ e r. value_begun Standalone No q c 110 w refl refl e r) (λ _ k. absurd k))
