-- A CDATA section stands inside the root, and what a `]` in it breaks.
use Rattle.std.proofs.Common.{◌≡◌, ℕ, Bool, true, false, not, ◌&&◌, ◌⊎◌, inl, inr, List, [], ◌∷◌, ◌++◌, reverse, Some, None, if◌then◌else◌, refl, sym, ◌∙◌, ap, subst, append_assoc}
use Rattle.std.specs.Char.{encode_utf8}
use Rattle.std.specs.Str.{encode_utf8_all}
use Rattle.std.proofs.lemmas.Bool.{both_ways, cases_Bool}
use Rattle.lexical_core.specs.declared.rule.Rule.TheVariants.{TextOutside}
use Rattle.markup.specs.Chars.{is_space}
use Rattle.markup.specs.Token.{Token, Mark, Declaration, Comment, Instruction, Opener, Closer, TypeDeclaration, Start, End, Refer, LineEnd, Character, token_bytes}
use Rattle.markup.specs.Marks.{in_cdata, stands, Front}
use Rattle.markup.specs.Faults.{is_outside, rule_of, IsClean}
use Rattle.markup.specs.inner.Drafts.{no_draft}
use Rattle.markup.specs.inner.ScanRuns.{At, Over, run, position, ended_of, draft_of, ends_itself}
use Rattle.markup.specs.inner.Tokenizers.{IsTokenOpen, SettlesOne, SettlesTwo}
use Rattle.markup.specs.inner.Inputs.{ReadsTokens, Any}
use Rattle.markup.specs.declared.scan.Scan.{Scan}
use Rattle.markup.specs.declared.scan.Scan.TheVariants.{Begin}
use Rattle.markup.specs.declared.scan.Ended.{Ended}
use Rattle.markup.specs.declared.draft.Draft.{Draft}
use Rattle.markup.specs.declared.tokenizer.Tokenizer.{Tokenizer}
use Rattle.markup.proofs.TokenKinds.{never_in}
use Rattle.markup.proofs.Complete.{complete}
use Rattle.markup.proofs.NoTokens.{Shorter, Longer, compare_texts, no_whole}
use Rattle.markup.proofs.InputLemmas.{reverse_snoc, clean_snoc, bracket_bytes}
use Rattle.markup.proofs.TokensBehind.{tokens_behind, behind}

-- where a CDATA section is open, so is an element
abbrev IsInside : List Token → Type 0
IsInside before = in_cdata before ≡ true → is_outside before ≡ false

inside_alone : (b : Bool) → (if b then Some TextOutside else None) ≡ None → b ≡ false
inside_alone true h = absurd (cc)
inside_alone false h = refl

-- a token that breaks no rule leaves it so: no tag stands in the section
still_inside : (before : List Token) (t : Token) (after : List ℕ) → stands before t after ≡ true → rule_of before t ≡ None → IsInside before → IsInside (t ∷ before)
still_inside before Opener after s c k = λ _. inside_alone (is_outside before) c
still_inside before Closer after s c k = λ h. absurd (both_ways false refl h)
still_inside before (Start t) after s c k = λ h. absurd (both_ways (in_cdata before) (never_in (in_cdata before) _ s).0 h)
still_inside before (End n g) after s c k = λ h. absurd (both_ways (in_cdata before) (never_in (in_cdata before) _ s).0 h)
still_inside before Mark after s c k = k
still_inside before (Declaration fs g) after s c k = k
still_inside before (Comment v) after s c k = k
still_inside before (Instruction p v) after s c k = k
still_inside before TypeDeclaration after s c k = k
still_inside before (Refer r) after s c k = k
still_inside before (LineEnd l) after s c k = k
still_inside before (Character x) after s c k = k

inside_past : (limit : ℕ) (before ts : List Token) (b rest : List ℕ) → Front limit before b ts rest → IsClean before ts → IsInside before → IsInside (tokens_behind before ts)
inside_past limit before [] b rest f c k = k
inside_past limit before (t ∷ ts) b rest f c k = inside_past limit (t ∷ before) ts f.0 rest f.3 c.1 (still_inside before t f.0 f.1.is c.0 k)

-- behind tokens that break no rule a CDATA section stands inside the root
pub cdata_inside : (limit : ℕ) (ts : List Token) (b rest : List ℕ) → Front limit [] b ts rest → IsClean [] ts → in_cdata (reverse ts) ≡ true → is_outside (reverse ts) ≡ false
cdata_inside limit ts b rest f c = subst IsInside (sym (behind ts)) (inside_past limit [] ts b rest f c (λ h. absurd (both_ways false refl h)))

-- a `]` inside the root breaks no rule
pub bracket_clean : (before : List Token) → is_outside before ≡ false → rule_of before (Character 93) ≡ None
bracket_clean before h = by (is_space 93) (is_outside before) h where
  by : (s o : Bool) → o ≡ false → (if s then None else (if o then Some TextOutside else None)) ≡ None
  by true o h = refl
  by false true h = absurd (both_ways true h refl)
  by false false h = refl

-- a `]` that waits for what follows it stands in a CDATA section
pub waits_in_cdata : {limit : ℕ} (z : Tokenizer) (before : List Token) (bytes rest after : List ℕ) → IsTokenOpen limit z before bytes → bytes ≡ token_bytes (Character 93) ++ rest → stands before (Character 93) after ≡ true → in_cdata before ≡ true
waits_in_cdata z before bytes rest after o e s = by (cases_Bool (in_cdata before)) where
  not_over : (s : Scan) (d f : Draft) (k : Ended) (w : List ℕ) → At s d ≡ Over k f w → ⊥
  not_over s d f k w h = cc

  ends : in_cdata before ≡ false → ends_itself (in_cdata before) (Character 93) ≡ true
  ends h = ap (λ (b : Bool). not (b && true)) h

  outside : in_cdata before ≡ false → Shorter o.chars (93 ∷ []) o.part rest ⊎ Longer o.chars (93 ∷ []) o.part rest → ⊥
  outside h (inl r) = not_over z.scan z.draft (draft_of (Character 93)) (ended_of (Character 93)) r.more
      (sym o.scan_is ∙ (ap (run (Begin (position before)) no_draft) r.text ∙ complete before (Character 93) after r.more s (ends h)))
  outside h (inr r) = no_whole o.part (encode_utf8_all r.more ++ rest) r.next o.front (r.behind ∙ append_assoc (encode_utf8 r.next) (encode_utf8_all r.more) rest)

  by : (in_cdata before ≡ true) ⊎ (in_cdata before ≡ false) → in_cdata before ≡ true
  by (inl h) = h
  by (inr h) = absurd (outside h (compare_texts o.chars (93 ∷ []) o.part rest (sym o.bytes_are ∙ e)))

module _ {limit : ℕ} (old new : Tokenizer) (input : List ℕ) (ts : List Token) (byte : ℕ) (r : ReadsTokens limit Any old input ts) (c : IsClean [] ts) where
  inside : in_cdata (reverse ts) ≡ true → is_outside (reverse ts) ≡ false
  inside = cdata_inside limit ts (input ++ []) (r.bytes ++ []) (r.front [] tt) c

  -- a `]` that the next byte settles breaks no rule
  pub settled_clean : SettlesOne limit new (reverse ts) r.bytes byte (Character 93) → IsClean [] (ts ++ Character 93 ∷ [])
  settled_clean k = clean_snoc ts (Character 93) c (bracket_clean (reverse ts) (inside (waits_in_cdata old (reverse ts) r.bytes k.rest (k.rest ++ byte ∷ []) r.opens k.bytes_are (k.is []))))

  -- nor do two of them
  pub settled_two_clean : SettlesTwo limit new (reverse ts) r.bytes byte → IsClean [] (ts ++ Character 93 ∷ Character 93 ∷ [])
  settled_two_clean k =
      subst (λ v. IsClean [] v) (append_assoc ts (Character 93 ∷ []) (Character 93 ∷ []))
      (clean_snoc (ts ++ Character 93 ∷ []) (Character 93) (clean_snoc ts (Character 93) c (bracket_clean (reverse ts) here))
      (subst (λ b. rule_of b (Character 93) ≡ None) (sym (reverse_snoc ts (Character 93))) (bracket_clean (Character 93 ∷ reverse ts) here))) where
        here : is_outside (reverse ts) ≡ false
        here = inside (waits_in_cdata old (reverse ts) r.bytes (93 ∷ []) (93 ∷ byte ∷ []) r.opens (k.bytes_are ∙ ap (λ v. v ++ 93 ∷ []) (sym bracket_bytes)) (k.first []))
