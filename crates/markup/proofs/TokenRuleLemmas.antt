-- What a token breaks, tells and changes, by what the scan says of it.
use Rattle.std.proofs.Common.{◌≡◌, ℕ, Bool, true, false, List, [], ◌∷◌, refl, sym, ◌∙◌, ap}
use Rattle.markup.specs.Token.{Token, Mark, Declaration, Comment, Instruction, Opener, Closer, TypeDeclaration, Start, End, Refer, LineEnd, Character}
use Rattle.markup.specs.Marks.{in_cdata, is_first}
use Rattle.markup.specs.Events.{open_tags, items_of}
use Rattle.markup.specs.Faults.{is_over, behind_brackets, rule_of}
use Rattle.markup.specs.inner.ScanRuns.{position, placed_by, ended_of, draft_of}
use Rattle.markup.specs.inner.Tokenizers.{IsTokenOpen}
use Rattle.markup.specs.inner.TokenRules.{rule_by, items_by, tags_by, is_cdata}
use Rattle.markup.specs.declared.draft.Draft.{Draft}
use Rattle.markup.specs.declared.scan.Ended.{Ended}
use Rattle.markup.specs.declared.tokenizer.Tokenizer.{Tokenizer}
use Rattle.markup.proofs.TokenKinds.{first_outside}

rule_is : (before : List Token) (t : Token) → rule_of before t ≡ rule_by (in_cdata before) (is_over before) (open_tags before) (behind_brackets before) (ended_of t) (draft_of t)
rule_is before Mark = refl
rule_is before (Declaration fs g) = refl
rule_is before (Comment s) = refl
rule_is before (Instruction p s) = refl
rule_is before Opener = refl
rule_is before Closer = refl
rule_is before TypeDeclaration = refl
rule_is before (Start t) = refl
rule_is before (End n g) = refl
rule_is before (Refer r) = refl
rule_is before (LineEnd l) = refl
rule_is before (Character c) = refl

items_are : (before : List Token) (t : Token) → items_of before t ≡ items_by (open_tags before) (ended_of t) (draft_of t)
items_are before Mark = refl
items_are before (Declaration fs g) = refl
items_are before (Comment s) = refl
items_are before (Instruction p s) = refl
items_are before Opener = refl
items_are before Closer = refl
items_are before TypeDeclaration = refl
items_are before (Start t) = refl
items_are before (End n g) = refl
items_are before (Refer r) = refl
items_are before (LineEnd l) = refl
items_are before (Character c) = refl

tags_are : (before : List Token) (t : Token) → open_tags (t ∷ before) ≡ tags_by (open_tags before) (ended_of t) (draft_of t)
tags_are before Mark = refl
tags_are before (Declaration fs g) = refl
tags_are before (Comment s) = refl
tags_are before (Instruction p s) = refl
tags_are before Opener = refl
tags_are before Closer = refl
tags_are before TypeDeclaration = refl
tags_are before (Start t) = refl
tags_are before (End n g) = refl
tags_are before (Refer r) = refl
tags_are before (LineEnd l) = refl
tags_are before (Character c) = refl

-- the place of the next token tells whether a CDATA section is open
pub in_cdata-position : (before : List Token) → in_cdata before ≡ is_cdata (position before)
in_cdata-position [] = refl
in_cdata-position (t ∷ before) = by (is_first (t ∷ before)) (in_cdata (t ∷ before)) (first_outside (t ∷ before)) where
  by : (f g : Bool) → (f ≡ true → g ≡ false) → g ≡ is_cdata (placed_by f g)
  by true g h = h refl
  by false true h = refl
  by false false h = refl

pub in_cdata-open : {limit : ℕ} (z : Tokenizer) (before : List Token) (bytes : List ℕ) → IsTokenOpen limit z before bytes → in_cdata before ≡ is_cdata z.position
in_cdata-open z before bytes o = in_cdata-position before ∙ ap is_cdata (sym o.position_is)

-- a token of which the scan says this
module _ (before : List Token) (t : Token) (e : Ended) (p : ended_of t ≡ e) where
  module _ (d : Draft) (q : draft_of t ≡ d) where
    pub rule_ended : rule_of before t ≡ rule_by (in_cdata before) (is_over before) (open_tags before) (behind_brackets before) e d
    rule_ended = rule_is before t ∙ (ap (λ (x : Ended). rule_by (in_cdata before) (is_over before) (open_tags before) (behind_brackets before) x (draft_of t)) p ∙ ap (rule_by (in_cdata before) (is_over before) (open_tags before) (behind_brackets before) e) q)

    pub items_ended : items_of before t ≡ items_by (open_tags before) e d
    items_ended = items_are before t ∙ (ap (λ (x : Ended). items_by (open_tags before) x (draft_of t)) p ∙ ap (items_by (open_tags before) e) q)

    pub tags_ended : open_tags (t ∷ before) ≡ tags_by (open_tags before) e d
    tags_ended = tags_are before t ∙ (ap (λ (x : Ended). tags_by (open_tags before) x (draft_of t)) p ∙ ap (tags_by (open_tags before) e) q)
