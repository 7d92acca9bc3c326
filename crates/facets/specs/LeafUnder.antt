-- The leaf that characters spell under a simple type, or the least rule that they break; the canonical text of a leaf, and when a leaf fits.
use Rattle.std.specs.Prelude.{◌≡◌, ◌⊎◌, ℕ, ◌≤◌, List, length, Option, Some, Result, Ok, Err, MatchOption, MatchResult, slice_get, encode_utf8_all}
use Rattle.std.specs.List.{AllByRecursion}
use Rattle.lexical_core.specs.Characters.{IsXmlChar, IsXmlText}
use Rattle.lexical_core.specs.declared.rule.Rule.{Rule}
use Rattle.lexical_core.specs.declared.rule.Rule.TheVariants.{NotACode}
use Rattle.data_types.specs.Leaf.{Leaf, Code, IsLeaf}
use Rattle.data_types.specs.LeafAnswers.{leaf_of}
use Rattle.data_types.specs.Canonical.{IsCanonicalLeaf}
use Rattle.data_types.specs.declared.leaf.LeafRef.{LeafRef}
use Rattle.data_types.specs.declared.kind.Kind.{Kind}
use Rattle.data_types.specs.declared.kind.Kind.TheVariants as kind
use Rattle.facets.specs.declared.simple.Simple.{Simple}
use Rattle.facets.specs.CodeLists.{AreSorted}
use Rattle.facets.specs.Rules.{BreaksLeafRule, BreaksFirst}

-- the codes of the simple type, where there are any, are sorted
abbrev pub HasSortedCodes : Simple → Type 0
HasSortedCodes simple = MatchOption simple.codes (Unit {0}) (λ codes. AreSorted codes)

-- each of the codes is a text of XML: any other fits nothing and breaks no rule
abbrev pub HasXmlCodes : Simple → Type 0
HasXmlCodes simple = MatchOption simple.codes (Unit {0}) (λ codes. AllByRecursion IsXmlText codes)

-- the characters are the text of the code at this place, counted from 0
abbrev pub IsCodeAt : List (List ℕ) → List ℕ → Leaf → Type 0
IsCodeAt codes text (Code place) = AllByRecursion IsXmlChar text × (slice_get codes place ≡ Some (encode_utf8_all text))
IsCodeAt codes text leaf = ⊥

-- the leaf of the characters by itself: of a text where there are codes the place of the code, and else that of the kind
abbrev pub IsLeafBy : Kind → Option (List (List ℕ)) → List ℕ → Leaf → Type 0
IsLeafBy kind.Text (Some codes) text leaf = IsCodeAt codes text leaf
IsLeafBy k codes text leaf = IsLeaf k text leaf

-- the characters spell this leaf, and break no rule
pub record GivesLeaf (simple : Simple) (text : List ℕ) (leaf : Leaf) : Type 0 where
  pub spelled : IsLeafBy simple.kind simple.codes text leaf
  pub sound : (rule : Rule) → BreaksLeafRule simple text rule → ⊥

-- what the characters are under the simple type: the leaf that they spell, or the least rule that they break
abbrev pub LeafUnder : Simple → List ℕ → Result Leaf Rule → Type 0
LeafUnder simple text (Ok leaf) = GivesLeaf simple text leaf
LeafUnder simple text (Err rule) = BreaksFirst simple text rule

-- the same of an answer that refers to the leaf
abbrev pub IsAnswer : Simple → List ℕ → Result LeafRef Rule → Type 0
IsAnswer simple text result = MatchResult result (λ leaf. GivesLeaf simple text (leaf_of leaf)) (λ rule. BreaksFirst simple text rule)

-- the characters are the canonical text of the leaf: of the number of a code the text of the code, and of every other leaf that of its kind
abbrev pub IsCanonicalBy : Kind → Option (List (List ℕ)) → Leaf → List ℕ → Type 0
IsCanonicalBy kind.Text (Some codes) (Code place) text = IsCodeAt codes text (Code place)
IsCanonicalBy k codes leaf text = IsCanonicalLeaf k leaf text

-- the characters are the canonical text of the leaf under the simple type
abbrev pub IsCanonicalUnder : Simple → Leaf → List ℕ → Type 0
IsCanonicalUnder simple leaf text = IsCanonicalBy simple.kind simple.codes leaf text

-- a leaf fits: its canonical text spells it
abbrev pub Fits : Simple → Leaf → Type 0
Fits simple leaf = (text : List ℕ) × IsCanonicalUnder simple leaf text × GivesLeaf simple text leaf

-- the leaf is the number of no code
abbrev pub IsNoCode : Kind → Option (List (List ℕ)) → Leaf → Type 0
IsNoCode kind.Text (Some codes) (Code place) = length codes ≤ place
IsNoCode k codes (Code place) = Unit {0}
IsNoCode k codes leaf = ⊥

-- a leaf does not fit, and this is its rule: the one that its canonical text breaks; the number of no code has no text, and breaks NotACode
abbrev pub BreaksAs : Simple → Leaf → Rule → Type 0
BreaksAs simple leaf rule =
    ((text : List ℕ) × IsCanonicalUnder simple leaf text × BreaksFirst simple text rule)
    ⊎ (IsNoCode simple.kind simple.codes leaf × (rule ≡ NotACode))

-- what a check of a leaf answers, of one of the sort that the simple type has
abbrev pub Judges : {T : Type 0} → Simple → Leaf → Result T Rule → Type 0
Judges simple leaf result = MatchResult result (λ _. Fits simple leaf) (λ rule. BreaksAs simple leaf rule)
