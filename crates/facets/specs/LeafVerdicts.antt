-- What the check that tells no more than a verdict keeps of the characters that it was given.
use Rattle.std.specs.Prelude.{◌≡◌, ℕ, List, Option, Some, None, Result, MatchResult}
use Rattle.lexical_core.specs.declared.rule.Rule.{Rule}
use Rattle.data_types.specs.Leaf.{Leaf}
use Rattle.data_types.specs.LeafSteps.{kept_by_step as kept_by, in_place as in_place_of, room as room_of, spare as spare_of}
use Rattle.data_types.specs.declared.kind.Kind.{Kind}
use Rattle.data_types.specs.declared.kind.Kind.TheVariants as kind
use Rattle.facets.specs.declared.leaf_verdict.LeafVerdict.{LeafVerdict}
use Rattle.facets.specs.declared.simple.Simple.{Simple}
use Rattle.facets.specs.Rules.{BreaksFirst}
use Rattle.facets.specs.LeafUnder.{GivesLeaf}
use Rattle.facets.specs.LeafChecks.{HasSeen, limit_by}

-- a simple type of texts without codes
abbrev pub IsFreeText : Simple → Type 0
IsFreeText simple = (simple.kind ≡ kind.Text) × (simple.codes ≡ None)

-- the most characters of a text, or octets of a binary value, that are kept: none of a text without codes, and none of a binary value
abbrev pub verdict_limit_by : Kind → Option ℕ → Option (List (List ℕ)) → Option ℕ
verdict_limit_by kind.Text most None = Some 0
verdict_limit_by kind.Binary most codes = Some 0
verdict_limit_by k most codes = limit_by k most codes

abbrev pub verdict_limit : Simple → Option ℕ
verdict_limit simple = verdict_limit_by simple.kind simple.max simple.codes

-- the check is one for the simple type, and was given these characters since it was made or begun anew
pub record HasVerdictTaken (check : LeafVerdict) (simple : Simple) (text : List ℕ) : Type 0 where
  pub seen : HasSeen check.progress (verdict_limit simple) simple text

-- the check was made for the simple type
abbrev pub IsVerdictMadeFor : LeafVerdict → Simple → Type 0
IsVerdictMadeFor check simple = (text : List ℕ) × HasVerdictTaken check simple text

-- how many bytes a check keeps in memory
abbrev pub verdict_kept : LeafVerdict → ℕ
verdict_kept check = kept_by check.progress.step

-- how many it holds in place
abbrev pub verdict_in_place : LeafVerdict → ℕ
verdict_in_place check = in_place_of check.progress.step

-- how many it may keep without asking for memory
abbrev pub verdict_room : LeafVerdict → ℕ
verdict_room check = room_of check.progress.step

-- how many more it may keep without asking for memory
abbrev pub verdict_spare : LeafVerdict → ℕ
verdict_spare check = spare_of check.progress.step

-- what is told of the characters: that they spell a leaf, or the least rule that they break
abbrev pub IsVerdict : {T : Type 0} → Simple → List ℕ → Result T Rule → Type 0
IsVerdict simple text result = MatchResult result (λ _. (leaf : Leaf) × GivesLeaf simple text leaf) (λ rule. BreaksFirst simple text rule)
