-- What is so where no pieces are kept: no judge of a text gives a leaf.
use Rattle.std.specs.Prelude.{◌≡◌, ℕ, List, ◌∷◌, Option, Some, None, slice_get}
use Rattle.std.specs.Global.{Box}
use Rattle.facets.specs.LeafVerdicts.{IsFreeText}
use Rattle.xml_instances.specs.Levels.{Level, Leaf}
use Rattle.xml_instances.specs.declared.judge.Judge.{Judge}
use Rattle.xml_instances.specs.declared.judge.Judge.TheVariants.{Check, Verdict}
use Rattle.xml_instances.specs.declared.spare.Checks.{Checks}
use Rattle.xml_instances.specs.declared.content.OpenText.{OpenText}
use Rattle.xml_instances.specs.declared.content.Content.{Content}

-- it tells no more than whether there is a leaf
abbrev pub IsVerdictJudge : Judge → Type 0
IsVerdictJudge (Check check) = ⊥
IsVerdictJudge (Verdict verdict) = Unit {0}

-- so of a judge that is given, of one that is open, and of all that are kept
abbrev pub IsGivenVerdict : Option (Box Judge) → Type 0
IsGivenVerdict None = Unit {0}
IsGivenVerdict (Some judge) = IsVerdictJudge judge.value

abbrev pub IsTextVerdict : Option OpenText → Type 0
IsTextVerdict None = Unit {0}
IsTextVerdict (Some t) = IsVerdictJudge t.judge.value

abbrev pub AreVerdicts : Checks → Type 0
AreVerdicts checks = (n : ℕ) (judge : Box Judge) → slice_get checks.entries.items n ≡ Some (Some judge) → IsVerdictJudge judge.value

-- no pieces are kept, and all judges are such
pub record IsLean (content : Content) : Type 0 where
  pub bare : content.pieces ≡ None
  pub kept : AreVerdicts content.checks
  pub text : IsTextVerdict content.text

-- the innermost of these elements has a text without codes
abbrev pub HasFreeText : List (Level ℕ) → Type 0
HasFreeText (Leaf simple text ∷ ls) = IsFreeText simple
HasFreeText ls = ⊥
