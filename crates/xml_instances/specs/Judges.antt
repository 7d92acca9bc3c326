-- What judges the text of a leaf.
use Rattle.std.specs.Prelude.{◌≡◌, ℕ, ◌+◌, List, []}
use Rattle.facets.specs.declared.simple.Simple.{Simple}
use Rattle.facets.specs.LeafChecks as checks
use Rattle.facets.specs.LeafVerdicts as verdicts
use Rattle.xml_instances.specs.declared.judge.Judge.{Judge}
use Rattle.xml_instances.specs.declared.judge.Judge.TheVariants.{Check, Verdict}

-- it is one for the simple type, and was given these characters since it was made or begun anew
abbrev pub HasJudgeTaken : Judge → Simple → List ℕ → Type 0
HasJudgeTaken (Check check) simple text = checks.HasCheckTaken check simple text
HasJudgeTaken (Verdict verdict) simple text = verdicts.HasVerdictTaken verdict simple text

-- it was made for the simple type
abbrev pub IsJudgeMadeFor : Judge → Simple → Type 0
IsJudgeMadeFor judge simple = (text : List ℕ) × HasJudgeTaken judge simple text

-- how many bytes it keeps in memory
abbrev pub kept_by_judge : Judge → ℕ
kept_by_judge (Check check) = checks.check_kept check
kept_by_judge (Verdict verdict) = verdicts.verdict_kept verdict

-- it was given no character since it was made or begun anew, and keeps no byte in memory
pub record IsUnused (judge : Judge) : Type 0 where
  pub taken : (simple : Simple) × HasJudgeTaken judge simple []
  pub kept : kept_by_judge judge ≡ 0

-- how many bytes it holds, in memory and in place
abbrev pub held_by_judge : Judge → ℕ
held_by_judge (Check check) = checks.check_kept check + checks.check_in_place check
held_by_judge (Verdict verdict) = verdicts.verdict_kept verdict + verdicts.verdict_in_place verdict
