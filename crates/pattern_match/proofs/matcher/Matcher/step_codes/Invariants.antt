use Rattle.std.proofs.Common.{◌≡◌, List, ℕ, ◌++◌, length}
use Rattle.pattern_match.specs.Recall.{Matching}
use Rattle.pattern_match.specs.Compiled.{HasReadWord, IsMadeFor}
use Rattle.pattern_match.proofs.matcher.Matcher.step_codes.Given as goal

-- the codes but for the rest were read
pub record HasGoneOn (bytes : List ℕ) (old now : Matching) (codes rest : List ℕ) : Type 0 where
  pub seen : List ℕ
  pub joined : codes ≡ seen ++ rest
  pub made : IsMadeFor bytes now
  pub read : (w : List ℕ) → HasReadWord bytes old w → HasReadWord bytes now (w ++ seen)

abbrev pub invariant-loop-rest : goal.invariant-loop-rest
invariant-loop-rest l = HasGoneOn l.pattern l.initial.self l.self l.codes l.rest

abbrev pub decreases-loop-rest : goal.decreases-loop-rest
decreases-loop-rest l = length l.rest
