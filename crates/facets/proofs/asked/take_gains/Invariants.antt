use Rattle.std.proofs.Common.{◌≡◌, ℕ, List, ◌++◌, length}
use Rattle.pattern_match.specs.Recall.{Matching}
use Rattle.pattern_match.specs.Compiled.{HasReadWord, IsMadeFor}
use Rattle.data_types.specs.Collapsing.{HasCollapsed}
use Rattle.data_types.specs.declared.collapse.Collapse.{Collapse}
use Rattle.facets.proofs.asked.take_gains.Given as goal

-- the codes but for the rest were taken
pub record HasGoneOn (bytes : List ℕ) (from to : Collapse) (old now : Matching) (codes rest : List ℕ) : Type 0 where
  pub seen : List ℕ
  pub joined : codes ≡ seen ++ rest
  pub made : IsMadeFor bytes now
  pub takes : (text collapsed : List ℕ) → HasCollapsed from text collapsed → HasReadWord bytes old collapsed
      → (more : List ℕ) × HasCollapsed to (text ++ seen) more × HasReadWord bytes now more

abbrev pub invariant-loop-rest : goal.invariant-loop-rest
invariant-loop-rest l = HasGoneOn l.pattern l.initial.collapse l.collapse l.initial.matcher l.matcher l.codes l.rest

abbrev pub decreases-loop-rest : goal.decreases-loop-rest
decreases-loop-rest l = length l.rest
