use Rattle.pattern_match.specs.Compiled.{IsMadeFor}
use Rattle.tests.proofs.pattern_match_tests.accepted.Given as goal

-- the matcher stays one of the pattern
abbrev pub invariant-loop-c : goal.invariant-loop-c
invariant-loop-c l = IsMadeFor l.pattern l.matcher
