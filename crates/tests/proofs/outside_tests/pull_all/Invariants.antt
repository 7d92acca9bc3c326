-- The source has not ended, and did not fail.
use Rattle.std.proofs.Common.{IsTrue}
use Rattle.tests.proofs.outside_tests.pull_all.Given as goal

abbrev pub invariant-loop-call : goal.invariant-loop-call
invariant-loop-call g l = IsTrue (g.S.Source.may_be_pulled l.source)
