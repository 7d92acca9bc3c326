use Rattle.std.proofs.Common.{arith}
use Rattle.reference_check.proofs.SearchAnswers.{free_one_more, read}
use Rattle.reference_check.proofs.finite.first_blocked.Goals as goal

pub loop-at-preserved : goal.loop-at-preserved
loop-at-preserved c =
    free_one_more c.args.repository.now.objects c.args.marks.now c.args.elements.now c.args.from c.loop-at.at c.index-elements-at.result
    (read c.args.elements.now c.loop-at.at c.index-elements-at.result (omega arith) c.index-elements-at.is) c.if-not-is_free.ensures c.loop-at.invariant
