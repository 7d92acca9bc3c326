-- One message more is counted, if it has the identifier.
use Rattle.std.proofs.Common.{arith, sym, ◌∙◌}
use Rattle.reference_check.proofs.FoundMessages.{count_more, count_not}
use Rattle.reference_check.proofs.messages.message_count.Goals as goal
use Rattle.reference_check.proofs.messages.message_count.Goals.{then-is_some, else-is_some}

pub loop-at-preserved : goal.loop-at-preserved
loop-at-preserved c =
    elim c.if-is_some.branch [
      | then-is_some w ↦
          (let more = count_more c.args.id.now c.args.repository.now.messages c.loop-at.at c.named_at.result (omega arith) c.named_at.ensures.some (sym c.is_some.ensures ∙ w.if-is_some.true) in
          (omega arith, omega arith))
      | else-is_some w ↦
          (let same = count_not c.args.id.now c.args.repository.now.messages c.loop-at.at c.named_at.result (omega arith) c.named_at.ensures.none (sym c.is_some.ensures ∙ w.if-is_some.false) in
          (omega arith, omega arith))
    ]
