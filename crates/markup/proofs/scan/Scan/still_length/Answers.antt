use Rattle.std.proofs.Common.{sym, subst, ap, ◌∙◌, take, arith}
use Rattle.markup.specs.inner.Inside.{IsStill}
use Rattle.markup.specs.declared.scan.Scan.TheVariants.{Value}
use Rattle.markup.proofs.InsideRuns.{value_still, comment_still, instruction_still}
use Rattle.markup.proofs.scan.Scan.still_length.Goals as goal

pub returns-else-after_return-clause-still : goal.returns-else-after_return-clause-still
returns-else-after_return-clause-still c = subst (λ s. IsStill s (take c.value_length.result c.args.piece.now)) (sym (c.in-Value.is ∙ ap (λ b. Value c.in-Value.quote b) c.if-after_return.false))
    (value_still c.in-Value.quote c.args.piece.now c.value_length.result (omega (arith, c.value_length.ensures.count)))

pub returns-in-CommentText-clause-still : goal.returns-in-CommentText-clause-still
returns-in-CommentText-clause-still c = subst (λ s. IsStill s (take c.comment_length.result c.args.piece.now)) (sym c.in-CommentText.is) (comment_still c.args.piece.now c.comment_length.result (omega (arith, c.comment_length.ensures.count)))

pub returns-in-InstructionText-clause-still : goal.returns-in-InstructionText-clause-still
returns-in-InstructionText-clause-still c = subst (λ s. IsStill s (take c.instruction_length.result c.args.piece.now)) (sym c.in-InstructionText.is) (instruction_still c.args.piece.now c.instruction_length.result (omega (arith, c.instruction_length.ensures.count)))
