-- The rest of the text is still to come.
use Rattle.std.proofs.Common.{length}
use Rattle.outside.proofs.PushedFronts.{IsPushedTo}
use Rattle.asn1_model.specs.ModuleText.{comment_text}
use Rattle.asn1_writer.proofs.comment.push_comment.Given as goal

abbrev pub invariant-loop-rest : goal.invariant-loop-rest
invariant-loop-rest g l = IsPushedTo g.O.Sink.held g.O.Sink.faults g.O.Sink.room l.fn.sink l.sink (comment_text l.fn.text) (comment_text l.rest)

abbrev pub decreases-loop-rest : goal.decreases-loop-rest
decreases-loop-rest g l = length l.rest
