use Rattle.std.proofs.Common.{subst, ap, sym, ◌∙◌}
use Rattle.outside.specs.Pushes.{Pushes}
use Rattle.xsd_model.specs.SchemaText.{max_text}
use Rattle.xsd_writer.proofs.Occurrences.{max_written}
use Rattle.xsd_writer.proofs.segment.push_max.Goals as goal

pub returns-in-None : goal.returns-in-None
returns-in-None g c = rw c.in-None.is c.push_bytes.ensures.push

pub returns-else-max-eq1 : goal.returns-else-max-eq1
returns-else-max-eq1 g c =
    subst (λ t. Pushes g.O.Sink.held g.O.Sink.faults g.O.Sink.room c.args.sink.now c.push_quoted.new.sink c.push_quoted.result t)
    (max_written c.in-Some.max c.from.result c.if-max-eq1.false c.from.ensures ∙ ap max_text (sym c.in-Some.is)) c.push_quoted.ensures
