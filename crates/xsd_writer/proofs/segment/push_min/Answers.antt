use Rattle.std.proofs.Common.{subst}
use Rattle.outside.specs.Pushes.{Pushes}
use Rattle.xsd_writer.proofs.Occurrences.{min_written}
use Rattle.xsd_writer.proofs.segment.push_min.Goals as goal

pub returns : goal.returns
returns g c =
    subst (λ t. Pushes g.O.Sink.held g.O.Sink.faults g.O.Sink.room c.args.sink.now c.push_quoted.new.sink c.push_quoted.result t)
    (min_written c.args.min c.from.result c.if-min-eq1.false c.from.ensures) c.push_quoted.ensures
