use Rattle.std.proofs.Common.{subst, ap, ◌∙◌, ◌*◌, ℕ, replicate}
use Rattle.outside.specs.Pushes.{Pushes}
use Rattle.xsd_writer.proofs.Spaces.{spaces_times}
use Rattle.xsd_writer.proofs.segment.push_indent.Goals as goal

pub returns : goal.returns
returns g c =
    subst (λ t. Pushes g.O.Sink.held g.O.Sink.faults g.O.Sink.room c.args.sink.now c.push_times.new.sink c.push_times.result t)
    (spaces_times 2 c.from.result ∙ (let s : ℕ = 32 in ap (λ n. replicate (2 * n) s) c.from.ensures)) c.push_times.ensures
