-- Four spaces for each step, and then two for each further level.
use Rattle.std.proofs.Common.{ℕ, ◌+◌, ◌∙◌, ◌++◌, ap, replicate, subst}
use Rattle.outside.specs.Pushes.{Pushes}
use Rattle.outside.proofs.Pushing.{stopped, then_push, fails_push}
use Rattle.xsd_writer.specs.inner.NumberedTexts.{texts_below}
use Rattle.xsd_writer.proofs.Spaces.{spaces_inside}
use Rattle.xsd_writer.proofs.segment.push_inside.Goals as goal

pub returns-in-Ok : goal.returns-in-Ok
returns-in-Ok g c =
    let s : ℕ = 32 in
    let steps = texts_below (λ _. replicate 4 s) c.args.steps in
    let levels = λ (more : ℕ). texts_below (λ _. replicate 2 s) (more + 2) in
    subst (λ t. Pushes g.O.Sink.held g.O.Sink.faults g.O.Sink.room c.args.sink.now c.push_times-in-Ok.new.sink c.push_times-in-Ok.result t)
    (ap (λ more. steps ++ levels more) c.from.ensures ∙ spaces_inside c.args.steps c.args.more)
    (then_push g.O.Sink.held g.O.Sink.faults g.O.Sink.room c.args.sink.now c.push_times.new.sink c.push_times-in-Ok.new.sink c.push_times-in-Ok.result steps (levels c.from.result)
    c.in-Ok.ensures c.push_times-in-Ok.ensures)

pub returns-in-Err : goal.returns-in-Err
returns-in-Err g c =
    let s : ℕ = 32 in
    let steps = texts_below (λ _. replicate 4 s) c.args.steps in
    let levels = texts_below (λ _. replicate 2 s) (c.args.more + 2) in
    subst (λ t. Pushes g.O.Sink.held g.O.Sink.faults g.O.Sink.room c.args.sink.now c.push_times.new.sink (stopped c.in-Err.error) t) (spaces_inside c.args.steps c.args.more)
    (fails_push g.O.Sink.held g.O.Sink.faults g.O.Sink.room c.args.sink.now c.push_times.new.sink c.in-Err.error steps levels c.in-Err.ensures)
