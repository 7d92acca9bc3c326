use Rattle.std.proofs.Common.{subst, flat_map}
use Rattle.outside.specs.Pushes.{Pushes}
use Rattle.outside.specs.Parts.{part_text}
use Rattle.repo_engine.proofs.refusal.push_rule.Goals as goal

pub returns : goal.returns
returns g c = subst (λ parts. Pushes g.O.Sink.held g.O.Sink.faults g.O.Sink.room c.args.sink.now c.render_all.new.sink c.render_all.result (flat_map part_text parts)) c.as_slice.ensures c.render_all.ensures
