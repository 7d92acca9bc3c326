-- The texts so far went through.
use Rattle.std.proofs.Common.{take}
use Rattle.std.specs.Prelude.{flat_map}
use Rattle.outside.specs.Pushes.{Pushes}
use Rattle.outside.proofs.Pushing.{done}
use Rattle.outside.proofs.render.render_all.Given as goal

abbrev pub invariant-loop-text : goal.invariant-loop-text
invariant-loop-text g l = Pushes g.O.Sink.held g.O.Sink.faults g.O.Sink.room l.fn.sink l.sink done (flat_map g.T.Render.rendered (take l.text-index l.texts))
