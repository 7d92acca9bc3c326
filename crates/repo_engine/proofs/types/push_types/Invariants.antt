-- The lines so far went through.
use Rattle.std.proofs.Common.{take}
use Rattle.outside.specs.Pushes.{Pushes}
use Rattle.outside.proofs.Pushing.{done}
use Rattle.repo_engine.specs.Texts.{types_text}
use Rattle.repo_engine.proofs.types.push_types.Given as goal

abbrev pub invariant-loop-number : goal.invariant-loop-number
invariant-loop-number g l = Pushes g.O.Sink.held g.O.Sink.faults g.O.Sink.room l.fn.out l.out done (types_text 0 (take l.number l.model.types))
