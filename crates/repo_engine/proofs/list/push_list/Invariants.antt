-- The lines so far went through.
use Rattle.std.proofs.Common.{take}
use Rattle.std.specs.Prelude.{flat_map}
use Rattle.outside.specs.Pushes.{Pushes}
use Rattle.outside.proofs.Pushing.{done}
use Rattle.repo_engine.specs.Texts.{message_line}
use Rattle.repo_engine.proofs.list.push_list.Given as goal

abbrev pub invariant-loop-at : goal.invariant-loop-at
invariant-loop-at g l = Pushes g.O.Sink.held g.O.Sink.faults g.O.Sink.room l.fn.out l.out done (flat_map message_line (take l.at l.repository.messages))
