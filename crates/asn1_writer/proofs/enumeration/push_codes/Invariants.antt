-- The lines so far went through.
use Rattle.std.proofs.Common.{take}
use Rattle.outside.specs.Pushes.{Pushes}
use Rattle.outside.proofs.Pushing.{done}
use Rattle.asn1_model.specs.ModuleText.{code_line, lines_from}
use Rattle.asn1_writer.proofs.enumeration.push_codes.Given as goal

abbrev pub invariant-loop-at : goal.invariant-loop-at
invariant-loop-at g l = Pushes g.O.Sink.held g.O.Sink.faults g.O.Sink.room l.fn.sink l.sink done (lines_from code_line 0 (take l.at l.names))
