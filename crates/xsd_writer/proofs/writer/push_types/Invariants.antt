-- The types so far went through.
use Rattle.std.proofs.Common.{take}
use Rattle.std.specs.Prelude.{flat_map}
use Rattle.outside.specs.Pushes.{Pushes}
use Rattle.outside.proofs.Pushing.{done}
use Rattle.xsd_model.specs.SchemaText.{type_text}
use Rattle.xsd_writer.proofs.writer.push_types.Given as goal

abbrev pub invariant-loop-definition : goal.invariant-loop-definition
invariant-loop-definition g l = Pushes g.O.Sink.held g.O.Sink.faults g.O.Sink.room l.fn.sink l.sink done (flat_map type_text (take l.definition-index l.types))
