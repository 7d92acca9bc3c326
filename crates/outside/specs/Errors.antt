-- How a writer tells its sink's error, and the texts of both.
use Rattle.std.specs.Prelude.{ℕ, List, codes}
use Rattle.outside.specs.declared.errors.SinkError.{SinkError}
use Rattle.outside.specs.declared.errors.SinkError.TheVariants as sink
use Rattle.outside.specs.declared.errors.WriteError.{WriteError}
use Rattle.outside.specs.declared.errors.WriteError.TheVariants as written

-- a failed sink is a write fault, and want of memory stays that
abbrev pub write_error : SinkError → WriteError
write_error sink.Failed = written.WriteFault
write_error sink.Memory = written.Memory

-- the text of a sink's error
abbrev pub sink_error_text : SinkError → List ℕ
sink_error_text sink.Failed = codes "the sink failed"
sink_error_text sink.Memory = codes "there is no memory for the sink's bytes"

-- the text of a writer's error
abbrev pub write_error_text : WriteError → List ℕ
write_error_text written.WriteFault = codes "the sink failed"
write_error_text written.Memory = codes "there is no memory for the text"
