use Rattle.std.proofs.Common.{ℕ, ◌<◌, slice_index}
use Rattle.data_types.specs.Escaping.{IsPlainByte}
use Rattle.data_types.proofs.text_writer.plain_count.Given as goal

abbrev pub invariant-loop-count : goal.invariant-loop-count
invariant-loop-count l = (k : ℕ) → k < l.count → IsPlainByte l.attribute (slice_index l.text k)
