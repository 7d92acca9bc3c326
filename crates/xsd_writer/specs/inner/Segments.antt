-- The texts of the segments of a line.
use Rattle.std.specs.Prelude.{ℕ, ◌+◌, ◌*◌, true, List, replicate}
use Rattle.std.specs.Fmt.{decimal}
use Rattle.lexical_core.specs.Decimals.{decimal_spelling}
use Rattle.lexical_core.specs.CanonicalDecimals.{canonical_parts}
use Rattle.data_types.specs.Escaping.{escaped_bytes}
use Rattle.xsd_model.specs.SchemaText.{base_text, max_text, min_text}
use Rattle.xsd_writer.specs.declared.segment.Segment.{Segment}
use Rattle.xsd_writer.specs.declared.segment.Segment.TheVariants as segment

-- the level of a step inside so many others
abbrev pub step_level : ℕ → ℕ
step_level steps = 2 * steps + 2

abbrev pub segment_text : Segment → List ℕ
segment_text (segment.Bytes bytes) = bytes.now
segment_text (segment.Value bytes) = escaped_bytes true bytes.now
segment_text (segment.Number n) = decimal n
segment_text (segment.Decimal n) = decimal_spelling (canonical_parts n)
segment_text (segment.Indent level) = replicate (2 * level) 32
segment_text (segment.Inside steps more) = replicate (2 * (step_level steps + more)) 32
segment_text (segment.Min min) = min_text min
segment_text (segment.Max max) = max_text max
segment_text (segment.Base base) = base_text base
