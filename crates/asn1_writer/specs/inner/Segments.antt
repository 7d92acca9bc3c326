-- The texts of the segments of a type's text.
use Rattle.std.specs.Prelude.{ℕ, List, [], ◌∷◌, codes}
use Rattle.asn1_model.specs.ModuleText.{bound_constraint, constraint_text, digits_constraint, pattern_constraint, size_text}
use Rattle.asn1_writer.specs.declared.segment.Segment.{Segment}
use Rattle.asn1_writer.specs.declared.segment.Segment.TheVariants as segment

abbrev pub asn_segment_text : Segment → List ℕ
asn_segment_text (segment.Bytes bytes) = bytes.now
asn_segment_text (segment.Size min max) = size_text min max
asn_segment_text (segment.Profile word) = constraint_text (word.now ∷ codes " profile" ∷ [])
asn_segment_text (segment.Digits word most) = digits_constraint word.now most
asn_segment_text (segment.Bound side bound) = bound_constraint side.now bound
asn_segment_text (segment.Pattern pattern) = pattern_constraint pattern.now
