-- What went through is a front of what the pieces write; then come the buffer, and what the pieces from this place on write.
use Rattle.std.proofs.Common.{◌≤◌, ◌-◌, length}
use Rattle.message_model.specs.Tables.{types_of}
use Rattle.xml_writer.specs.inner.PieceTexts.{innermost_begun}
use Rattle.xml_writer.proofs.Ahead.{IsAhead}
use Rattle.xml_writer.proofs.pieces.push_pieces.Given as goal

abbrev pub invariant-loop-place : goal.invariant-loop-place
invariant-loop-place g l = IsAhead g.O.Sink.held g.O.Sink.faults g.O.Sink.room (types_of l.model) l.fn.sink l.sink (innermost_begun (types_of l.model) 0) l.place.innermost l.instance.region.pieces l.place.at l.buffer
    × (l.place.at ≤ length l.instance.region.pieces)

abbrev pub decreases-loop-place : goal.decreases-loop-place
decreases-loop-place g l = length l.instance.region.pieces - l.place.at
