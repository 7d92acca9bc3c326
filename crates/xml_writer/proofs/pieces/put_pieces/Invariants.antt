-- What the pieces write from the first place on is what was put into the buffer, and then what those from this place on write.
use Rattle.std.proofs.Common.{◌≤◌, ◌-◌, length}
use Rattle.message_model.specs.Tables.{types_of}
use Rattle.xml_writer.specs.inner.PieceTexts.{HasPut}
use Rattle.xml_writer.proofs.pieces.put_pieces.Given as goal

abbrev pub invariant-loop-next : goal.invariant-loop-next
invariant-loop-next l = HasPut (types_of l.model) l.instance.region.pieces l.fn.place.innermost l.fn.place.at l.fn.buffer l.next.innermost l.next.at l.buffer
    × (l.fn.place.at ≤ l.next.at) × (l.next.at ≤ length l.instance.region.pieces)

abbrev pub decreases-loop-next : goal.decreases-loop-next
decreases-loop-next l = length l.instance.region.pieces - l.next.at
