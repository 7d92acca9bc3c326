-- What went to the sink stands before the buffer, and that before what is still to be written.
use Rattle.std.proofs.Common.{◌-◌, ◌++◌, length}
use Rattle.outside.proofs.PushedFronts.{IsPushedTo}
use Rattle.message_model.specs.Tables.{types_of}
use Rattle.der_writer.specs.inner.PieceOctets.{Begun, document_edge, pieces_octets}
use Rattle.der_writer.specs.inner.Writing.{IsWritingPlace, octets_from}
use Rattle.der_writer.proofs.write.push_pieces.Given as goal

abbrev pub invariant-loop-place : goal.invariant-loop-place
invariant-loop-place g l = record {
  pushed : IsPushedTo g.O.Sink.held g.O.Sink.faults g.O.Sink.room l.fn.sink l.sink (pieces_octets (types_of l.model) (Begun document_edge) l.instance.region.pieces l.instance.lens l.instance.groups l.kept)
      (l.buffer ++ octets_from (types_of l.model) l.instance l.place);
  place : IsWritingPlace l.instance.region.pieces l.place;
}

abbrev pub decreases-loop-place : goal.decreases-loop-place
decreases-loop-place g l = length l.instance.region.pieces - l.place.at
