-- What is written from the first place on and before the next was put into the buffer.
use Rattle.std.proofs.Common.{◌-◌, length}
use Rattle.message_model.specs.Tables.{types_of}
use Rattle.der_writer.specs.inner.Writing.{HasPutOctets}
use Rattle.der_writer.proofs.write.put_pieces.Given as goal

abbrev pub invariant-loop-next : goal.invariant-loop-next
invariant-loop-next l = HasPutOctets (types_of l.model) l.instance l.fn.place l.fn.buffer l.next l.buffer

abbrev pub decreases-loop-next : goal.decreases-loop-next
decreases-loop-next l = length l.instance.region.pieces - l.next.at
