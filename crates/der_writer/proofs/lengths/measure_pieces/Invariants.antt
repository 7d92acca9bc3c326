-- The pass knows what the stage in front of the piece says, and the sum is no more than what the pieces behind may have.
use Rattle.std.proofs.Common.{◌≡◌, ◌+◌, ◌-◌, ◌*◌, ◌≤◌, length, drop}
use Rattle.inst_pool.specs.Pieces.{bytes_of}
use Rattle.message_model.specs.Tables.{types_of}
use Rattle.der_writer.specs.inner.Passes.{stage}
use Rattle.der_writer.specs.inner.Measuring.{Knows, before_place}
use Rattle.der_writer.proofs.lengths.measure_pieces.Given as goal

abbrev pub invariant-loop-reached : goal.invariant-loop-reached
invariant-loop-reached l = record {
  region : l.instance.region ≡ l.fn.instance.region;
  place : l.reached.at ≤ length l.fn.instance.region.pieces;
  known : Knows l.instance l.reached.at l.reached.pass.kept l.reached.pass.ended l.reached.pass.sum (stage (types_of l.model) (before_place l.fn.instance.region.pieces l.reached.at) (drop l.reached.at l.fn.instance.region.pieces));
  most : l.reached.pass.sum ≤ (length l.fn.instance.region.pieces - l.reached.at + 1) * 50000 + bytes_of (drop l.reached.at l.fn.instance.region.pieces);
}

abbrev pub decreases-loop-reached : goal.decreases-loop-reached
decreases-loop-reached l = l.reached.at
