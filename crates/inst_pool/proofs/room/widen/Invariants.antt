-- The items so far are in the new block, which has the room for all.
use Rattle.std.proofs.Common.{◌≡◌, take, vec_capacity}
use Rattle.inst_pool.proofs.room.widen.Given as goal

abbrev pub invariant-loop-item : goal.invariant-loop-item
invariant-loop-item g l = (l.wider.items ≡ take l.item-index l.fn.block.items) × (vec_capacity l.wider ≡ l.fn.room)
