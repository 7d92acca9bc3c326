use Rattle.std.proofs.Common.{refl}
use Rattle.inst_pool.proofs.builder.Builder.leaf_within.Goals as goal

pub hold_within-requires : goal.hold_within-requires
hold_within-requires c = (_, refl)

pub hold_within-requires-in-Flag : goal.hold_within-requires-in-Flag
hold_within-requires-in-Flag c = (_, refl)

pub hold_within-requires-in-Code : goal.hold_within-requires-in-Code
hold_within-requires-in-Code c = (_, refl)
