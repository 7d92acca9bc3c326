use Rattle.std.proofs.Common.{refl}
use Rattle.inst_pool.proofs.builder.Builder.leaf_from.Goals as goal

pub hold-requires : goal.hold-requires
hold-requires c = (_, refl)

pub hold-requires-in-Flag : goal.hold-requires-in-Flag
hold-requires-in-Flag c = (_, refl)

pub hold-requires-in-Code : goal.hold-requires-in-Code
hold-requires-in-Code c = (_, refl)
