use Rattle.std.proofs.Common.{[], None}
use Rattle.tests.proofs.data_types_tests.push.Goals as goal

pub push_leaf-requires : goal.push_leaf-requires
push_leaf-requires c =
    let given = c.in_ok-step.ensures c.args.kind None [] c.new.ensures in (given.0, (c.in-Ok.ensures c.args.kind None given.0 given.1).0)
