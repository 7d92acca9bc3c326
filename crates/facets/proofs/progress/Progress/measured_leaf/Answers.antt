use Rattle.std.proofs.Common.{refl}
use Rattle.data_types.specs.LeafAnswers.{leaf_of}
use Rattle.facets.specs.LeafChecks.{keep_limit}
use Rattle.facets.proofs.MeasureLemmas.{measured_given, measured_broken, measured_unread}
use Rattle.facets.proofs.progress.Progress.measured_leaf.Goals as goal

pub returns-in-Ok-check_leaf : goal.returns-in-Ok-check_leaf
returns-in-Ok-check_leaf c text is taken =
    let simple = c.args.simple.now in
    let read = c.in-Ok.ensures simple.kind (keep_limit simple) text taken.step in
    measured_given simple.kind simple text (leaf_of c.in-Ok.leaf) c.in-Ok-check_leaf.field-0 refl is read.0 c.in-Ok-check_leaf.ensures

pub returns-in-Err-check_leaf : goal.returns-in-Err-check_leaf
returns-in-Err-check_leaf c text is taken =
    let simple = c.args.simple.now in
    let read = c.in-Ok.ensures simple.kind (keep_limit simple) text taken.step in
    measured_broken _ simple.kind simple text (leaf_of c.in-Ok.leaf) c.in-Err-check_leaf.rule refl is read.0 c.in-Err-check_leaf.ensures

pub returns-in-Err : goal.returns-in-Err
returns-in-Err c text is taken =
    let simple = c.args.simple.now in
    measured_unread simple.kind simple text c.in-Err.rule refl is (c.in-Err.ensures simple.kind (keep_limit simple) text taken.step)
