use Rattle.std.proofs.Common.{refl}
use Rattle.message_model.proofs.Ahead.{told_more}
use Rattle.message_model.proofs.slot_list.note_all.Goals as goal

pub loop-at-preserved : goal.loop-at-preserved
loop-at-preserved c =
    let told = told_more c.loop-at.slots _ c.loop-at.at c.index-slots-at.result c.index-slots-at-in-loop-at.result _ c.loop-at.ahead c.ahead_from-ahead.result c.loop-at.invariant.view
    c.loop-at.invariant.within c.loop-at-test.true c.loop-at.invariant.ahead c.loop-at.invariant.noted c.ahead_from-ahead.ensures refl refl in
    record { view = told.0; within = told.1; ahead = told.2; noted = told.3 }
