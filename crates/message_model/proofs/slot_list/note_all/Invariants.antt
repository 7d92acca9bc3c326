-- The slots from this one on are told what stands next.
use Rattle.std.proofs.Common.{◌≡◌, ◌≤◌, length}
use Rattle.message_model.specs.SlotViews.{slots_view}
use Rattle.message_model.specs.inner.Ahead.{IsAhead, AreNotedFrom}
use Rattle.message_model.proofs.slot_list.note_all.Given as goal

abbrev pub invariant-loop-at : goal.invariant-loop-at
invariant-loop-at l = record {
  view : slots_view l.slots ≡ slots_view l.fn.slots;
  within : l.at ≤ length l.slots;
  ahead : IsAhead (slots_view l.slots) l.at l.ahead;
  noted : AreNotedFrom l.at l.slots;
}

abbrev pub decreases-loop-at : goal.decreases-loop-at
decreases-loop-at l = l.at
