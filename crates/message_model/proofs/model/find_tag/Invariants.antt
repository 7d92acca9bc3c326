use Rattle.std.proofs.Common.{drop, ◌≡◌}
use Rattle.reference_check.specs.Steps.{find_slot}
use Rattle.message_model.specs.Views.{slots_view}
use Rattle.message_model.proofs.model.find_tag.Given as goal

abbrev pub invariant-loop-at : goal.invariant-loop-at
invariant-loop-at l = find_slot 0 (slots_view l.slots) l.tag ≡ find_slot l.at (slots_view (drop l.at l.slots)) l.tag
