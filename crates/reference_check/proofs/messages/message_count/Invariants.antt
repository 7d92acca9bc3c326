-- Those so far are counted.
use Rattle.std.proofs.Common.{◌≡◌, ◌≤◌, take}
use Rattle.std.specs.Prelude.{count_by}
use Rattle.reference_check.specs.Rules.{is_message_named}
use Rattle.reference_check.proofs.messages.message_count.Given as goal

abbrev pub invariant-loop-at : goal.invariant-loop-at
invariant-loop-at l = (l.count ≡ count_by (is_message_named l.id) (take l.at l.repository.messages)) × (l.count ≤ l.at)
