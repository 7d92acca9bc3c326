-- Which slots stand next from one on: those that have to come, and those that are no options.
use Rattle.std.specs.Prelude.{◌≡◌, ℕ, ◌≤◌, ◌<◌, ◌==◌, Bool, true, false, List, Some, length, slice_get}
use Rattle.reference_check.specs.Forms.{Slot}
use Rattle.message_model.specs.declared.slot_list.SlotInfo.{SlotInfo}
use Rattle.message_model.specs.declared.slot_list.Ahead.{Ahead}
use Rattle.message_model.specs.Options.{is_option}
use Rattle.message_model.specs.SlotViews.{slots_view}

-- a slot may be left out
abbrev pub may_lack : {P : Type 0} → Slot P → Bool
may_lack s = s.min == 0

-- The first slot from one on that is not of this sort; the number of slots where there is none.
pub record IsNextOther {P : Type 0} (sort : Slot P → Bool) (fs : List (Slot P)) (from at : ℕ) : Type 0 where
  pub above : from ≤ at
  pub within : at ≤ length fs
  pub other : (s : Slot P) → slice_get fs at ≡ Some s → sort s ≡ false
  pub before : (i : ℕ) (s : Slot P) → from ≤ i → i < at → slice_get fs i ≡ Some s → sort s ≡ true

-- the first slot from one on that has to come, and the first that is no option
pub record IsAhead {P : Type 0} (fs : List (Slot P)) (from : ℕ) (ahead : Ahead) : Type 0 where
  pub due : IsNextOther may_lack fs from ahead.due
  pub firm : IsNextOther is_option fs from ahead.firm

-- each slot from one on tells what is ahead of it
abbrev pub AreNotedFrom : ℕ → List SlotInfo → Type 0
AreNotedFrom from slots = (i : ℕ) (s : SlotInfo) → from ≤ i → slice_get slots i ≡ Some s → IsAhead (slots_view slots) i s.ahead
