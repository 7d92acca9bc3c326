-- Slots that are options, and those that are none.
use Rattle.std.specs.Prelude.{◌≡◌, ℕ, ◌≤◌, ◌<◌, ◌==◌, Bool, true, false, List, Option, Some, None, slice_get, if◌then◌else◌}
use Rattle.reference_check.specs.Forms.{Slot}

-- it comes once at most
abbrev pub is_once : Option ℕ → Bool
is_once None = false
is_once (Some n) = n == 1

-- a slot is an option: it may be left out, and comes once at most
abbrev pub is_option : {P : Type 0} → Slot P → Bool
is_option s = if s.min == 0 then is_once s.max else false

-- from one slot on and before another each is an option
abbrev pub AreOptions : {P : Type 0} → List (Slot P) → ℕ → ℕ → Type 0
AreOptions {P} fs from to = (i : ℕ) (s : Slot P) → from ≤ i → i < to → slice_get fs i ≡ Some s → is_option s ≡ true

-- The first slot from one on that is no option.
pub record IsFirmAt {P : Type 0} (fs : List (Slot P)) (from at : ℕ) : Type 0 where
  pub slot : Slot P
  pub above : from ≤ at
  pub is : slice_get fs at ≡ Some slot
  pub firm : is_option slot ≡ false
  pub first : AreOptions fs from at
