-- A limit on a length: the most that it may be, or none. A count of what is as long as it likes.
use Rattle.std.specs.Prelude.{◌≡◌, ℕ, ◌-◌, ◌^◌, ◌<◌, ◌≤◌, Option, Some, None}

-- the length is within the limit
abbrev pub IsWithin : Option ℕ → ℕ → Type 0
IsWithin None count = Unit {0}
IsWithin (Some most) count = count ≤ most

-- the length is greater than the limit
abbrev pub IsPast : Option ℕ → ℕ → Type 0
IsPast None count = ⊥
IsPast (Some most) count = most < count

-- what may still come behind so many
abbrev pub left_of : Option ℕ → ℕ → Option ℕ
left_of None count = None
left_of (Some most) count = Some (most - count)

-- so many were counted: the number, or none where 64 bits have no such number
abbrev pub IsCount : Option ℕ → ℕ → Type 0
IsCount None count = 2 ^ 64 ≤ count
IsCount (Some number) count = number ≡ count
