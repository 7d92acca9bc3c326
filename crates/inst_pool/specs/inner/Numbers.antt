-- The numbers beside pieces.
use Rattle.std.specs.Prelude.{◌≡◌, ℕ, ◌+◌, ◌-◌, ◌<◌, ◌≤◌, List, ◌++◌, length, replicate, reverse}

-- the numbers: those in front, zeros up to the place where those behind begin, these, of which the last is kept first, and
-- those that are kept wide
abbrev pub numbers_kept_in : List ℕ → ℕ → List ℕ → List ℕ → List ℕ
numbers_kept_in front behind back wide = front ++ (replicate (behind - length front) 0 ++ (reverse back ++ wide))

-- none in front is behind, where one is wide all are, and there is room for so many
pub record AreKeptInForm (front : List ℕ) (behind : ℕ) (back wide : List ℕ) (room : ℕ) : Type 0 where
  pub apart : length front ≤ behind
  pub alone : 0 < length wide → behind + length back ≡ 0
  pub fits : behind + length back + length wide ≤ room

-- a list of numbers, and for how many in all there is room
pub record Column : Type 0 where
  pub items : List ℕ
  pub room : ℕ
