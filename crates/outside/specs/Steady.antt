-- What contracts see of a source and of a sink in memory that never fail.
use Rattle.std.specs.Prelude.{ℕ, List}

-- gives at most `piece` of the bytes left at a call
pub record SteadyLeft : Type 0 where
  pub left : List ℕ
  pub piece : ℕ

-- appends to the bytes held, and takes `room` more without asking for memory
pub record SteadyHeld : Type 0 where
  pub held : List ℕ
  pub room : ℕ
