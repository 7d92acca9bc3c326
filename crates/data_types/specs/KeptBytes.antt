-- What contracts see of bytes that are kept in memory.
use Rattle.std.specs.Prelude.{ℕ, List}

-- the bytes, and how many there may be without asking for memory
pub record BytesWithRoom : Type 0 where
  pub held : List ℕ
  pub room : ℕ
