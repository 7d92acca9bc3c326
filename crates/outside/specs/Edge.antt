-- What contracts see of a source over a reader and of a sink over a writer.
use Rattle.std.specs.Prelude.{ℕ, Option}

-- a reader, or none where the source is closed, and how often it failed
pub record ReadEdge (R : Type 0) : Type 0 where
  pub reader : Option R
  pub faults : ℕ

-- a writer, and how often it failed
pub record WriteEdge (W : Type 0) : Type 0 where
  pub writer : W
  pub faults : ℕ
