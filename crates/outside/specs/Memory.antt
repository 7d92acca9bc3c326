-- What contracts see of a source and of a sink in memory whose calls fail by plan.
use Rattle.std.specs.Prelude.{ℕ, List}

-- gives at most `piece` of the bytes left at a call, and fails at the calls whose numbers, from 0, stand in `fails`
pub record SourceScript : Type 0 where
  pub left : List ℕ
  pub piece : ℕ
  pub fails : List ℕ
  pub calls : ℕ
  pub faults : ℕ

-- appends to the bytes held, and fails at the calls whose numbers, from 0, stand in `fails`
pub record SinkScript : Type 0 where
  pub held : List ℕ
  pub fails : List ℕ
  pub calls : ℕ
  pub faults : ℕ
