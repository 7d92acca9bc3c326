-- A list of contents in its blocks.
use Rattle.std.specs.Prelude.{ℕ, List}
use Rattle.inst_pool.specs.declared.content.Content.{Content}

-- a list of contents, and for how many in all there is room
pub record Packed : Type 0 where
  pub items : List Content
  pub room : ℕ
