-- A message to which instances are held: its namespace, the forms of its types, and the type of `Document`.
use Rattle.std.specs.Prelude.{ℕ, List}
use Rattle.facets.specs.declared.simple.Simple.{Simple}
use Rattle.reference_check.specs.Forms.{Graph}

pub record Message (P : Type 0) : Type 0 where
  pub namespace : List ℕ
  pub forms : Graph P Simple
  pub root : P
