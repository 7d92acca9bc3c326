-- What is carried from one instruction to the next: the state of a machine, which the contracts of private functions alone cite.
use Rattle.std.specs.Prelude.{ℕ, Bool, List}
use Rattle.pattern_match.specs.declared.instruction.Frame.{Frame}

-- whether a word may go on here, the groups that are begun, the innermost first, and for how many there is room
pub record Carried : Type 0 where
  pub live : Bool
  pub frames : List Frame
  pub capacity : ℕ
