-- What several characters at once leave of a reader of collapsed texts. The contracts of private functions alone cite it.
use Rattle.std.specs.Prelude.{ℕ, ◌+◌, ◌≤◌, List, ◌++◌, length, Option}
use Rattle.data_types.specs.declared.kind.Kind.{Kind}
use Rattle.data_types.specs.declared.collapsed_step.CollapsedStep.{CollapsedStep}
use Rattle.data_types.specs.declared.collapsed_step.Value.{Value}
use Rattle.data_types.specs.LeafSteps.{HasGiven, value_memory, begun_in}

-- there is room for the octets of so many more characters
abbrev pub HasSpareFor : Value → ℕ → Type 0
HasSpareFor value count = length (value_memory value).held + begun_in value + count ≤ (value_memory value).room

-- from the one state to the other these characters were taken, and at most so many bytes kept
pub record TakesChars (old new : CollapsedStep) (chars : List ℕ) (size : ℕ) : Type 0 where
  pub taken : (kind : Kind) (most : Option ℕ) (before : List ℕ) → HasGiven old kind most before → HasGiven new kind most (before ++ chars)
  pub room : (value_memory old.value).room ≤ (value_memory new.value).room
  pub count : length (value_memory new.value).held + begun_in new.value ≤ length (value_memory old.value).held + begun_in old.value + size
