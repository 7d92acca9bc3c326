-- What is told of a message that breaks a rule.
use Rattle.std.specs.Prelude.{◌≡◌, ◌<◌, ℕ, List}
use Rattle.repo_objects.specs.Repository.{Contents}
use Rattle.reference_check.specs.declared.reached.ReadyError.{ReadyError}
use Rattle.reference_check.specs.declared.reached.ReadyError.TheVariants.{Broken, Memory}
use Rattle.reference_check.specs.inner.First.{IsFirst}
use Rattle.reference_check.specs.Graph.{Place}
use Rattle.reference_check.specs.Reached.{place_id}
use Rattle.reference_check.specs.Rules.{Rule, object_rule_number, IsSound}

-- the number of a rule and an id, or want of memory
abbrev pub IsRefusal : ℕ → List ℕ → ReadyError → Type 0
IsRefusal n object (Broken rule id) = (rule ≡ n) × (id ≡ object)
IsRefusal n object Memory = Unit {0}

-- the rule is broken, and this is what breaks it first
abbrev pub TellsRule : Contents → List ℕ → Rule → ReadyError → Type 0
TellsRule R m rule (Broken n object) = (p : Place) × IsFirst R m rule p × (n ≡ object_rule_number rule) × (object ≡ place_id m p)
TellsRule R m rule Memory = Unit {0}

-- no rule of a lower number is broken
abbrev pub IsSoundBelow : Contents → List ℕ → ℕ → Type 0
IsSoundBelow R m n = IsSound R m (λ r. object_rule_number r < n)
