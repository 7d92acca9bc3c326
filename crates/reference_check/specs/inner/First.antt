-- The first that breaks a rule.
use Rattle.std.specs.Prelude.{◌≡◌, ℕ, ◌<◌, List, Option, Some, None, slice_get}
use Rattle.repo_objects.specs.Repository.{DictionaryEntry, Contents}
use Rattle.reference_check.specs.declared.breaker.Breaker.{Breaker}
use Rattle.reference_check.specs.declared.breaker.Breaker.TheVariants.{Object, Message}
use Rattle.reference_check.specs.Graph.{Place, message, entry}
use Rattle.reference_check.specs.Reach.{Reaches, rank_of}
use Rattle.reference_check.specs.Rules.{Rule, Breaks}

-- The first place, in file order and the message last, that breaks a rule.
pub record IsFirst (R : Contents) (m : List ℕ) (rule : Rule) (p : Place) : Type 0 where
  pub reached : Reaches R m p
  pub broken : Breaks R m rule p
  pub first : (q : Place) → rank_of R q < rank_of R p → Reaches R m q → Breaks R m rule q → ⊥

-- the place of what breaks a rule: an object by its place in file order, or the message
abbrev pub IsPlaceOf : Contents → Breaker → Place → Type 0
IsPlaceOf R (Object k) p = (e : DictionaryEntry) × (slice_get R.objects k ≡ Some e) × (p ≡ entry e.id)
IsPlaceOf R Message p = p ≡ message

-- what breaks the rule first, if something that is reached does
abbrev pub TellsFirst : Contents → List ℕ → Rule → Option Breaker → Type 0
TellsFirst R m rule None = (p : Place) → Reaches R m p → Breaks R m rule p → ⊥
TellsFirst R m rule (Some breaker) = (p : Place) × IsPlaceOf R breaker p × IsFirst R m rule p
