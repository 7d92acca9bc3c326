-- What the open elements of a reader are, and what a tag does to them. Public clauses and other crates cite `placed_at` alone of it.
use Rattle.std.specs.Prelude.{◌≡◌, ℕ, Bool, List, [], ◌∷◌, ◌++◌, map, length, drop, if◌then◌else◌, is_none, Some, None, Result, MatchResult}
use Rattle.lexical_core.specs.Tree.{Item}
use Rattle.markup.specs.declared.tag.Spelled.{Spelled}
use Rattle.markup.specs.declared.tag.Given.{Given}
use Rattle.markup.specs.declared.tag.Opening.{Opening}
use Rattle.markup.specs.declared.event.Event.{Event}
use Rattle.markup.specs.inner.OpenNames.{OpenName, KeepsNames}
use Rattle.markup.specs.declared.scope.Scope.{Scope}
use Rattle.markup.specs.declared.scope.Stop.{Stop}
use Rattle.markup.specs.declared.scope.Stop.TheVariants.{Rule as Breaks, Memory}
use Rattle.markup.specs.Events.{Placed, declared_prefix, start_items, end_items}
use Rattle.markup.specs.Faults.{start_rule, end_rule}
use Rattle.markup.specs.EventItems.{Tells, TellsClean}
use Rattle.markup.specs.inner.Bindings.{Binds}

-- the attributes of a tag that declare a namespace
abbrev pub declarations : List Given → List Given
declarations [] = []
declarations (a ∷ more) = if is_none (declared_prefix a.name) then declarations more else a ∷ declarations more

-- what is kept of a tag
abbrev pub open_name : Opening → OpenName
open_name t = record { name = t.name; declared = length (declarations t.given) }

-- the declarations of these tags, the innermost first
abbrev pub all_declarations : List Opening → List Given
all_declarations [] = []
all_declarations (t ∷ tags) = declarations t.given ++ all_declarations tags

-- These tags are open, the innermost first.
pub record IsScope (scope : Scope) (tags : List Opening) : Type 0 where
  pub names : KeepsNames scope.names (map open_name tags)
  pub declared : Binds scope.bindings (all_declarations tags)

-- the items at one place
abbrev pub placed_at : ℕ → List Item → List Placed
placed_at place items = map (λ i. record { place = place; item = i }) items

-- A start tag is not told, for this reason.
abbrev pub StopsStart : Bool → List Opening → Opening → ℕ → List Event → List Event → Stop → Type 0
StopsStart over tags tag place old new (Breaks rule) = (start_rule over tags tag ≡ Some rule) × (new ≡ old)
StopsStart over tags tag place old new Memory = TellsClean (start_rule over tags tag) old new (placed_at place (start_items tags tag))

-- a start tag that breaks no rule; the tag of an empty element opens and closes it
pub record TakesStart (over : Bool) (tags : List Opening) (tag : Opening) (place : ℕ) (old new : List Event) (scope : Scope) : Type 0 where
  pub clean : start_rule over tags tag ≡ None
  pub tells : Tells old new (placed_at place (start_items tags tag))
  pub scope_is : IsScope scope (if tag.is_empty then tags else tag ∷ tags)

-- A start tag at the place: its events are told, or the least rule that it breaks.
abbrev pub IsStartAnswer : {T : Type 0} → Bool → List Opening → Opening → ℕ → List Event → List Event → Scope → Result T Stop → Type 0
IsStartAnswer over tags tag place old new scope result = MatchResult result (λ _. TakesStart over tags tag place old new scope) (λ stop. StopsStart over tags tag place old new stop)

-- An end tag is not told, for this reason.
abbrev pub StopsEnd : List Opening → Spelled → ℕ → List Event → List Event → Stop → Type 0
StopsEnd tags name place old new (Breaks rule) = (end_rule tags name ≡ Some rule) × (new ≡ old)
StopsEnd tags name place old new Memory = TellsClean (end_rule tags name) old new (placed_at place (end_items tags))

-- an end tag that breaks no rule
pub record TakesEnd (tags : List Opening) (name : Spelled) (place : ℕ) (old new : List Event) (scope : Scope) : Type 0 where
  pub clean : end_rule tags name ≡ None
  pub tells : Tells old new (placed_at place (end_items tags))
  pub scope_is : IsScope scope (drop 1 tags)

-- An end tag at the place: its event is told, or the rule that it breaks.
abbrev pub Closes : {T : Type 0} → List Opening → Spelled → ℕ → List Event → List Event → Scope → Result T Stop → Type 0
Closes tags name place old new scope result = MatchResult result (λ _. TakesEnd tags name place old new scope) (λ stop. StopsEnd tags name place old new stop)
