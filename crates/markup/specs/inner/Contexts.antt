-- What stands before a token, and what the token makes of it.
use Rattle.std.specs.Prelude.{◌≡◌, ℕ, ◌==◌, ◌&&◌, false, List, ◌∷◌, length, Some, None, Result, MatchResult, if◌then◌else◌}
use Rattle.markup.specs.Token.{Token}
use Rattle.markup.specs.Events.{open_tags, items_of}
use Rattle.markup.specs.Faults.{has_start, rule_of}
use Rattle.markup.specs.EventItems.{Tells, TellsClean}
use Rattle.markup.specs.Scopes.{IsScope, placed_at}
use Rattle.markup.specs.inner.TokenRules.{brackets}
use Rattle.markup.specs.declared.context.Context.{Context}
use Rattle.markup.specs.declared.tag.Opening.{Opening}
use Rattle.markup.specs.declared.event.Event.{Event}
use Rattle.markup.specs.declared.scope.Stop.{Stop}
use Rattle.markup.specs.declared.scope.Stop.TheVariants.{Rule as Breaks, Memory}

-- These tokens stand before, the latest first.
pub record IsContext (context : Context) (before : List Token) : Type 0 where
  pub scope : IsScope context.scope (open_tags before)
  pub root : context.has_root ≡ has_start before
  pub brackets_are : context.brackets ≡ brackets before

-- no literal `]` stands last
abbrev pub without_brackets : Context → Context
without_brackets c = record { scope = c.scope; has_root = c.has_root; brackets = 0 }

-- so many literal `]` more stand last, of which there is one
abbrev pub with_brackets : Context → ℕ → Context
with_brackets c n = record { scope = c.scope; has_root = c.has_root; brackets = if c.brackets == 0 && n == 1 then 1 else 2 }

-- an element is open
abbrev pub HasOpen : Context → Type 0
HasOpen c = (tags : List Opening) → IsScope c.scope tags → (length tags == 0) ≡ false

-- a token that breaks no rule
pub record TakesToken (before : List Token) (t : Token) (place : ℕ) (old new : List Event) (context : Context) : Type 0 where
  pub clean : rule_of before t ≡ None
  pub tells : Tells old new (placed_at place (items_of before t))
  pub context_is : IsContext context (t ∷ before)

-- A token is not taken, for this reason.
abbrev pub StopsToken : List Token → Token → ℕ → List Event → List Event → Stop → Type 0
StopsToken before t place old new (Breaks rule) = (rule_of before t ≡ Some rule) × (new ≡ old)
StopsToken before t place old new Memory = TellsClean (rule_of before t) old new (placed_at place (items_of before t))

-- A token at the place: its events are told, or the least rule that it breaks.
abbrev pub TokenTaken : {T : Type 0} → List Token → Token → ℕ → List Event → List Event → Context → Result T Stop → Type 0
TokenTaken before t place old new context result = MatchResult result (λ _. TakesToken before t place old new context) (λ stop. StopsToken before t place old new stop)
