-- All rules that a message can break, those on facets and patterns among them; when it breaks none, and which it breaks first.
use Rattle.std.specs.Prelude.{◌≡◌, ℕ, ◌<◌, Bool, true, false, List, [], Option, Some, None}
use Rattle.std.specs.Str.{chars}
use Rattle.pattern_match.specs.Reading.{HasPositionsWithin}
use Rattle.repo_objects.specs.declared.objects.Object.{Object}
use Rattle.repo_objects.specs.Repository.{Contents}
use Rattle.reference_check.specs.declared.reached.ReadyError.{ReadyError}
use Rattle.reference_check.specs.declared.reached.ReadyError.TheVariants.{Broken, Memory}
use Rattle.reference_check.specs.Graph.{Place}
use Rattle.reference_check.specs.Reach.{Reaches, rank_of}
use Rattle.reference_check.specs.Reached.{place_id}
use Rattle.reference_check.specs.Rules.{Rule, Breaks, HasPatterns, OfObject, set_codes}
use Rattle.reference_check.specs.Rules as rules
use Rattle.message_model.specs.FacetRules.{HasBadFacets}

-- a rule on objects and what they refer to, or one on their facets
pub data MessageRule : Type 0 where
  OnObjects : (rule : Rule) → MessageRule
  BadFacets : MessageRule
  BadPattern : MessageRule

-- the number that the program prints
abbrev pub message_rule_number : MessageRule → ℕ
message_rule_number (OnObjects rule) = rules.object_rule_number rule
message_rule_number BadFacets = 12
message_rule_number BadPattern = 13

-- no pattern, or one of more than 65,536 positions (XML Schema part 2, appendix F)
abbrev pub IsBadPattern : Option (List ℕ) → Type 0
IsBadPattern None = ⊥
IsBadPattern (Some text) = HasPositionsWithin (chars text) 65536 → ⊥

-- what an answer tells of a fact: that it does not hold, or that it does
abbrev pub TellsBad : Bool → Type 0 → Type 0
TellsBad true IsGood = IsGood → ⊥
TellsBad false IsGood = IsGood

-- The pattern of a kind that has patterns is bad. A code set with codes has no pattern.
abbrev pub HasBadPattern : Object → Type 0
HasBadPattern o = (set_codes o ≡ []) × HasPatterns o.kind × IsBadPattern o.facets.pattern

-- the message or an object breaks the rule
abbrev pub BreaksMessageRule : Contents → List ℕ → MessageRule → Place → Type 0
BreaksMessageRule R m (OnObjects rule) p = Breaks R m rule p
BreaksMessageRule R m BadFacets p = OfObject R p HasBadFacets
BreaksMessageRule R m BadPattern p = OfObject R p HasBadPattern

-- no reached object has facets out of bounds or a bad pattern
pub record HasGoodFacets (R : Contents) (m : List ℕ) : Type 0 where
  pub facets : (p : Place) → Reaches R m p → OfObject R p HasBadFacets → ⊥
  pub patterns : (p : Place) → Reaches R m p → OfObject R p HasBadPattern → ⊥

-- neither the message nor an object that it reaches breaks a rule
abbrev pub IsReady : Contents → List ℕ → Type 0
IsReady R m = (r : MessageRule) (p : Place) → Reaches R m p → BreaksMessageRule R m r p → ⊥

-- The lowest rule that is broken, and the first reached object that breaks it, the message behind all objects.
pub record IsRefused (R : Contents) (m : List ℕ) (rule : MessageRule) (p : Place) : Type 0 where
  pub reached : Reaches R m p
  pub broken : BreaksMessageRule R m rule p
  pub lowest : (r : MessageRule) (q : Place) → message_rule_number r < message_rule_number rule → Reaches R m q → BreaksMessageRule R m r q → ⊥
  pub first : (q : Place) → rank_of R q < rank_of R p → Reaches R m q → BreaksMessageRule R m rule q → ⊥

-- what an error tells: the rule, and the id of the object or the identifier of the message
abbrev pub TellsRefused : Contents → List ℕ → ReadyError → Type 0
TellsRefused R m (Broken number object) = (rule : MessageRule) × (p : Place) × IsRefused R m rule p × (number ≡ message_rule_number rule) × (object ≡ place_id m p)
TellsRefused R m Memory = Unit {0}
