-- What the check of a pattern was asked of so far. Private functions alone cite this.
use Rattle.std.specs.Prelude.{◌≡◌, ◌⊎◌, ℕ, Bool, true, false, List, length, Some, None}
use Rattle.pattern_match.specs.Compiled.{HasReadWord}
use Rattle.data_types.specs.Collapsing.{HasCollapsed}
use Rattle.data_types.specs.declared.kind.Kind.{Kind}
use Rattle.data_types.specs.declared.kind.Kind.TheVariants as kind
use Rattle.facets.specs.declared.asked.Asked.{Asked}
use Rattle.facets.specs.declared.asked.Asked.TheVariants.{Nothing, Text, Collapsed}
use Rattle.facets.specs.declared.simple.Simple.{Simple}
use Rattle.facets.specs.Counts.{IsTooLong}
use Rattle.facets.specs.Rules.{IsAsked, BreaksPattern}

-- no text is asked of a pattern
abbrev pub HasNoPattern : Simple → Type 0
HasNoPattern simple = (text : List ℕ) → (asked : List ℕ) → IsAsked simple.kind simple.codes text asked → ⊥

-- the kinds whose pattern is asked of the collapsed text
abbrev pub IsDateKind : Kind → Type 0
IsDateKind kind.Text = ⊥
IsDateKind kind.Decimal = ⊥
IsDateKind kind.Boolean = ⊥
IsDateKind kind.Binary = ⊥
IsDateKind kind.Envelope = ⊥
IsDateKind k = Unit {0}

-- the check is one for the pattern of the simple type, and was given these characters
abbrev pub HasAsked : Asked → Simple → List ℕ → Type 0
HasAsked Nothing simple text = (simple.pattern ≡ None) ⊎ HasNoPattern simple
HasAsked (Text matcher) simple text =
    (simple.kind ≡ kind.Text) × (simple.codes ≡ None) × (pattern : List ℕ) × (simple.pattern ≡ Some pattern) × HasReadWord pattern matcher text
HasAsked (Collapsed collapse matcher) simple text =
    IsDateKind simple.kind × (pattern : List ℕ) × (asked : List ℕ) × (simple.pattern ≡ Some pattern)
    × HasCollapsed collapse text asked × HasReadWord pattern matcher asked

-- the same, but that it was given some of the characters alone where they are too many for a text
abbrev pub HasFollowed : Asked → Simple → List ℕ → Type 0
HasFollowed check simple text = HasAsked check simple text ⊎ (IsTooLong simple (length text) × (some : List ℕ) × HasAsked check simple some)

-- what is told of the pattern: that it has what it was asked of, or that it has not
abbrev pub TellsPattern : Bool → Simple → List ℕ → Type 0
TellsPattern true simple text = BreaksPattern simple text → ⊥
TellsPattern false simple text = BreaksPattern simple text
