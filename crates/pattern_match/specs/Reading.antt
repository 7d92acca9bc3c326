-- Which texts are a pattern, and where a text is none: as lists of characters.
use Rattle.std.specs.Prelude.{ℕ, ◌≡◌, ◌⊎◌, ◌+◌, ◌≤◌, ◌<◌, List, ◌++◌, length, take}
use Rattle.pattern_match.specs.Expression.{Expression}
use Rattle.pattern_match.specs.Spelling.{spelling}
use Rattle.pattern_match.specs.Valid.{IsExpression}
use Rattle.pattern_match.specs.Language.{Lang}
use Rattle.pattern_match.specs.Positions.{positions}
use Rattle.pattern_match.specs.declared.error.PatternError.{PatternError}
use Rattle.pattern_match.specs.declared.error.PatternError.TheVariants.{Refused, TooLarge, Memory}

-- the tree is that of the text
pub record IsTreeOf (text : List ℕ) (tree : Expression) : Type 0 where
  pub valid : IsExpression tree
  pub spelled : spelling tree ≡ text

-- the text is a pattern
abbrev pub IsPattern : List ℕ → Type 0
IsPattern text = (tree : Expression) × IsTreeOf text tree

-- the text is a pattern of more positions
abbrev pub HasMorePositions : List ℕ → ℕ → Type 0
HasMorePositions text n = (tree : Expression) × IsTreeOf text tree × (n < positions tree)

-- the text is a pattern of so many positions at most
abbrev pub HasPositionsWithin : List ℕ → ℕ → Type 0
HasPositionsWithin text n = (tree : Expression) × IsTreeOf text tree × (positions tree ≤ n)

-- the text is a pattern of so many positions
abbrev pub HasPositions : List ℕ → ℕ → Type 0
HasPositions text n = (tree : Expression) × IsTreeOf text tree × (positions tree ≡ n)

-- some pattern goes on so: the text is the front of one
abbrev pub PatternGoesOn : List ℕ → Type 0
PatternGoesOn front = (rest : List ℕ) × IsPattern (front ++ rest)

-- the text is no pattern, the characters before the place go on, and with the character there no pattern goes on so; or the text ends there
pub record IsRefusedAt (text : List ℕ) (place : ℕ) : Type 0 where
  pub none : IsPattern text → ⊥
  pub within : place ≤ length text
  pub before : PatternGoesOn (take place text)
  pub after : place < length text → PatternGoesOn (take (place + 1) text) → ⊥

-- the word is one of the pattern that the text is
abbrev pub Matches : List ℕ → List ℕ → Type 0
Matches text w = (tree : Expression) × IsTreeOf text tree × Lang tree w

-- the word is one of the pattern that the text is, or it is none
abbrev pub IsDecided : List ℕ → List ℕ → Type 0
IsDecided text w = Matches text w ⊎ (Matches text w → ⊥)

-- what an error of reading tells
abbrev pub RefusesPattern : List ℕ → PatternError → Type 0
RefusesPattern text (Refused place) = IsRefusedAt text place
RefusesPattern text TooLarge = HasMorePositions text 65536
RefusesPattern text Memory = Unit {0}
