-- What reading a source to its end gives.
use Rattle.std.specs.Prelude.{◌≡◌, ℕ, ◌<◌, List, length, Option, IfSome}
use Rattle.std.specs.Io.KnownBytes.{Consumes, IsAtEnd}

-- the bytes are those that were left, and nothing is left
pub record IsRead (old new : Option (List ℕ)) (bytes : List ℕ) : Type 0 where
  pub all : IfSome old (λ left. bytes ≡ left)
  pub ended : IsAtEnd new

-- more bytes were left than this
abbrev pub IsLonger : Option (List ℕ) → ℕ → Type 0
IsLonger old limit = IfSome old (λ left. limit < length left)

-- so many bytes were taken of those that were left
abbrev pub PassesBy : Option (List ℕ) → Option (List ℕ) → ℕ → Type 0
PassesBy old new count = (front : List ℕ) × Consumes old new front × (length front ≡ count)
