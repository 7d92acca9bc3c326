-- What each facet of a simple type asks: XML Schema part 2 §4.3.
use Rattle.std.specs.Prelude.{ℕ, ◌<◌, ◌≤◌, ◌*ℤ◌, ◌<ℤ◌, ◌^◌, pos, Bool, true, false, MatchOption}
use Rattle.std.specs.Int.RustNames.{unsigned_abs}
use Rattle.lexical_core.specs.Decimals.{Number}
use Rattle.facets.specs.declared.simple.Bound.{Bound}
use Rattle.facets.specs.declared.simple.Simple.{Simple}

-- a length, in characters or octets, is within its bounds: §4.3.1 to §4.3.3
pub record HasLength (simple : Simple) (n : ℕ) : Type 0 where
  pub least : simple.min ≤ n
  pub most : MatchOption simple.max (Unit {0}) (λ max. n ≤ max)

-- a number has so few digits, in all and after the point: §4.3.11 and §4.3.12, of its whole part with the least scale
pub record HasDigits (simple : Simple) (n : Number) : Type 0 where
  pub total : unsigned_abs n.whole < 10 ^ simple.total
  pub scale : n.scale ≤ simple.total
  pub fraction : MatchOption simple.fraction (Unit {0}) (λ fraction. n.scale ≤ fraction)

-- the first number is less than the second
abbrev pub IsLess : Number → Number → Type 0
IsLess m n = (m.whole *ℤ pos (10 ^ n.scale)) <ℤ (n.whole *ℤ pos (10 ^ m.scale))

-- the first number is less than the second, or equal to it where that is allowed
abbrev pub IsBounded : Bool → Number → Number → Type 0
IsBounded true m n = IsLess m n
IsBounded false m n = IsLess n m → ⊥

-- the number is at or above a lower bound, above a strict one: §4.3.9, §4.3.10
abbrev pub IsAbove : Bound → Number → Type 0
IsAbove bound n = IsBounded bound.strict bound.value n

-- the number is at or below an upper bound, below a strict one: §4.3.7, §4.3.8
abbrev pub IsBelow : Bound → Number → Type 0
IsBelow bound n = IsBounded bound.strict n bound.value

-- the number is within its bounds
pub record IsInRange (simple : Simple) (n : Number) : Type 0 where
  pub low : MatchOption simple.low (Unit {0}) (λ bound. IsAbove bound n)
  pub high : MatchOption simple.high (Unit {0}) (λ bound. IsBelow bound n)
