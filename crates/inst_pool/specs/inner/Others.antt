-- The contents that do not fit in nodes, each with the place of its piece.
use Rattle.std.specs.Prelude.{◌≡◌, ℕ, suc, ◌≤◌, ◌==◌, ◌⊎◌, cond, List, [], ◌∷◌}
use Rattle.inst_pool.specs.declared.content.Content.{Content}
use Rattle.inst_pool.specs.declared.content.Content.TheVariants.{Code}
use Rattle.inst_pool.specs.declared.others.Other.{Other}

-- they stand in the order of their places, each from the one number on and below the other
abbrev pub AreBetween : ℕ → ℕ → List Other → Type 0
AreBetween low high [] = low ≤ high
AreBetween low high (other ∷ others) = (low ≤ other.at) × AreBetween (suc other.at) high others

-- the content of the piece at that place
abbrev pub other_at : List Other → ℕ → Content
other_at [] at = Code 0
other_at (other ∷ others) at = cond (other.at == at) other.content (other_at others at)

-- there is one of the piece at that place
abbrev pub HasOther : List Other → ℕ → Type 0
HasOther [] at = ⊥
HasOther (other ∷ others) at = (other.at ≡ at) ⊎ HasOther others at
