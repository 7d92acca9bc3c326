-- An answer by steps: each step refuses, or gives something to go on with.
use Rattle.std.specs.Prelude.{◌≡◌, ◌⊎◌}

-- The verdict is that of a step which refuses, or of what goes on from what the step gives.
pub data Then (V A : Type 0) (Refuses : V → Type 0) (Gives : A → Type 0) (Next : A → V → Type 0) (v : V) : Type 0 where
  refused : Refuses v → Then V A Refuses Gives Next v
  goes_on : (a : A) → Gives a → Next a v → Then V A Refuses Gives Next v

-- at most one
abbrev pub One : (V : Type 0) → (V → Type 0) → Type 0
One V Is = (v w : V) → Is v → Is w → v ≡ w

-- a step refuses in one way, or gives one thing, and not both
pub record IsStep (V A : Type 0) (Refuses : V → Type 0) (Gives : A → Type 0) : Type 0 where
  pub one_refusal : One V Refuses
  pub one_gift : One A Gives
  pub apart : (v : V) (a : A) → Refuses v → Gives a → ⊥

-- it does one of them
abbrev pub IsTotal : (V A : Type 0) → (V → Type 0) → (A → Type 0) → Type 0
IsTotal V A Refuses Gives = ((v : V) × Refuses v) ⊎ ((a : A) × Gives a)
