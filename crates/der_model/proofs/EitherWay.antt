-- What is not without an answer, where no test decides it.
use Rattle.std.proofs.Common.{◌⊎◌, inl, inr}

-- not without
abbrev pub Told : Type 0 → Type 0
Told A = ¬ (¬ A)

-- a statement holds or does not
pub either : (A : Type 0) → Told (A ⊎ (A → ⊥))
either A lacks = lacks (inr (λ a. lacks (inl a)))
