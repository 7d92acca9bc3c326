-- An error that is told again.
use Rattle.std.specs.Prelude.{◌≡◌, ◌⊎◌, Result, Ok, Err}
use Rattle.message_model.specs.declared.fault.InstanceError.{InstanceError}
use Rattle.message_model.specs.declared.fault.InstanceError.TheVariants.{Memory}

-- the error itself, or that there is no memory for it
abbrev pub IsSameOrMemory : InstanceError → InstanceError → Type 0
IsSameOrMemory e told = (told ≡ e) ⊎ (told ≡ Memory)

-- the answer is the error again, or that there is no memory for it
abbrev pub IsAgain : {T : Type 0} → InstanceError → Result T InstanceError → Type 0
IsAgain e (Ok x) = ⊥
IsAgain e (Err told) = IsSameOrMemory e told
