-- The DER of an instance is no longer than what is read.
use Rattle.std.proofs.Common.{ℕ, zero, suc, refl, arith}
use Rattle.message_model.specs.Tables.{types_of}
use Rattle.der_model.specs.DerMessage.{der_message}
use Rattle.drill.specs.BuiltIn.{drill_tables}
use Rattle.drill.specs.Growing.{instance}
use Rattle.drill.specs.Drilled.{DerIsReadable}
use Rattle.drill.proofs.GrownBulks.{instance_small}
use Rattle.drill.proofs.DerSizes.{HasTwoSlots, der_size}

two_slots : (p : ℕ) → HasTwoSlots (types_of drill_tables p)
two_slots zero = omega arith
two_slots (suc zero) = omega arith
two_slots (suc (suc zero)) = tt
two_slots (suc (suc (suc zero))) = omega arith
two_slots (suc (suc (suc (suc p)))) = tt

pub der_is_readable : DerIsReadable
der_is_readable number size h =
    let small = instance_small number size h in
    let all = der_size (der_message drill_tables) (λ t. refl) two_slots (instance number size) (omega arith) in
    omega arith
