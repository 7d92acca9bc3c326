-- The built-in message is compiled to its tables.
use Rattle.std.proofs.Common.{◌≡◌, ℕ, zero, suc, refl}
use Rattle.reference_check.specs.Forms.{form_to}
use Rattle.message_model.specs.Compiled.{Compiles, types, place_of}
use Rattle.message_model.specs.Tables.{types_of}
use Rattle.drill.specs.BuiltIn.{contents, message_id, drill_tables}
use Rattle.drill.proofs.ReachedPlaces.{ids}

same_forms : (n : ℕ) → form_to (place_of ids) (λ x. x) (types_of drill_tables n) ≡ types contents message_id (place_of ids n)
same_forms zero = refl
same_forms (suc zero) = refl
same_forms (suc (suc zero)) = refl
same_forms (suc (suc (suc zero))) = refl
same_forms (suc (suc (suc (suc n)))) = refl

pub is_compiled : Compiles contents message_id ids drill_tables
is_compiled = record { id = refl; forms = same_forms; words = refl; names = refl }
