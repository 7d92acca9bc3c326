-- The names of types, in memory.
use Rattle.std.specs.Prelude.{◌≡◌, ℕ}
use Rattle.message_model.specs.Tables.{Tables}
use Rattle.asn1_model.specs.declared.type_names.TypeNames.{TypeNames}
use Rattle.asn1_model.specs.ModuleOf.{names_given, asn_name_of}
use Rattle.asn1_model.specs.inner.Places.{name_at}

-- These are the names of the types of the tables.
pub record AreNames (names : TypeNames) (T : Tables) : Type 0 where
  pub given : names.given ≡ names_given T
  pub named : (number : ℕ) → name_at names.places.items names.given number ≡ asn_name_of T number
