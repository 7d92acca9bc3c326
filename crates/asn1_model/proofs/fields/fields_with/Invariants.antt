-- The fields so far, and those of the slots to come.
use Rattle.std.proofs.Common.{◌≡◌, ◌++◌, map, drop}
use Rattle.message_model.specs.Tables.{Tables}
use Rattle.asn1_model.specs.ModuleOf.{asn_name_of, fields_with}
use Rattle.asn1_model.specs.inner.Fields.{slot_in}
use Rattle.asn1_model.specs.inner.TypeNames.{AreNames}
use Rattle.asn1_model.proofs.fields.fields_with.Given as goal

abbrev pub invariant-loop-at : goal.invariant-loop-at
invariant-loop-at l = (T : Tables) → AreNames l.names T → fields_with (asn_name_of T) (map slot_in l.slots) l.given ≡ l.fields ++ fields_with (asn_name_of T) (map slot_in (drop l.at l.slots)) (drop l.at l.given)
