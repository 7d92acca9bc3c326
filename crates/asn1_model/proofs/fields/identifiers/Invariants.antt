-- The identifiers of the slots before.
use Rattle.std.proofs.Common.{◌≡◌, map, take}
use Rattle.asn1_model.specs.ModuleOf.{slot_identifier}
use Rattle.asn1_model.specs.inner.Fields.{slot_in}
use Rattle.asn1_model.proofs.fields.identifiers.Given as goal

abbrev pub invariant-loop-slot : goal.invariant-loop-slot
invariant-loop-slot l = l.names.items ≡ map slot_identifier (map slot_in (take l.slot-index l.slots))
