use Rattle.std.proofs.Common.{◌≡◌, map, take}
use Rattle.reference_check.specs.Forms.{form_slots}
use Rattle.message_model.specs.Tables.{types_of}
use Rattle.xsd_model.specs.SchemaOf.{schema_name_of, part_of}
use Rattle.xsd_model.proofs.parts.parts_of.Given as goal

-- the parts of the slots before
abbrev pub invariant-loop-at : goal.invariant-loop-at
invariant-loop-at l = l.parts ≡ map (part_of (schema_name_of l.model)) (take l.at (form_slots (types_of l.model l.number)))
