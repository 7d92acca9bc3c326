use Rattle.lexical_core.proofs.Lists.{mapped_more}
use Rattle.reference_check.specs.Forms.{form_slots}
use Rattle.message_model.specs.Tables.{types_of}
use Rattle.xsd_model.specs.SchemaOf.{schema_name_of, part_of}
use Rattle.xsd_model.proofs.parts.parts_of.Goals as goal

pub loop-at-preserved : goal.loop-at-preserved
loop-at-preserved c =
    let slot = c.in-Some.slot in
    mapped_more (part_of (schema_name_of c.args.model.now)) (form_slots (types_of c.args.model.now c.args.number)) c.loop-at.at (record { tag = slot.tag.now; min = slot.min; max = slot.max; target = slot.target })
    c.loop-at.parts c.push.new.self c.in_ok-part_of.field-0 c.in-Some.ensures c.loop-at.invariant c.in_ok-part_of.ensures c.in_ok-push.ensures.ok
