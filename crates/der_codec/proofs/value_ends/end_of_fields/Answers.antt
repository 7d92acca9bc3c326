use Rattle.std.proofs.Common.{refl, sym, ap}
use Rattle.reference_check.specs.Forms.{form_slots}
use Rattle.message_model.specs.Tables.{types_of}
use Rattle.der_codec.specs.Components.{slot_text}
use Rattle.der_codec.proofs.ComponentsFound.{ends_none, ends_due}
use Rattle.der_codec.proofs.value_ends.end_of_fields.Goals as goal

pub returns-in-None : goal.returns-in-None
returns-in-None c =
    let types = types_of c.args.model.now in
    let e = ends_none types c.args.number (form_slots (types c.args.number)) c.args.next c.in-None.ensures.none in
    rw e tt

pub returns-in-Some : goal.returns-in-Some
returns-in-Some c =
    let types = types_of c.args.model.now in
    let due = c.in-Some.ensures.some in
    let e = ends_due types c.args.number (form_slots (types c.args.number)) c.args.next c.in-Some.slot due in
    rw e (refl, sym (ap slot_text due.found))
