use Rattle.std.proofs.Common.{refl}
use Rattle.der_octets.specs.TagSteps.{tag_view}
use Rattle.reference_check.specs.Forms.{form_slots}
use Rattle.message_model.specs.Tables.{types_of}
use Rattle.der_codec.proofs.ComponentsFound.{anys_none, anys_found}
use Rattle.der_codec.proofs.components.alternative.Goals as goal

pub returns-in-None : goal.returns-in-None
returns-in-None c =
    let types = types_of c.args.model.now in
    let e = anys_none types c.args.number (form_slots (types c.args.number)) c.args.id.constructed (tag_view c.args.id) c.in-None.ensures.none in
    rw (e, c.unexpected.ensures) (refl, refl)

pub returns-in-Some : goal.returns-in-Some
returns-in-Some c =
    let types = types_of c.args.model.now in
    let slot = c.in-Some.ensures.slot in
    let e = anys_found types c.args.number (form_slots (types c.args.number)) c.in-Some.found.number slot.0 c.args.id.constructed (tag_view c.args.id) c.in-Some.ensures.some slot.1 slot.2 in
    rw e (refl, c.in-Some.ensures.spot slot.0 slot.1)
