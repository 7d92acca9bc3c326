use Rattle.std.proofs.Common.{refl, sym, ap, subst, arith}
use Rattle.der_octets.specs.TagSteps.{tag_view}
use Rattle.reference_check.specs.Forms.{form_slots}
use Rattle.message_model.specs.Tables.{types_of}
use Rattle.der_codec.specs.Components.{NoneDue, IsDue, slot_text}
use Rattle.der_codec.proofs.ComponentsFound.{fields_none, fields_before, fields_found, fields_due}
use Rattle.der_codec.proofs.components.in_fields.Goals as goal

pub returns-in_default : goal.returns-in_default
returns-in_default c =
    let types = types_of c.args.model.now in
    let e = fields_none types c.args.number (form_slots (types c.args.number)) c.args.next c.args.id.constructed (tag_view c.args.id) c.in_default.ensures.none in
    rw (e, c.unexpected.ensures) (refl, refl)

pub returns-then-at-next : goal.returns-then-at-next
returns-then-at-next c =
    let types = types_of c.args.model.now in
    let at = c.from-at.ensures in
    let low = c.if-at-next.true in
    let e = fields_before types c.args.number (form_slots (types c.args.number)) c.args.next c.in-Some.found.number c.args.id.constructed (tag_view c.args.id) c.in-Some.ensures.some (omega (arith, at, low)) in
    rw (e, c.unexpected-then-at-next.ensures) (refl, refl)

pub returns-in-Some-first_due : goal.returns-in-Some-first_due
returns-in-Some-first_due c =
    let types = types_of c.args.model.now in
    let slots = form_slots (types c.args.number) in
    let slot = c.in-Some.ensures.slot in
    let at = c.from-at.ensures in
    let low = c.if-at-next.false in
    let due = subst (λ z. IsDue slots c.args.next z c.in-Some-first_due.slot) at c.in-Some-first_due.ensures.some in
    let e = fields_due types c.args.number slots c.args.next c.in-Some.found.number slot.0 c.args.id.constructed (tag_view c.args.id) c.in-Some.ensures.some (omega (arith, at, low)) slot.1 slot.2 c.in-Some-first_due.slot due in
    rw (e, c.missing.ensures) (refl, sym (ap slot_text due.found))

pub returns-in-None : goal.returns-in-None
returns-in-None c =
    let types = types_of c.args.model.now in
    let slots = form_slots (types c.args.number) in
    let slot = c.in-Some.ensures.slot in
    let at = c.from-at.ensures in
    let low = c.if-at-next.false in
    let none = subst (λ z. NoneDue slots c.args.next z) at c.in-None.ensures.none in
    let e = fields_found types c.args.number slots c.args.next c.in-Some.found.number slot.0 c.args.id.constructed (tag_view c.args.id) c.in-Some.ensures.some (omega (arith, at, low)) slot.1 slot.2 none in
    rw e (refl, c.in-Some.ensures.spot slot.0 slot.1)
