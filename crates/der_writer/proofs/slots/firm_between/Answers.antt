use Rattle.std.proofs.Common.{◌+◌, ◌<◌, ◌++◌, length, sym, ap, ◌∙◌, arith}
use Rattle.std.proofs.lemmas.Option.{slice_get_within}
use Rattle.reference_check.specs.Forms.{form_slots}
use Rattle.message_model.specs.Tables.{types_of}
use Rattle.der_writer.proofs.EmptySlots.{empty_from, empty_never, empty_before, empty_firm, told}
use Rattle.der_writer.proofs.slots.firm_between.Goals as goal

pub returns-in_default-clause-none : goal.returns-in_default-clause-none
returns-in_default-clause-none c = empty_never c.args.from c.args.to (form_slots (types_of c.args.model.now c.args.number)) c.in_default.ensures.none

pub returns-then-at-to-clause-none : goal.returns-then-at-to-clause-none
returns-then-at-to-clause-none c = empty_before c.args.from c.in-Some.at c.args.to (form_slots (types_of c.args.model.now c.args.number)) c.in-Some.ensures.some c.if-at-to.true

pub empty_head-requires : goal.empty_head-requires
empty_head-requires c =
    let slots = form_slots (types_of c.args.model.now c.args.number) in
    let firm = c.in-Some.ensures.some in
    let low : c.in-Some.at < length slots = slice_get_within slots c.in-Some.at firm.slot firm.is in
    let short = (c.type_count-count.ensures.sound c.args.number).short in
    omega (arith, low, short)

pub returns-clause-within : goal.returns-clause-within
returns-clause-within c =
    let slots = form_slots (types_of c.args.model.now c.args.number) in
    let firm = c.in-Some.ensures.some in
    let low : c.in-Some.at < length slots = slice_get_within slots c.in-Some.at firm.slot firm.is in
    let short = (c.type_count-count.ensures.sound c.args.number).short in
    let high = c.if-at-to.false in
    (firm.above, omega (arith, high), omega (arith, low, short))

pub returns-clause-some : goal.returns-clause-some
returns-clause-some c =
    let slots = form_slots (types_of c.args.model.now c.args.number) in
    let at = c.in-Some.at in
    let high = c.if-at-to.false in
    empty_firm c.args.from at c.args.to slots (told c.in_ok-slot.slot) c.in-Some.ensures.some (omega (arith, high)) (sym c.in_ok-slot.ensures)
    ∙ ap (λ z. z ++ empty_from (at + 1) c.args.to slots) (sym c.empty_head.ensures)
