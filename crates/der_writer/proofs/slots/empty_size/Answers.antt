use Rattle.std.proofs.Common.{◌+◌, length, ap, ◌∙◌, arith, length-append}
use Rattle.reference_check.specs.Forms.{form_slots}
use Rattle.message_model.specs.Tables.{types_of}
use Rattle.der_writer.proofs.EmptySlots.{empty_from}
use Rattle.der_writer.proofs.slots.empty_size.Goals as goal

pub loop-next-preserved : goal.loop-next-preserved
loop-next-preserved c =
    let firm = c.in-Some.firm in
    let slots = form_slots (types_of c.args.model.now c.args.number) in
    let split = ap length c.in-Some.ensures.some ∙ length-append _ (empty_from (firm.at + 1) c.args.to slots) in
    let here = c.head_size-size.ensures.size in
    let few = c.head_size-size.ensures.most in
    let within = c.in-Some.ensures.within in
    let low = within.0 in
    let below = within.2 in
    let before = c.loop-next.invariant.most in
    record {
      all = omega (arith, split, here, c.loop-next.invariant.all);
      most = omega (arith, low, below, few, before);
    }
