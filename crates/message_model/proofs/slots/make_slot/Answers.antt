use Rattle.std.proofs.Common.{sym, ap, subst, ◌∙◌}
use Rattle.reference_check.specs.Graph.{entry}
use Rattle.message_model.specs.Compiled.{place_of}
use Rattle.message_model.specs.inner.Numbers.{StandsAmong, ids_at}
use Rattle.message_model.proofs.SlotLists.{slot_same}
use Rattle.message_model.proofs.slots.make_slot.Goals as goal

pub returns : goal.returns
returns c places are names =
    let same = c.reference.ensures names.id names.one in
    let stands : StandsAmong c.args.repository.now.objects places c.reference.result.now = subst (λ id. StandsAmong c.args.repository.now.objects places id) (sym same) names.stands in
    slot_same (place_of (ids_at c.args.repository.now.objects places)) c.args.element.now c.in_ok-copy.field-0 c.number_of-target.result (record { due = 0; firm = 0 }) names.id c.in_ok-copy.ensures names.one
    (c.number_of-target.ensures places are stands ∙ ap entry same)
