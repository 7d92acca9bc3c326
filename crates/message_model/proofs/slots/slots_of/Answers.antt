use Rattle.message_model.specs.Compiled.{place_of}
use Rattle.message_model.specs.inner.Numbers.{ids_at}
use Rattle.message_model.proofs.SlotLists.{slots_more, read_in}
use Rattle.message_model.proofs.slots.slots_of.Goals as goal

pub loop-element-preserved : goal.loop-element-preserved
loop-element-preserved c places are names =
    slots_more (place_of (ids_at c.args.repository.now.objects places)) c.loop-element.slots.items c.in_ok-slot.slot c.args.elements.now c.loop-element.element-index c.element-item.result
    c.push.new.self.items c.in_ok-push.ensures.items c.loop-element-test.true c.element-item.is (c.loop-element.invariant places are names)
    (c.in_ok-slot.ensures places are (names c.element-item.result (read_in c.args.elements.now c.loop-element.element-index c.element-item.result c.loop-element-test.true c.element-item.is)))
