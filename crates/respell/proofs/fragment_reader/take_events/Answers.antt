use Rattle.std.proofs.Common.{◌≡◌, ◌++◌, ◌∷◌, [], List, ap}
use Rattle.lexical_core.specs.Tree.{Item}
use Rattle.markup.specs.declared.event.Event.{Event}
use Rattle.markup.specs.EventItems.{item_of}
use Rattle.respell.specs.Kept.{HasWritten}
use Rattle.respell.specs.inner.FragmentReading.{NoneForeign, event_items}
use Rattle.respell.proofs.FragmentSteps.{event_outside, event_sorted, event_front, regroup}
use Rattle.respell.proofs.fragment_reader.take_events.Goals as goal

pub returns-then-is_foreign-clause-stops : goal.returns-then-is_foreign-clause-stops
returns-then-is_foreign-clause-stops c forgotten all h inside sorted f none =
    let (front, e, taken, so_far) = c.loop-event.invariant forgotten all h inside sorted in
    c.is_foreign.ensures.foreign forgotten (all ++ front) taken c.if-is_foreign.true
    (event_outside all front (event_items c.args.events.now) (event_items c.in-Some.others.now) (item_of c.in-Some.event.now.what) (event_items c.loop-event.left.now) e (ap (λ (l : List Event). event_items l) c.in-Some.ensures.cases.0) none)

pub loop-event-preserved : goal.loop-event-preserved
loop-event-preserved c forgotten all h inside sorted =
    let (front, e, taken, so_far) = c.loop-event.invariant forgotten all h inside sorted in
    let i : Item = item_of c.in-Some.event.now.what in
    let rest : List Item = event_items c.in-Some.others.now in
    let is : event_items c.loop-event.left.now ≡ i ∷ rest = ap (λ (l : List Event). event_items l) c.in-Some.ensures.cases.0 in (
      front ++ i ∷ [],
      event_front front (event_items c.args.events.now) rest i (event_items c.loop-event.left.now) e is,
      regroup (λ l. HasWritten c.step.new.self forgotten l) all front i (c.in_ok-step.ensures forgotten (all ++ front) taken (event_sorted front (event_items c.args.events.now) rest i (event_items c.loop-event.left.now) e is sorted)),
      regroup (λ l. NoneForeign 0 l) all front i (c.is_foreign.ensures.own forgotten (all ++ front) taken so_far c.if-is_foreign.false),
    )
