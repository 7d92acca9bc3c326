-- Each event is read, as far as the first that breaks a rule.
use Rattle.std.proofs.Common.{rules, ◌≡◌, [], ◌∷◌, ◌++◌, subst}
use Rattle.markup.specs.EventItems.{placed_event}
use Rattle.repo_loader.specs.inner.SelectionSteps.{HaveTexts, LoadsOn}
use Rattle.repo_loader.proofs.EventSteps.{LoadedSoFar, one_loaded, one_broken}
use Rattle.repo_loader.proofs.selection.Selection.take_events.Goals as goal

pub returns-in-Some-2 : goal.returns-in-Some-2
returns-in-Some-2 c told h =
    let e : c.loop-event.rest.now ≡ c.in-Some.event.now ∷ c.in-Some.after.now = search rules in
    let k = subst (λ v. LoadedSoFar c.loop-event.self told c.args.events.now v) e (c.loop-event.invariant.loaded told h) in
    one_broken c.loop-event.self told c.args.events.now c.in-Some.after.now c.in-Some.event.now c.in-Some-2.fault k
    (subst (LoadsOn c.take_event.new.self (k.so_far ++ placed_event c.in-Some.event.now ∷ [])) c.in-Some-2.is (c.in_ok-fault.ensures k.so_far k.loaded))

pub loop-event-preserved : goal.loop-event-preserved
loop-event-preserved c =
    let e : c.loop-event.rest.now ≡ c.in-Some.event.now ∷ c.in-Some.after.now = search rules in
    let some = c.loop-event.invariant.some in
    record {
      some = (some.0 ++ placed_event c.in-Some.event.now ∷ [], subst (LoadsOn c.take_event.new.self (some.0 ++ placed_event c.in-Some.event.now ∷ [])) c.in_default-2.is (c.in_ok-fault.ensures some.0 some.1));
      texts = (subst HaveTexts e c.loop-event.invariant.texts).1;
      loaded = λ told h.
          let k = subst (λ v. LoadedSoFar c.loop-event.self told c.args.events.now v) e (c.loop-event.invariant.loaded told h) in
          one_loaded c.loop-event.self c.take_event.new.self told c.args.events.now c.in-Some.after.now c.in-Some.event.now k
          (subst (LoadsOn c.take_event.new.self (k.so_far ++ placed_event c.in-Some.event.now ∷ [])) c.in_default-2.is (c.in_ok-fault.ensures k.so_far k.loaded));
    }
