use Rattle.std.proofs.Common.{[], ◌∷◌, ◌++◌, sym, subst, ◌∙◌, append_assoc}
use Rattle.std.proofs.lemmas.List.{map-id}
use Rattle.std.proofs.lemmas.Iterator.{YieldsList-from_chars}
use Rattle.std.proofs.lemmas.Iterator.Consumers.{YieldsList-end}
use Rattle.facets.specs.PatternChecks.{HasAsked}
use Rattle.facets.proofs.asked.Asked.take_text.Goals as goal

pub loop-c-preserved : goal.loop-c-preserved
loop-c-preserved c =
    let before = c.loop-c.invariant in (
      (_, c.take.ensures before.0.0 before.0.1),
      λ text h. subst (HasAsked c.take.new.self c.args.simple.now) (append_assoc text c.loop-c.yielded (c.in-Some.c ∷ [])) (c.take.ensures _ (before.1 text h)),
    )

pub returns : goal.returns
returns c = λ text h.
    let t = YieldsList-end (YieldsList-from_chars c.args.text.now c.utf8.text cc) c.loop-c.yielded _ c.loop-c.yielded_by _ _ c.in-None.is c.next.ensures.steps in
    subst (λ s. HasAsked c.loop-c.self c.args.simple.now (text ++ s)) (sym (map-id c.loop-c.yielded) ∙ t.0) (c.loop-c.invariant.1 text h)
