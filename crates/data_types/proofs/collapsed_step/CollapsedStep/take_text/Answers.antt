use Rattle.std.proofs.Common.{◌≡◌, [], ◌∷◌, length, sym, ap, subst, ◌∙◌, length-append, arith}
use Rattle.std.proofs.lemmas.Iterator.{YieldsList-from_chars}
use Rattle.std.proofs.lemmas.Iterator.Consumers.{YieldsList-end}
use Rattle.std.proofs.lemmas.Str.{encodes-chars, length-le-encodes}
use Rattle.std.specs.Str.{chars}
use Rattle.std.proofs.lemmas.List.{map-id}
use Rattle.data_types.specs.inner.Taking.{TakesChars}
use Rattle.data_types.proofs.TakingLemmas.{takes_none, takes_then, takes_within}
use Rattle.data_types.proofs.collapsed_step.CollapsedStep.take_text.Goals as goal

pub loop-c-init : goal.loop-c-init
loop-c-init c = takes_none c.args.self.now

pub loop-c-preserved : goal.loop-c-preserved
loop-c-preserved c =
    let size = length-append c.loop-c.yielded (c.in-Some.c ∷ []) in
    takes_within _ _ _ _ _ (omega (arith, size))
    (takes_then _ _ _ c.loop-c.yielded (c.in-Some.c ∷ []) _ 1 c.loop-c.invariant (record { taken = c.in-Ok.ensures.ok; room = c.take.ensures.room; count = c.take.ensures.count }))

pub returns : goal.returns
returns c =
    let text = c.args.text.now in
    let ended = YieldsList-end (YieldsList-from_chars text c.utf8.text cc) c.loop-c.yielded _ c.loop-c.yielded_by _ _ c.in-None.is c.next.ensures.steps in
    let all : c.loop-c.yielded ≡ chars text = sym (map-id c.loop-c.yielded) ∙ ended.0 in
    takes_within _ _ _ _ _ (omega (arith, ap length all, length-le-encodes (chars text), ap length (encodes-chars text c.utf8.text)))
    (subst (λ s. TakesChars c.args.self.now c.loop-c.self s (length c.loop-c.yielded)) all c.loop-c.invariant)
