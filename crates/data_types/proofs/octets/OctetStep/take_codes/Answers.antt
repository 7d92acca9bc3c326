use Rattle.std.proofs.Common.{◌++◌, sym, ap, subst, ◌∙◌, append_assoc, take_all, arith}
use Rattle.std.proofs.lemmas.List.{take_more}
use Rattle.data_types.specs.OctetSteps.{HasDecoded}
use Rattle.data_types.proofs.octets.OctetStep.take_codes.Goals as goal

pub loop-code-preserved : goal.loop-code-preserved
loop-code-preserved c =
    let at = c.loop-code.code-index in
    let codes = c.args.codes.now in
    let before = c.loop-code.invariant in
    let room = before.room in
    let count = before.count in
    record {
      text = λ most text h.
          subst (HasDecoded c.take.new.self most) (append_assoc text _ _ ∙ ap (λ t. text ++ t) (sym (take_more codes at 0 c.loop-code-test.true)))
          (c.in-Ok.ensures.ok most _ (before.text most text h));
      room = omega (arith, room, c.take.ensures.room);
      count = omega (arith, count, c.take.ensures.count);
    }

pub returns-clause-text : goal.returns-clause-text
returns-clause-text c = λ most text h.
    subst (HasDecoded c.loop-code.self most) (ap (λ t. text ++ t) (take_all c.loop-code.code-index c.args.codes.now c.loop-code-test.false)) (c.loop-code.invariant.text most text h)
