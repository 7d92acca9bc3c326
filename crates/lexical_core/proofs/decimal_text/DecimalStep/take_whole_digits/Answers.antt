use Rattle.std.proofs.Common.{length, ◌++◌, take_all, sym, ap, subst, ◌∙◌, append_assoc, arith}
use Rattle.std.proofs.lemmas.List.{take_more}
use Rattle.lexical_core.specs.DecimalSoFar.{HasRead}
use Rattle.lexical_core.proofs.decimal_text.DecimalStep.take_whole_digits.Goals as goal

pub loop-count-preserved : goal.loop-count-preserved
loop-count-preserved c =
    let before = c.loop-count.invariant in
    record {
      stage = c.push_digit.ensures.stage;
      read = λ text h.
          subst (HasRead c.push_digit.new.self)
          (append_assoc text _ _ ∙ ap (λ t. text ++ t) (sym (take_more c.args.codes.now c.loop-count.count 0 c.loop-count-test.true)))
          (c.push_digit.ensures.read _ (before.read text h));
    }

pub returns-clause-read : goal.returns-clause-read
returns-clause-read c = λ text h.
    let codes = c.args.codes.now in
    subst (λ t. HasRead c.loop-count.step (text ++ t))
    (take_all c.loop-count.count codes c.loop-count-test.false ∙ sym (take_all (length codes) codes (omega arith)))
    (c.loop-count.invariant.read text h)
