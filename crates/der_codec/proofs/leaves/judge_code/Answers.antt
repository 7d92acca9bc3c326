use Rattle.std.proofs.Common.{◌≡◌, sym, subst, ◌∙◌, refl}
use Rattle.der_model.proofs.Integers.{integer_same}
use Rattle.der_codec.specs.Judging.{IsXmlCode}
use Rattle.der_codec.proofs.LeavesJudged.{code_fits, no_code}
use Rattle.der_codec.proofs.leaves.judge_code.Goals as goal

pub returns-then-not-is_code-clause-judged : goal.returns-then-not-is_code-clause-judged
returns-then-not-is_code-clause-judged c =
    no_code c.args.simple.now c.args.codes.now c.args.octets.now c.requires.kind c.requires.codes (c.if-not-is_integer.ensures.0 refl)
    (λ place e there.
    let same : place ≡ c.in-Some.place = integer_same place c.in-Some.place (sym e ∙ c.in-Some.ensures.some) in
    absurd (let both = c.if-not-is_code.ensures.1 (subst (IsXmlCode c.args.codes.now) same there) in cc))

pub returns-clause-judged : goal.returns-clause-judged
returns-clause-judged c = code_fits c.args.simple.now c.args.codes.now c.args.octets.now c.in-Some.place c.requires.kind c.requires.codes c.in-Some.ensures.some (c.if-not-is_code.ensures.0 refl)
