use Rattle.der_codec.proofs.LeavesJudged.{text_fits, text_refused}
use Rattle.der_codec.proofs.leaves.judge_text.Goals as goal

pub returns-in-Ok-clause-judged : goal.returns-in-Ok-clause-judged
returns-in-Ok-clause-judged c =
    let r = c.in-Some.ensures.some in
    let g = c.in-Ok.ensures.told r in
    text_fits c.args.simple.now c.args.octets.now c.in-Some.count g.0 c.requires.kind c.requires.codes r g.1

pub returns-in-Err-clause-judged : goal.returns-in-Err-clause-judged
returns-in-Err-clause-judged c =
    let r = c.in-Some.ensures.some in
    text_refused c.args.simple.now c.args.octets.now c.in-Some.count c.in-Err.refusal c.requires.kind c.requires.codes r (c.in-Err.ensures.told r)
