use Rattle.std.proofs.Common.{refl}
use Rattle.der_codec.proofs.LeavesJudged.{date_run, date_given, date_refused, no_date}
use Rattle.der_codec.proofs.leaves.judge_date.Goals as goal

pub returns-then-not-is_date_text-clause-judged : goal.returns-then-not-is_date_text-clause-judged
returns-then-not-is_date_text-clause-judged c =
    no_date c.args.simple.now c.args.octets.now c.no_date.result c.requires.kind (λ is. absurd (let both = c.if-not-is_date_text.ensures.1 is in cc)) c.no_date.ensures

pub tell-requires-clause-run : goal.tell-requires-clause-run
tell-requires-clause-run c = (date_run c.args.simple.now.kind c.args.octets.now (c.if-not-is_date_text.ensures.0 refl)).0

pub returns-in-Ok-clause-judged : goal.returns-in-Ok-clause-judged
returns-in-Ok-clause-judged c =
    let is = c.if-not-is_date_text.ensures.0 refl in
    let r = date_run c.args.simple.now.kind c.args.octets.now is in
    date_given c.args.simple.now c.args.octets.now c.requires.kind is c.in-Ok.ensures.told

pub returns-in-Err-clause-judged : goal.returns-in-Err-clause-judged
returns-in-Err-clause-judged c =
    let is = c.if-not-is_date_text.ensures.0 refl in
    date_refused c.args.simple.now c.args.octets.now c.in-Err.refusal c.requires.kind is c.in-Err.ensures.told
