use Rattle.std.proofs.Common.{◌+◌, ◌<◌, length, arith}
use Rattle.lexical_core.proofs.XmlRuns.{walked_plain, walked_char, walked_run, walked_longest, is_shorter}
use Rattle.lexical_core.proofs.runs.xml_run.Goals as goal

pub returns-in_default-clause-run : goal.returns-in_default-clause-run
returns-in_default-clause-run c =
    let n = c.plain_count-plain.result in
    walked_run c.args.bytes.now (c.loop-size.count + n) (c.loop-size.characters + n) c.split_at.result.1.now
    (walked_plain c.args.bytes.now c.loop-size.count c.loop-size.characters n c.loop-size.rest.now c.split_at.result.1.now c.loop-size.invariant c.plain_count-plain.ensures.plain c.plain_count-plain.ensures.within c.split_at.ensures.back)

pub returns-in_default-clause-longest : goal.returns-in_default-clause-longest
returns-in_default-clause-longest c =
    let n = c.plain_count-plain.result in
    walked_longest c.args.bytes.now (c.loop-size.count + n) (c.loop-size.characters + n) c.split_at.result.1.now
    (walked_plain c.args.bytes.now c.loop-size.count c.loop-size.characters n c.loop-size.rest.now c.split_at.result.1.now c.loop-size.invariant c.plain_count-plain.ensures.plain c.plain_count-plain.ensures.within c.split_at.ensures.back)
    c.in_default.ensures.none

pub loop-size-smaller : goal.loop-size-smaller
loop-size-smaller c =
    let s : length c.split_at-in-loop-size.result.1.now < length c.split_at.result.1.now =
    is_shorter c.in-Some.size c.split_at.result.1.now c.split_at-in-loop-size.result.1.now c.in-Some.ensures.some c.split_at-in-loop-size.ensures.back in
    omega (arith, s, c.split_at.ensures.back_len)

pub loop-size-preserved : goal.loop-size-preserved
loop-size-preserved c =
    let n = c.plain_count-plain.result in
    walked_char c.args.bytes.now (c.loop-size.count + n) (c.loop-size.characters + n) c.in-Some.size c.split_at.result.1.now c.split_at-in-loop-size.result.1.now
    (walked_plain c.args.bytes.now c.loop-size.count c.loop-size.characters n c.loop-size.rest.now c.split_at.result.1.now c.loop-size.invariant c.plain_count-plain.ensures.plain c.plain_count-plain.ensures.within c.split_at.ensures.back)
    c.in-Some.ensures.some c.split_at-in-loop-size.ensures.back
