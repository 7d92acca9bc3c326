use Rattle.std.proofs.Common.{◌≡◌, ◌-◌, length, ap}
use Rattle.der_writer.proofs.KnownStages.{innermost_none, innermost_some}
use Rattle.der_writer.proofs.lengths.last_ended.Goals as goal

pub returns-then-ended-eq0 : goal.returns-then-ended-eq0
returns-then-ended-eq0 c frames = innermost_none c.args.instance.now c.args.ended frames c.if-ended-eq0.true

pub returns : goal.returns
returns c frames h =
    let place : c.count.result - c.args.ended ≡ length c.args.instance.now.region.pieces - c.args.ended = ap (λ n. n - c.args.ended) c.count.ensures.count in
    innermost_some c.args.instance.now c.args.ended (c.count.result - c.args.ended) c.len.result c.group.result frames c.if-ended-eq0.false place c.len.ensures c.group.ensures h
