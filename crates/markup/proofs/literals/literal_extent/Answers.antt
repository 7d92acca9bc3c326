use Rattle.std.proofs.Common.{◌+◌, ◌<◌, length, arith}
use Rattle.markup.proofs.LiteralRuns.{walked_none, walked_plain, walked_wide, walked_run, is_shorter}
use Rattle.markup.proofs.literals.literal_extent.Goals as goal

pub returns-in_default-clause-only : goal.returns-in_default-clause-only
returns-in_default-clause-only c =
    let n = c.literal_length-plain.result in
    walked_run c.args.piece.now (c.loop-size.bytes + n) (c.loop-size.characters + n) c.split_at.result.1.now
    (walked_plain c.args.piece.now c.loop-size.bytes c.loop-size.characters n c.loop-size.rest.now c.split_at.result.1.now c.loop-size.invariant.0 c.literal_length-plain.ensures.count c.literal_length-plain.ensures.within c.split_at.ensures.back)

pub loop-size-smaller : goal.loop-size-smaller
loop-size-smaller c =
    let s : length c.split_at-in-loop-size.result.1.now < length c.split_at.result.1.now = is_shorter c.in-Some.size c.split_at.result.1.now c.split_at-in-loop-size.result.1.now c.in-Some.ensures c.split_at-in-loop-size.ensures.back in
    omega (arith, s, c.split_at.ensures.back_len)

pub loop-size-preserved : goal.loop-size-preserved
loop-size-preserved c =
    let n = c.literal_length-plain.result in (
      walked_wide c.args.piece.now (c.loop-size.bytes + n) (c.loop-size.characters + n) c.in-Some.size c.split_at.result.1.now c.split_at-in-loop-size.result.1.now
          (walked_plain c.args.piece.now c.loop-size.bytes c.loop-size.characters n c.loop-size.rest.now c.split_at.result.1.now c.loop-size.invariant.0 c.literal_length-plain.ensures.count c.literal_length-plain.ensures.within c.split_at.ensures.back)
          c.in-Some.ensures c.split_at-in-loop-size.ensures.back,
      omega (arith, c.loop-size.invariant.1, c.literal_length-plain.ensures.count),
    )

pub loop-size-init : goal.loop-size-init
loop-size-init c = (walked_none c.args.piece.now, omega arith)
