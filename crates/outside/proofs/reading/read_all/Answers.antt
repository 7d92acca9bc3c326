-- One byte beyond the limit was taken, and no more.
use Rattle.std.proofs.Common.{◌≡◌, ◌+◌, ◌++◌, length, take, arith, length-append}
use Rattle.std.proofs.KnownBytes.{Consumes-trans, Consumes-kept}
use Rattle.outside.proofs.reading.read_all.Goals as goal

pub returns-then-count-room-clause-stops : goal.returns-then-count-room-clause-stops
returns-then-count-room-clause-stops g c told =
    let before = c.loop-count.bytes.items in
    let piece = take c.in-Ok.count c.pull_within.new.buf in
    let long : length (before ++ piece) ≡ c.args.limit + 1 = omega (arith, length-append before piece, c.in-Ok.ensures.bound.1, c.in-Ok.ensures.within) in
    (before ++ piece, Consumes-trans _ _ _ before piece c.loop-count.invariant.front c.in-Ok.ensures.bytes.0, long)

-- a pull that failed gave none
pub returns-in_default-clause-failed : goal.returns-in_default-clause-failed
returns-in_default-clause-failed g c _ =
    (c.loop-count.bytes.items, Consumes-kept _ _ _ c.loop-count.bytes.items c.loop-count.invariant.front c.in_default.ensures.bytes, c.loop-count.invariant.limit)
