use Rattle.std.proofs.Common.{sym, ap, ◌∙◌, arith}
use lib.Count.{count_trailing_zeros}
use Rattle.lexical_core.proofs.LaneRuns.{run_bound, run_through, run_stops}
use Rattle.lexical_core.proofs.lanes.run_length.Goals as goal

pub returns-then-others-ne0-clause-count : goal.returns-then-others-ne0-clause-count
returns-then-others-ne0-clause-count g c =
    let others = c.others-others in
    let run = run_stops (g.C.ByteClass.class c.args.class.now) c.args.bytes.now c.loop-at.at 16 (omega arith) (omega arith) (omega (arith, others.ensures)) ∙ ap (count_trailing_zeros 64) (sym others.ensures) in
    omega (arith, run, c.loop-at.invariant.0)

pub returns-then-others-ne0-clause-within : goal.returns-then-others-ne0-clause-within
returns-then-others-ne0-clause-within g c =
    let others = c.others-others in
    let run = run_stops (g.C.ByteClass.class c.args.class.now) c.args.bytes.now c.loop-at.at 16 (omega arith) (omega arith) (omega (arith, others.ensures)) ∙ ap (count_trailing_zeros 64) (sym others.ensures) in
    omega (arith, run, run_bound (g.C.ByteClass.class c.args.class.now) c.args.bytes.now c.loop-at.at c.loop-at.invariant.1)

pub loop-at-preserved : goal.loop-at-preserved
loop-at-preserved g c =
    let run = run_through (g.C.ByteClass.class c.args.class.now) c.args.bytes.now c.loop-at.at 16 (omega arith) (omega (arith, c.others-others.ensures)) in
    (omega (arith, run, c.loop-at.invariant.0), omega arith)
