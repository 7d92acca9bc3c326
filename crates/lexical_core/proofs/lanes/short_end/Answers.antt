use Rattle.std.proofs.Common.{sym, ap, ◌∙◌, arith}
use lib.Count.{count_trailing_zeros}
use Rattle.lexical_core.proofs.LaneRuns.{run_bound, run_through, run_stops}
use Rattle.lexical_core.proofs.lanes.short_end.Goals as goal

pub returns-then-others-ne0-clause-count : goal.returns-then-others-ne0-clause-count
returns-then-others-ne0-clause-count g c =
    let others = c.others_of_eight-others in
    let run = run_stops (g.C.ByteClass.class c.args.class.now) c.args.bytes.now c.args.at 8 (omega arith) (omega arith) (omega (arith, others.ensures)) ∙ ap (count_trailing_zeros 64) (sym others.ensures) in
    omega (arith, run)

pub returns-then-others-ne0-clause-within : goal.returns-then-others-ne0-clause-within
returns-then-others-ne0-clause-within g c =
    let others = c.others_of_eight-others in
    let run = run_stops (g.C.ByteClass.class c.args.class.now) c.args.bytes.now c.args.at 8 (omega arith) (omega arith) (omega (arith, others.ensures)) ∙ ap (count_trailing_zeros 64) (sym others.ensures) in
    omega (arith, run, run_bound (g.C.ByteClass.class c.args.class.now) c.args.bytes.now c.args.at c.requires)

pub returns-clause-count : goal.returns-clause-count
returns-clause-count g c =
    let run = run_through (g.C.ByteClass.class c.args.class.now) c.args.bytes.now c.args.at 8 (omega arith) (omega (arith, c.others_of_eight-others.ensures)) in
    omega (arith, run, c.end_by_one-2.ensures.count)
