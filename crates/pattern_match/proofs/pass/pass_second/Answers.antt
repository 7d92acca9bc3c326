use Rattle.std.proofs.Common.{◌∙◌, [], set, ap, arith}
use Rattle.pattern_match.specs.Marking.{second_pass}
use Rattle.pattern_match.proofs.Walking.{ends, done_second}
use Rattle.pattern_match.proofs.pass.pass_second.Goals as goal

pub returns-clause-done : goal.returns-clause-done
returns-clause-done c =
    let a = c.at.ensures in
    ends c.args.code.now c.loop-marks.marks c.put_last.new.self c.is_live.result c.loop-marks.invariant.listed (let t = c.loop-marks-test.false in omega arith) c.put_last.ensures

pub returns-clause-marks : goal.returns-clause-marks
returns-clause-marks c =
    let a = c.at.ensures in
    ap (λ w. w.cells) c.put_last.ensures
    ∙ ap (λ b. set c.loop-marks.marks.cells c.loop-marks.marks.at b) c.is_live.ensures
    ∙ done_second c.args.code.now c.loop-marks.marks c.loop-marks.flow.live c.loop-marks.flow.frames c.loop-marks.invariant.listed (let t = c.loop-marks-test.false in omega arith)
    ∙ c.loop-marks.invariant.rest ∙ ap (λ m. second_pass c.args.code.now m c.args.flow.now.live []) c.begin_pass.ensures.cells
