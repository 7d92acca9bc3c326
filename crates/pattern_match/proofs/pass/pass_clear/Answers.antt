use Rattle.std.proofs.Common.{◌∙◌, false, ap, arith}
use Rattle.pattern_match.proofs.Walking.{ends, done_clear}
use Rattle.pattern_match.proofs.pass.pass_clear.Goals as goal

pub returns-clause-done : goal.returns-clause-done
returns-clause-done c =
    let a = c.at.ensures in
    ends c.args.code.now c.loop-marks.marks c.put_last.new.self false c.loop-marks.invariant.listed (let t = c.loop-marks-test.false in omega arith) c.put_last.ensures

pub returns-clause-marks : goal.returns-clause-marks
returns-clause-marks c =
    let a = c.at.ensures in
    ap (λ w. w.cells) c.put_last.ensures
    ∙ done_clear c.args.code.now c.loop-marks.marks c.loop-marks.invariant.listed (let t = c.loop-marks-test.false in omega arith) c.loop-marks.invariant.clear
