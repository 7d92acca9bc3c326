use Rattle.std.proofs.Common.{◌≡◌, ◌∙◌, length, take, set, ap, subst, arith}
use Rattle.pattern_match.proofs.Walking.{ends, done_row}
use Rattle.pattern_match.proofs.Starting.{starts_begin}
use Rattle.pattern_match.proofs.pass.pass_start.Goals as goal

pub loop-marks-init : goal.loop-marks-init
loop-marks-init c =
    starts_begin c.args.code.now c.args.first.now c.begin_pass.new.marks c.relist.new.self c.requires.first c.begin_pass.ensures.listed
    (c.begin_pass.ensures.cells ∙ c.pass_clear.ensures.marks) c.begin_pass.ensures.at c.relist.ensures

pub returns-clause-done : goal.returns-clause-done
returns-clause-done c =
    let a = c.at.ensures in
    ends c.args.code.now c.loop-marks.marks c.put_last.new.self c.is_set.result c.loop-marks.invariant.listed (let t = c.loop-marks-test.false in omega arith) c.put_last.ensures

pub returns-clause-marks : goal.returns-clause-marks
returns-clause-marks c =
    let a = c.at.ensures in
    let h = c.loop-marks.invariant in
    let n : c.loop-marks.marks.at ≡ length c.args.code.now = (let t = c.loop-marks-test.false in let i = h.listed.inside in omega arith) in
    done_row c.loop-marks.marks c.put_last.new.self c.args.first.now.cells (length c.args.code.now) n h.listed.long h.long
    (subst (λ k. take k c.loop-marks.marks.cells ≡ take k c.args.first.now.cells) n h.same)
    (ap (λ w. w.cells) c.put_last.ensures ∙ ap (λ b. set c.loop-marks.marks.cells c.loop-marks.marks.at b) c.is_set.ensures)
