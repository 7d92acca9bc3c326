-- From what the message refers to on.
use Rattle.reference_check.proofs.Marking.{fresh_marks, started}
use Rattle.reference_check.proofs.search.marks_of.Goals as goal

pub returns-clause-long : goal.returns-clause-long
returns-clause-long c = c.in_ok-follow.ensures.long

pub returns-clause-marks : goal.returns-clause-marks
returns-clause-marks c = λ m found.
    let R = c.args.repository.now in
    let s = c.in_ok-marks.marks in
    let fresh = fresh_marks R m c.object_count.result s.marked.items s.waiting.items c.in_ok-marks.ensures.0 c.in_ok-marks.ensures.1 in
    let start = started R m c.args.definition.now s c.mark_targets.new.self found fresh c.in_ok-mark_targets.ensures in
    c.in_ok-follow.ensures.marks m start.0 start.1
