use Rattle.std.proofs.Common.{[], ap, ◌∙◌, chars, length, sym, subst}
use Rattle.pattern_match.specs.Marks.{AreEnded, IsDone}
use Rattle.pattern_match.specs.Compiled.{follows, code_of_text, tokens_of_text}
use Rattle.pattern_match.proofs.Recalling.{table_stays, nothing_right}
use Rattle.pattern_match.proofs.Stepping.{begun}
use Rattle.pattern_match.proofs.Ended.{code_ended, none_done}
use Rattle.pattern_match.proofs.matcher.Matcher.new.Goals as goal

pub begin_marks-requires-clause-done : goal.begin_marks-requires-clause-done
begin_marks-requires-clause-done c =
    let e = c.code-count.ensures.code in
    none_done (code_of_text (chars c.args.pattern.now)) (length c.code-count.result.now) c.in_ok-start.start (ap length e)
    (subst (λ x. AreEnded (length x) x) e (code_ended c.args.pattern.now (tokens_of_text (chars c.args.pattern.now)) c.code-count.result.now c.code-count.ensures.compiled))
    c.in_ok-start.ensures

pub pass_start-requires-clause-done : goal.pass_start-requires-clause-done
pass_start-requires-clause-done c =
    none_done c.code.result.now (length c.code-count.result.now) c.in_ok-marks.marks (ap length (c.code-count.ensures.code ∙ sym c.code.ensures.code))
    (code_ended c.args.pattern.now (tokens_of_text (chars c.args.pattern.now)) c.code.result.now c.code.ensures.compiled) c.in_ok-marks.ensures

pub returns-clause-read : goal.returns-clause-read
returns-clause-read c =
    begun c.args.pattern.now _ c.cells.result.now (c.cells.ensures ∙ c.pass_start.ensures.marks ∙ c.begin_marks.ensures.start.marks) c.cells.ensures
    (table_stays (follows c.args.pattern.now) c.in_ok-recall.recall c.number-first.new.self c.cells.result.now c.number-first.ensures.table c.number-first.ensures.rows
    (nothing_right (follows c.args.pattern.now) c.in_ok-recall.recall c.in_ok-recall.ensures.table))
    c.number-first.ensures.row c.number-first.ensures.row
    (subst (λ x. IsDone x c.pass_start.new.marks) c.code.ensures.code c.pass_start.ensures.done) c.begin_marks.ensures.start

pub returns-clause-made : goal.returns-clause-made
returns-clause-made c = ([], returns-clause-read c)
