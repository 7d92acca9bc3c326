use Rattle.std.proofs.Common.{inl, [], Some, refl, sym, ap, ◌∙◌}
use Rattle.pattern_match.proofs.Recalling.{longer, row_stays, table_stays, noted}
use Rattle.pattern_match.proofs.recall.Recall.learn.Goals as goal

pub returns-in_err-after-clause-table : goal.returns-in_err-after-clause-table
returns-in_err-after-clause-table c next h f =
    table_stays next c.args.self.now c.number.new.self c.args.marks.now c.number.ensures.table c.number.ensures.rows h

pub returns-clause-row : goal.returns-clause-row
returns-clause-row c =
    row_stays c.number.new.self c.note.new.self [] (inl c.note.ensures.rows) (Some c.in_ok-after.after) c.args.marks.now c.in_ok-after.ensures.row

pub returns-clause-table : goal.returns-clause-table
returns-clause-table c next h f =
    let r = c.in_ok-after.ensures.row c.in_ok-after.after refl in
    let a = f c.in_ok-before.before c.in_ok-before.was in
    let j = longer c.args.self.now c.number.new.self c.args.marks.now c.number.ensures.rows c.in_ok-before.before a.0 in
    noted next c.number.new.self c.note.new.self c.in_ok-before.before c.args.c c.in_ok-after.after c.note.ensures.rows c.note.ensures.table j.0 r.0
    (r.1 ∙ a.1 ∙ ap (λ x. next c.args.c x) (sym j.1))
    (table_stays next c.args.self.now c.number.new.self c.args.marks.now c.number.ensures.table c.number.ensures.rows h)
