use Rattle.std.proofs.Common.{◌≡◌, ◌+◌, ◌∷◌, ◌++◌, [], inr, length, ap, ◌∙◌, rules}
use Rattle.pattern_match.specs.Recall.{rows_of}
use Rattle.pattern_match.proofs.RecallRows.{count_rows, one_kept, kept_row}
use Rattle.pattern_match.proofs.recall.Recall.keep.Goals as goal

pub returns-clause-row : goal.returns-clause-row
returns-clause-row c =
    let own = c.self.inside in
    let long : length c.args.marks.now ≡ own.width = search rules in
    let grown : c.extend_from_slice.new.self.items ≡ own.cells.items ++ c.args.marks.now = search rules in
    kept_row (rows_of (own.count + 1) own.width c.extend_from_slice.new.self.items) (rows_of own.count own.width own.cells.items) c.args.marks.now own.count
    (one_kept own.count own.width own.cells.items c.args.marks.now c.extend_from_slice.new.self.items grown c.self.invariant.0 long)
    (count_rows own.count own.width own.cells.items)

pub returns-clause-rows : goal.returns-clause-rows
returns-clause-rows c =
    let own = c.self.inside in
    let long : length c.args.marks.now ≡ own.width = search rules in
    let grown : c.extend_from_slice.new.self.items ≡ own.cells.items ++ c.args.marks.now = search rules in
    inr (
    one_kept own.count own.width own.cells.items c.args.marks.now c.extend_from_slice.new.self.items grown c.self.invariant.0 long
    ∙ ap (λ k. k.rows ++ c.args.marks.now ∷ []) c.self.view_is
    )
