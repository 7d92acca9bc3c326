use Rattle.std.proofs.Common.{◌≡◌, length, ap, arith}
use Rattle.pattern_match.specs.Recall.{rows_of}
use Rattle.pattern_match.proofs.RecallRows.{count_rows}
use Rattle.pattern_match.proofs.recall.Recall.row.Goals as goal

pub row_of-requires-clause-at : goal.row_of-requires-clause-at
row_of-requires-clause-at c =
    let own = c.self.inside in
    let same : length (rows_of own.count own.width own.cells.items) ≡ length c.args.self.now.rows = ap (λ k. length k.rows) c.self.view_is in
    let all = count_rows own.count own.width own.cells.items in
    omega (arith, same, all, c.requires)
