use Rattle.std.proofs.Common.{length, sym, ap, ◌∙◌}
use Rattle.pattern_match.proofs.RecallRows.{count_rows}
use Rattle.pattern_match.proofs.recall.Recall.len.Goals as goal

pub returns : goal.returns
returns c = sym (count_rows c.self.inside.count c.self.inside.width c.self.inside.cells.items) ∙ ap (λ k. length k.rows) c.self.view_is
