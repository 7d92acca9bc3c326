use Rattle.std.proofs.Common.{take, sym, ap, ◌∙◌}
use Rattle.pattern_match.proofs.RecallRows.{row_at}
use Rattle.pattern_match.proofs.recall.row_of.Goals as goal

pub returns : goal.returns
returns c =
    c.split_at-2.ensures.front ∙ ap (λ t. take c.args.width t) c.split_at.ensures.back
    ∙ sym (row_at c.args.count c.args.width c.args.cells.now c.args.at c.requires.at)
