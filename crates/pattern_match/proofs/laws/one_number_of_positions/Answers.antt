use Rattle.std.proofs.Common.{sym, ap, ◌∙◌}
use Rattle.pattern_match.specs.Positions.{positions}
use Rattle.pattern_match.proofs.OneTree.{one_tree}
use Rattle.pattern_match.proofs.laws.one_number_of_positions.Goals as goal

pub returns : goal.returns
returns c text m n (s, is, e) (t, has, f) = sym e ∙ ap positions (one_tree text s t is has) ∙ f
