use Rattle.std.proofs.Common.{◌++◌, ◌∷◌, [], Some, ap, ◌∙◌}
use Rattle.pattern_match.specs.inner.Drafting.{live}
use Rattle.pattern_match.proofs.DraftLemmas.{live_append}
use Rattle.pattern_match.proofs.CellCounts.{pushed_counts}
use Rattle.pattern_match.proofs.draft.Draft.push.Goals as goal

pub invariant_of-self-2 : goal.invariant_of-self-2
invariant_of-self-2 c =
    pushed_counts c.self.inside.cells.items c.push.new.self.items c.args.instruction c.self.inside.holes c.in_ok-push.ensures.items c.self.invariant

pub returns-clause-code : goal.returns-clause-code
returns-clause-code c =
    ap live c.in_ok-push.ensures.items ∙ live_append c.self.inside.cells.items (Some c.args.instruction ∷ [])
    ∙ ap (λ x. live x ++ c.args.instruction ∷ []) c.self.view_is
