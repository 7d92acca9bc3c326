use Rattle.std.proofs.Common.{take, sym, subst, ap, ◌∙◌}
use Rattle.pattern_match.specs.inner.Drafting.{IsPlace}
use Rattle.pattern_match.proofs.DraftLemmas.{truncated_keeps, truncated_live}
use Rattle.pattern_match.proofs.CellCounts.{Counts, cut_counts}
use Rattle.pattern_match.proofs.draft.Draft.truncate.Goals as goal

pub invariant_of-self : goal.invariant_of-self
invariant_of-self c =
    subst (λ n. Counts n c.truncate.new.self.items) (sym c.saturating_sub-self-inside.ensures)
    (cut_counts c.self.inside.cells.items c.truncate.new.self.items c.args.place (subst (λ x. IsPlace x c.args.place) (sym c.self.view_is) c.requires) c.truncate.ensures.items)

pub returns-clause-code : goal.returns-clause-code
returns-clause-code c =
    truncated_live c.args.self.now c.truncate.new.self.items c.args.place c.requires (c.truncate.ensures.items ∙ ap (λ x. take c.args.place.cell x) c.self.view_is)

pub returns-clause-kept : goal.returns-clause-kept
returns-clause-kept c =
    truncated_keeps c.args.self.now c.truncate.new.self.items c.args.place c.requires (c.truncate.ensures.items ∙ ap (λ x. take c.args.place.cell x) c.self.view_is)
