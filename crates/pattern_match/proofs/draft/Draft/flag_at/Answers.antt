use Rattle.std.proofs.Common.{◌++◌, length, take, drop, set, ap, ◌∙◌, arith}
use Rattle.pattern_match.specs.inner.Drafting.{flagged_cell, flagged_cells}
use Rattle.pattern_match.proofs.DraftLemmas.{flags_live, flags_keeps, ended_flags, same_keeps}
use Rattle.pattern_match.proofs.CellCounts.{flagged_at, flagged_counts}
use Rattle.pattern_match.proofs.draft.Draft.flag_at.Goals as goal

pub invariant_of-self : goal.invariant_of-self
invariant_of-self c =
    flagged_counts c.args.optional c.args.repeated c.self.inside.cells.items c.args.place.cell c.cell_with_flags.result c.index.result.now c.self.inside.holes
    (c.cell_with_flags.ensures ∙ ap (λ i. flagged_cell c.args.optional c.args.repeated i) c.index.ensures) c.self.invariant

pub returns-then-place-len-clause-code : goal.returns-then-place-len-clause-code
returns-then-place-len-clause-code c =
    flags_live c.args.optional c.args.repeated c.args.self.now _ c.args.place c.requires
    (ap (λ i. set c.self.inside.cells.items c.args.place.cell i) (c.cell_with_flags.ensures ∙ ap (λ i. flagged_cell c.args.optional c.args.repeated i) c.index.ensures)
    ∙ flagged_at c.args.optional c.args.repeated c.self.inside.cells.items c.args.place.cell c.index.result.now (omega arith)
    ∙ ap (λ x. take c.args.place.cell x ++ flagged_cells c.args.optional c.args.repeated (drop c.args.place.cell x)) c.self.view_is)

pub returns-then-place-len-clause-kept : goal.returns-then-place-len-clause-kept
returns-then-place-len-clause-kept c =
    flags_keeps c.args.optional c.args.repeated c.args.self.now _ c.args.place c.requires
    (ap (λ i. set c.self.inside.cells.items c.args.place.cell i) (c.cell_with_flags.ensures ∙ ap (λ i. flagged_cell c.args.optional c.args.repeated i) c.index.ensures)
    ∙ flagged_at c.args.optional c.args.repeated c.self.inside.cells.items c.args.place.cell c.index.result.now (omega arith)
    ∙ ap (λ x. take c.args.place.cell x ++ flagged_cells c.args.optional c.args.repeated (drop c.args.place.cell x)) c.self.view_is)

pub returns-else-place-len-clause-code : goal.returns-else-place-len-clause-code
returns-else-place-len-clause-code c =
    let a = c.if-place-len.false in
    let b = c.len.ensures in
    let v = ap (λ x. length x) c.self.view_is in
    ended_flags c.args.optional c.args.repeated c.args.self.now c.args.place c.requires (omega (arith, c.self.inside.cells.ok.0))

pub returns-else-place-len-clause-kept : goal.returns-else-place-len-clause-kept
returns-else-place-len-clause-kept c = same_keeps c.args.self.now c.args.place c.requires
