use Rattle.std.proofs.Common.{◌+◌, ◌-◌, length, get_or, sym, ap, ◌∙◌, arith}
use Rattle.std.proofs.Math.ListN.{drop_of_length-le}
use Rattle.pattern_match.specs.Building.{is_item}
use Rattle.pattern_match.specs.inner.Drafting.{live}
use Rattle.pattern_match.proofs.DraftLemmas.{group_drop}
use Rattle.pattern_match.proofs.CellCounts.{item_behind}
use Rattle.pattern_match.proofs.draft.Draft.has_one_item.Goals as goal

pub returns-in-Some-clause-item : goal.returns-in-Some-clause-item
returns-in-Some-clause-item c =
    let a = c.if-place-saturating_sub.true in
    let b = c.saturating_sub.ensures in
    let n = c.len.ensures in
    let v = ap (λ x. length x) c.self.view_is in
    item_behind c.args.self.now c.args.place c.in-Some.first c.index.result.now c.saturating_sub-behind.result c.requires (omega (arith, c.self.inside.cells.ok.0))
    (sym c.in-Some.is ∙ c.index.ensures ∙ ap (λ x. get_or x (c.args.place.cell + 1) c.index.result.now) c.self.view_is)
    (c.saturating_sub-behind.ensures
    ∙ ap (λ x. x - 2) (c.saturating_sub-then-place-saturating_sub.ensures ∙ ap (λ x. x - c.args.place.count) c.len-then-place-saturating_sub.ensures))
    c.is_one_item.result c.is_one_item.ensures
    ∙ ap is_item (sym (group_drop c.args.self.now c.args.place c.requires))

pub returns-clause-item : goal.returns-clause-item
returns-clause-item c =
    let a = c.if-place-saturating_sub.false in
    let b = c.saturating_sub.ensures in
    let n = c.len.ensures in
    let v = ap (λ x. length x) c.self.view_is in
    sym (ap is_item (group_drop c.args.self.now c.args.place c.requires ∙ ap live (drop_of_length-le c.args.self.now (omega (arith, c.self.inside.cells.ok.0)))))
