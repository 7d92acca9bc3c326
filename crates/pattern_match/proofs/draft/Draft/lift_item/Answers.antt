use Rattle.std.proofs.Common.{◌≡◌, ◌++◌, ◌+◌, ◌-◌, ◌<◌, false, Option, None, List, length, take, drop, set, refl, sym, subst, ap, ◌∙◌, arith}
use Rattle.std.proofs.lemmas.List.{length-set}
use Rattle.pattern_match.specs.declared.instruction.Instruction.{Instruction}
use Rattle.pattern_match.specs.inner.Drafting.{live, flagged_cell, lift_group, IsGroup}
use Rattle.pattern_match.proofs.DraftLemmas.{live_le, lift_live, lift_keeps}
use Rattle.pattern_match.proofs.CellCounts.{lifts}
use Rattle.pattern_match.proofs.draft.Draft.lift_item.Goals as goal

pub invariant_of-self : goal.invariant_of-self
invariant_of-self c =
    let xs : List (Option Instruction) = c.self.inside.cells.items in
    let v = c.self.view_is in
    let ys : List (Option Instruction) = set xs c.args.place.cell c.cell_with_flags.result in
    let new : List (Option Instruction) = set ys (c.args.place.cell + 1) None in
    let r = lifts c.args.empty xs c.args.place c.cell_with_flags.result c.index.result.now (subst (λ x. IsGroup x c.args.place) (sym v) c.requires.group)
    (subst (λ x. c.args.place.cell + 1 < length x) (sym v) c.requires.some)
    (c.cell_with_flags.ensures ∙ ap (λ i. flagged_cell c.args.empty false i) c.index.ensures) new refl in
    let a : length (live new) ≡ length (live xs) - 1 = r.1 in
    let b = live_le new in
    let s = c.saturating_sub-holes.ensures in
    let t = c.saturating_sub.ensures in
    let n = c.len.ensures in
    let m = c.len-2.ensures in
    let w = ap (λ x. length (live x)) v in
    let p = length-set xs c.args.place.cell c.cell_with_flags.result in
    let q = length-set ys (c.args.place.cell + 1) None in
    let z : c.saturating_sub-holes.result + length (live new) ≡ length new = omega (arith, c.self.inside.cells.ok.0) in
    z

pub returns-clause-code : goal.returns-clause-code
returns-clause-code c =
    let v = c.self.view_is in
    let r = lifts c.args.empty c.self.inside.cells.items c.args.place c.cell_with_flags.result c.index.result.now
    (subst (λ x. IsGroup x c.args.place) (sym v) c.requires.group) (subst (λ x. c.args.place.cell + 1 < length x) (sym v) c.requires.some)
    (c.cell_with_flags.ensures ∙ ap (λ i. flagged_cell c.args.empty false i) c.index.ensures) _ refl in
    lift_live c.args.empty c.args.self.now _ c.args.place c.requires.group
    (r.0 ∙ ap (λ x. take c.args.place.cell x ++ lift_group c.args.empty (drop (c.args.place.cell + 1) x)) v)

pub returns-clause-kept : goal.returns-clause-kept
returns-clause-kept c =
    let v = c.self.view_is in
    let r = lifts c.args.empty c.self.inside.cells.items c.args.place c.cell_with_flags.result c.index.result.now
    (subst (λ x. IsGroup x c.args.place) (sym v) c.requires.group) (subst (λ x. c.args.place.cell + 1 < length x) (sym v) c.requires.some)
    (c.cell_with_flags.ensures ∙ ap (λ i. flagged_cell c.args.empty false i) c.index.ensures) _ refl in
    lift_keeps c.args.empty c.args.self.now _ c.args.place c.requires.group
    (r.0 ∙ ap (λ x. take c.args.place.cell x ++ lift_group c.args.empty (drop (c.args.place.cell + 1) x)) v)
