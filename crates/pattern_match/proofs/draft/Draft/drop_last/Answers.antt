use Rattle.std.proofs.Common.{length, subst, ap, arith}
use Rattle.pattern_match.specs.inner.Drafting.{live, Loses}
use Rattle.pattern_match.proofs.DraftLemmas.{live_le, loses_length, loses_live, loses_keeps}
use Rattle.pattern_match.proofs.draft.Draft.drop_last.Goals as goal

pub invariant_of-self : goal.invariant_of-self
invariant_of-self c =
    let s = c.saturating_sub-self-inside.ensures in
    let l = c.saturating_sub-left.ensures in
    let n = c.len.ensures in
    let m = c.len-2.ensures in
    let v = ap (λ x. length (live x)) c.self.view_is in
    let a = loses_length c.self.inside.cells.items c.pop_last.new.cells.items c.pop_last.ensures in
    let b = live_le c.pop_last.new.cells.items in
    omega (arith, c.pop_last.new.cells.ok.0)

pub returns-clause-code : goal.returns-clause-code
returns-clause-code c =
    loses_live c.args.self.now c.pop_last.new.cells.items (subst (λ x. Loses x c.pop_last.new.cells.items) c.self.view_is c.pop_last.ensures)

pub returns-clause-kept : goal.returns-clause-kept
returns-clause-kept c place h =
    (loses_keeps c.args.self.now c.pop_last.new.cells.items place h (subst (λ x. Loses x c.pop_last.new.cells.items) c.self.view_is c.pop_last.ensures)).keeps

pub returns-clause-group : goal.returns-clause-group
returns-clause-group c place h =
    let k = loses_keeps c.args.self.now c.pop_last.new.cells.items place h (subst (λ x. Loses x c.pop_last.new.cells.items) c.self.view_is c.pop_last.ensures) in
    record { place_is = k.keeps.place_is; inside = k.inside }
