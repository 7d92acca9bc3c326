use Rattle.std.proofs.Common.{◌+◌, ◌<◌, min, length, get_or, ap, ap₂, ◌∙◌, subst}
use Rattle.pattern_match.proofs.Quiet.{branch_to}
use Rattle.pattern_match.proofs.pass.skip_branch.Goals as goal

pub returns-clause-skips : goal.returns-clause-skips
returns-clause-skips c =
    let a = c.at-i.ensures in
    (branch_to c.args.code.now c.args.marks.now c.jump.new.self c.gap_at.result c.requires.listed c.requires.quiet (subst (λ k. k < length c.args.code.now) a c.if-i-code.false)
    (c.gap_at.ensures ∙ ap₂ (λ x k. get_or x k 0) c.requires.gaps a)
    (c.jump.ensures ∙ ap (λ k. record c.args.marks.now { at = k }) (c.min.ensures ∙ ap₂ (λ x k. min x (k + c.gap_at.result)) c.next.ensures a))).0

pub returns-clause-quiet : goal.returns-clause-quiet
returns-clause-quiet c =
    let a = c.at-i.ensures in
    (branch_to c.args.code.now c.args.marks.now c.jump.new.self c.gap_at.result c.requires.listed c.requires.quiet (subst (λ k. k < length c.args.code.now) a c.if-i-code.false)
    (c.gap_at.ensures ∙ ap₂ (λ x k. get_or x k 0) c.requires.gaps a)
    (c.jump.ensures ∙ ap (λ k. record c.args.marks.now { at = k }) (c.min.ensures ∙ ap₂ (λ x k. min x (k + c.gap_at.result)) c.next.ensures a))).1
