use Rattle.std.proofs.Common.{◌≡◌, [], sym, subst, ◌∙◌}
use Rattle.pattern_match.specs.Marks.{first_rest}
use Rattle.pattern_match.proofs.Walking.{skipped_first}
use Rattle.pattern_match.proofs.Quiet.{branch_first}
use Rattle.pattern_match.proofs.pass.skip_first.Goals as goal

pub returns-then-is_idle-clause-rest : goal.returns-then-is_idle-clause-rest
returns-then-is_idle-clause-rest c admits =
    let idle = c.is_idle.ensures c.if-is_idle.true in
    let code = c.args.code.now in
    subst (λ f. first_rest admits code c.skip_unset-then-is_idle.new.marks c.args.flow.now.live f ≡ first_rest admits code c.args.marks.now c.args.flow.now.live f) (sym idle.1)
    (subst (λ b. first_rest admits code c.skip_unset-then-is_idle.new.marks b [] ≡ first_rest admits code c.args.marks.now b []) (sym idle.0)
    (skipped_first admits code c.forget_group.new.marks c.skip_unset-then-is_idle.new.marks c.skip_unset-then-is_idle.ensures.skips
    ∙ skipped_first admits code c.skip_unset.new.marks c.forget_group.new.marks c.forget_group.ensures
    ∙ skipped_first admits code c.args.marks.now c.skip_unset.new.marks c.skip_unset.ensures.skips))

pub returns-clause-rest : goal.returns-clause-rest
returns-clause-rest c admits =
    let code = c.args.code.now in
    subst (λ b. first_rest admits code c.skip_branch.new.marks b c.args.flow.now.frames ≡ first_rest admits code c.args.marks.now b c.args.flow.now.frames)
    (sym c.if-is_live.false ∙ c.is_live.ensures)
    (branch_first code c.args.marks.now c.skip_branch.new.marks c.skip_branch.ensures.skips c.skip_branch.ensures.quiet admits c.args.flow.now.frames)
