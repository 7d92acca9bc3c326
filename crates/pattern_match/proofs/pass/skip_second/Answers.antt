use Rattle.std.proofs.Common.{◌≡◌, [], ◌∙◌, sym, subst}
use Rattle.pattern_match.specs.Marks.{second_rest}
use Rattle.pattern_match.proofs.Walking.{skipped_second}
use Rattle.pattern_match.proofs.Quiet.{branch_second}
use Rattle.pattern_match.proofs.pass.skip_second.Goals as goal

pub returns-then-is_idle-clause-rest : goal.returns-then-is_idle-clause-rest
returns-then-is_idle-clause-rest c =
    let idle = c.is_idle.ensures c.if-is_idle.true in
    let code = c.args.code.now in
    subst (λ f. second_rest code c.skip_unset.new.marks c.args.flow.now.live f ≡ second_rest code c.args.marks.now c.args.flow.now.live f) (sym idle.1)
    (subst (λ b. second_rest code c.skip_unset.new.marks b [] ≡ second_rest code c.args.marks.now b []) (sym idle.0)
    (skipped_second code c.args.marks.now c.skip_unset.new.marks c.skip_unset.ensures.skips))

pub returns-clause-rest : goal.returns-clause-rest
returns-clause-rest c =
    let code = c.args.code.now in
    subst (λ b. second_rest code c.skip_branch.new.marks b c.args.flow.now.frames ≡ second_rest code c.args.marks.now b c.args.flow.now.frames)
    (sym c.if-is_live.false ∙ c.is_live.ensures)
    (branch_second code c.args.marks.now c.skip_branch.new.marks c.skip_branch.ensures.skips c.skip_branch.ensures.quiet c.args.flow.now.frames)
