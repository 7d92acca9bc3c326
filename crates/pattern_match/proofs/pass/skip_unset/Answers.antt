use Rattle.std.proofs.Common.{ap, ◌∙◌}
use Rattle.pattern_match.proofs.Walking.{skips_on}
use Rattle.pattern_match.proofs.pass.skip_unset.Goals as goal

pub returns-clause-skips : goal.returns-clause-skips
returns-clause-skips c =
    skips_on c.args.code.now c.args.marks.now c.jump.new.self c.requires
    (c.jump.ensures ∙ ap (λ k. record c.args.marks.now { at = k }) c.next.ensures)
