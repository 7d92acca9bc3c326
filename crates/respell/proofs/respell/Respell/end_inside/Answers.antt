use Rattle.std.proofs.Common.{◌∙◌}
use Rattle.respell.proofs.TakenTags.{plain_end}
use Rattle.respell.proofs.respell.Respell.end_inside.Goals as goal

pub returns : goal.returns
returns c forgotten items n e h k =
    plain_end c.args.self.now c.leave.new.self forgotten items n c.args.local.now c.extend.new.self c.extend-2.new.self e h k c.in_ok-extend.ensures.ok c.in_ok-extend-2.ensures.ok (c.leave.ensures.rest.0 ∙ c.in_ok-extend-3.ensures.ok)
    c.leave.ensures.kept c.leave.ensures.rest.1 c.leave.ensures.prefixed
