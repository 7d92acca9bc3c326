use Rattle.std.proofs.Common.{refl}
use Rattle.respell.proofs.TakenTags.{plain_start}
use Rattle.respell.proofs.respell.Respell.start_inside.Goals as goal

pub returns-clause-written : goal.returns-clause-written
returns-clause-written c forgotten items n e h k =
    plain_start c.args.self.now _ forgotten items n c.args.local.now c.extend.new.self c.extend-2.new.self e h k c.in_ok-extend.ensures.ok c.in_ok-extend-2.ensures.ok c.in_ok-extend-3.ensures.ok
    refl c.in_ok-push.ensures.items refl refl
