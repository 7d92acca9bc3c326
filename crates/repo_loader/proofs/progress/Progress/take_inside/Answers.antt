-- Bytes inside a token say nothing yet.
use Rattle.std.proofs.Common.{refl}
use Rattle.repo_loader.proofs.ReadSteps.{read_inside}
use Rattle.repo_loader.proofs.progress.Progress.take_inside.Goals as goal

pub returns-in-Ok-clause-read : goal.returns-in-Ok-clause-read
returns-in-Ok-clause-read c bytes h =
    read_inside c.args.self.now (record { reader = c.take_inside.new.self; events = c.args.self.now.events; selection = c.args.self.now.selection })
    bytes c.args.piece.now c.in-Ok.count h c.in-Ok.ensures.within c.in-Ok.ensures.none (c.in-Ok.ensures.taken _ bytes h.told h.given) c.in-Ok.ensures.count refl refl
