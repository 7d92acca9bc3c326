-- What the tags say is what the bytes spell.
use Rattle.repo_loader.proofs.FileVerdicts.{spelled}
use Rattle.repo_loader.proofs.ReadSteps.{ok_map}
use Rattle.repo_loader.proofs.progress.Progress.take_repository.Goals as goal

pub returns : goal.returns
returns c bytes told h w short = ok_map c.take_repository.result (λ r e. spelled c.args.self.now.selection bytes told h w short r e) (c.take_repository.ensures told h)
