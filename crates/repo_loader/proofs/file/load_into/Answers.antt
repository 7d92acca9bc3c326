-- What all bytes spell is what the repository has.
use Rattle.repo_loader.proofs.ReadSteps.{all_spell}
use Rattle.repo_loader.proofs.file.load_into.Goals as goal

pub returns-clause-ok : goal.returns-clause-ok
returns-clause-ok g c =
    all_spell (g.R.Source.left c.args.source.now) c.read_to_end.new.progress c.in_ok-take_repository.field-0 c.in_default.ensures.ok c.in_ok-take_repository.ensures
