use Rattle.repo_loader.proofs.OneOfBoth.{one_of_both}
use Rattle.repo_loader.proofs.laws.one_of_both.Goals as goal

pub returns : goal.returns
returns c = one_of_both c.whole_or_faulty.ensures
