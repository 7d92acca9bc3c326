use Rattle.repo_loader.proofs.SpelledRepository.{spelled_is_a_repository}
use Rattle.repo_loader.proofs.laws.spelled_is_a_repository.Goals as goal

pub returns : goal.returns
returns c = spelled_is_a_repository
