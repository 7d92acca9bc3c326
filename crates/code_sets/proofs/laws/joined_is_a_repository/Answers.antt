use Rattle.code_sets.proofs.JoinedRepository.{joined_is_a_repository}
use Rattle.code_sets.proofs.laws.joined_is_a_repository.Goals as goal

pub returns : goal.returns
returns c = joined_is_a_repository
