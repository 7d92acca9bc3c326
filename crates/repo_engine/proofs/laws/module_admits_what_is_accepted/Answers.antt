use Rattle.fragments.specs.Fragment.{fragment}
use Rattle.repo_engine.proofs.GivenRepository.{given_is_a_repository}
use Rattle.repo_engine.proofs.laws.module_admits_what_is_accepted.Goals as goal

pub returns : goal.returns
returns c codes_word r codes R id T bytes given (ready, (ids, reached, made)) short =
    let whole = given_is_a_repository c.spelled_is_a_repository.ensures c.joined_is_a_repository.ensures codes_word r codes R given in
    let same = c.a_module_admits_the_same.ensures T (c.compiled_types_are_sound.ensures R id ids T whole ready reached made) fragment bytes in
    (λ x. same.1 x.0, λ x. (same.0 x, short))
