use Rattle.repo_engine.proofs.GivenRepository.{given_is_a_repository}
use Rattle.repo_engine.proofs.laws.module_admits_the_instances.Goals as goal

pub returns : goal.returns
returns c codes_word r codes R id T given (ready, (ids, reached, made)) =
    let whole = given_is_a_repository c.spelled_is_a_repository.ensures c.joined_is_a_repository.ensures codes_word r codes R given in
    let sound = c.compiled_types_are_sound.ensures R id ids T whole ready reached made in
    (c.a_module_admits_the_same.ensures T sound, c.an_instance_is_a_value.ensures T sound, c.a_value_is_an_instance.ensures T sound)
