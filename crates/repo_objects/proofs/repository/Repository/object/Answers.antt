-- The map finds the object with that id, if there is one.
use Rattle.repo_objects.proofs.Lookups.{found_of_result, there_of_result}
use Rattle.repo_objects.proofs.repository.Repository.object.Goals as goal

pub returns-clause-found : goal.returns-clause-found
returns-clause-found c = rw (← c.self.view_is) (found_of_result _ _ c.get.result c.get.ensures.value)

pub returns-clause-there : goal.returns-clause-there
returns-clause-there c = rw (← c.self.view_is) (there_of_result _ _ c.get.result c.get.ensures.value)
