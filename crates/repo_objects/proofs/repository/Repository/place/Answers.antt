-- The map finds the place of the key, if there is one.
use Rattle.std.proofs.Common.{◌∙◌, sym}
use Rattle.repo_objects.proofs.Lookups.{place_of_result, found_id, id_found}
use Rattle.repo_objects.proofs.repository.Repository.place.Goals as goal

pub returns-clause-found : goal.returns-clause-found
returns-clause-found c = rw (← c.self.view_is) (place_of_result _ c.self.inside.objects.entries c.get_index_of.result c.get_index_of.ensures.index)

pub returns-clause-there : goal.returns-clause-there
returns-clause-there c = rw (← c.self.view_is) (λ some. found_id _ _ (sym c.get_index_of.ensures.found ∙ some), λ has. c.get_index_of.ensures.found ∙ id_found _ _ has)
