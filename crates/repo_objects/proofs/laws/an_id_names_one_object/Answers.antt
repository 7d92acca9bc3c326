-- The two stand at one place.
use Rattle.repo_objects.proofs.Additions.{one_object}
use Rattle.repo_objects.proofs.laws.an_id_names_one_object.Goals as goal

pub returns : goal.returns
returns c = one_object
