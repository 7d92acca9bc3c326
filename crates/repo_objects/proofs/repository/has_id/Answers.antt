-- The map has the key exactly where an object has that id.
use Rattle.std.proofs.Common.{sym, ◌∙◌}
use Rattle.repo_objects.proofs.Lookups.{found_id, id_found}
use Rattle.repo_objects.proofs.repository.has_id.Goals as goal

pub returns : goal.returns
returns c = (λ has. found_id _ _ (sym c.contains_key.ensures ∙ has), λ there. c.contains_key.ensures ∙ id_found _ _ there)
