-- No key has these bytes, so the map appends.
use Rattle.std.proofs.Common.{ap, ◌∙◌}
use Rattle.repo_objects.specs.Stored.{entries_of}
use Rattle.repo_objects.proofs.Lookups.{inserted_last}
use Rattle.repo_objects.proofs.repository.insert_last.Goals as goal

pub returns-clause-ok : goal.returns-clause-ok
returns-clause-ok c = ap entries_of c.in_ok-insert.ensures.entries ∙ inserted_last c.args.objects.now c.args.id c.args.object c.requires
