-- The value at the place is written back.
use Rattle.std.proofs.Common.{sym}
use Rattle.repo_objects.proofs.Codes.{codes_put}
use Rattle.repo_objects.proofs.repository.put_codes.Goals as goal

pub returns-in-Some : goal.returns-in-Some
returns-in-Some c = codes_put c.args.objects.now.entries c.args.at c.in-Some.object.now c.args.codes (sym c.in-Some.ensures.value)
