-- No object has the id where the look-up finds none.
use Rattle.std.proofs.Common.{refl, true≢false, sym}
use Rattle.reference_check.proofs.Lookups.{present, absent}
use Rattle.reference_check.proofs.references.is_missing.Goals as goal

pub returns-in-Some : goal.returns-in-Some
returns-in-Some c = present c.args.repository.now.objects c.args.id.now (c.in-Some.ensures.there.0 refl)

pub returns-in-None : goal.returns-in-None
returns-in-None c = absent c.args.repository.now.objects c.args.id.now (λ has. true≢false (sym (c.in-None.ensures.there.1 has)))
