use Rattle.std.proofs.Common.{[], subst}
use Rattle.facets.specs.LeafChecks.{HasSeen}
use Rattle.facets.proofs.leaf_check.LeafCheck.new.Goals as goal

pub returns : goal.returns
returns c = record { seen = subst (λ most. HasSeen c.in_ok-new.field-0 most c.args.simple.now []) c.limit.ensures c.in_ok-new.ensures }
