use Rattle.std.proofs.Common.{subst}
use Rattle.facets.specs.LeafChecks.{HasSeen}
use Rattle.facets.proofs.leaf_check.LeafCheck.kept.Goals as goal

pub returns-clause-chars : goal.returns-clause-chars
returns-clause-chars c = λ simple text had. c.kept.ensures.chars simple _ text had.seen

pub returns-clause-most : goal.returns-clause-most
returns-clause-most c = λ simple text most had is.
    c.kept.ensures.most simple most text (subst (λ o. HasSeen c.args.self.now.progress o simple text) is had.seen)
