use Rattle.std.proofs.Common.{length}
use Rattle.facets.specs.LeafChecks.{leaf_limit}
use Rattle.facets.proofs.HeldLemmas.{within_both, seen_within}
use Rattle.facets.proofs.leaf_check.LeafCheck.scratch.Goals as goal

pub returns-clause-bound : goal.returns-clause-bound
returns-clause-bound c = λ simple text had.
    within_both (leaf_limit simple) (length text) c.kept.result c.in_place.result (c.kept.ensures.chars simple _ text had.seen)
    (λ m is. c.kept.ensures.most simple m text (seen_within c.args.self.now.progress simple text m had.seen is)) c.in_place.ensures.few
