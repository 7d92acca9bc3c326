use Rattle.std.proofs.Common.{length, arith}
use Rattle.facets.specs.LeafChecks.{leaf_limit}
use Rattle.facets.proofs.HeldLemmas.{within_both, verdict_within, free_seen, binary_seen}
use Rattle.facets.proofs.leaf_verdict.LeafVerdict.scratch.Goals as goal

pub returns-clause-bound : goal.returns-clause-bound
returns-clause-bound c = λ simple text had.
    within_both (leaf_limit simple) (length text) c.kept.result c.in_place.result (c.kept.ensures.chars simple _ text had.seen)
    (λ m is. verdict_within c.args.self.now.progress simple text m c.kept.result had.seen is (λ most seen. c.kept.ensures.most simple most text seen)) c.in_place.ensures.few

pub returns-clause-none : goal.returns-clause-none
returns-clause-none c = λ simple text had free.
    let few = c.kept.ensures.most simple 0 text (free_seen c.args.self.now.progress simple text free had.seen) in
    omega (arith, few, c.kept.ensures.count)

pub returns-clause-binary : goal.returns-clause-binary
returns-clause-binary c = λ simple text had binary.
    let few = c.kept.ensures.most simple 0 text (binary_seen c.args.self.now.progress simple text binary had.seen) in
    omega (arith, few, c.kept.ensures.count)
