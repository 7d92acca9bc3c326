use Rattle.facets.proofs.leaf_verdict.LeafVerdict.reserve.Goals as goal

pub returns-clause-taken : goal.returns-clause-taken
returns-clause-taken c = λ simple text had. record { seen = c.reserve.ensures.taken simple _ text had.seen }
