use Rattle.facets.proofs.leaf_verdict.LeafVerdict.restart.Goals as goal

pub restart-requires : goal.restart-requires
restart-requires c = let (text, had) = c.requires in (_, text, had.seen)

pub returns-clause-taken : goal.returns-clause-taken
returns-clause-taken c = let (text, had) = c.requires in record { seen = c.restart.ensures.taken _ text had.seen }
