use Rattle.facets.proofs.leaf_check.LeafCheck.finish.Goals as goal

pub leaf-requires : goal.leaf-requires
leaf-requires c = let (text, had) = c.requires in (text, had.seen)

pub returns : goal.returns
returns c = λ text had. c.leaf.ensures text had.seen
