use Rattle.std.proofs.lemmas.Result.{on_ok_weaker}
use Rattle.facets.proofs.leaf_check.LeafCheck.take.Goals as goal

pub take-requires-clause-made : goal.take-requires-clause-made
take-requires-clause-made c = let (text, had) = c.requires.made in (_, text, had.seen)

pub returns-clause-ok : goal.returns-clause-ok
returns-clause-ok c = on_ok_weaker c.take.result (λ takes text had. record { seen = takes _ text had.seen }) c.take.ensures.ok
