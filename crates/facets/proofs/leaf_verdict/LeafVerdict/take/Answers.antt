use Rattle.std.proofs.lemmas.Result.{on_ok_weaker}
use Rattle.facets.proofs.HeldLemmas.{free_seen, binary_seen}
use Rattle.facets.proofs.leaf_verdict.LeafVerdict.take.Goals as goal

pub take-requires-clause-made : goal.take-requires-clause-made
take-requires-clause-made c = let (text, had) = c.requires.made in (_, text, had.seen)

pub returns-clause-ok : goal.returns-clause-ok
returns-clause-ok c = on_ok_weaker c.take.result (λ takes text had. record { seen = takes _ text had.seen }) c.take.ensures.ok

pub returns-clause-free : goal.returns-clause-free
returns-clause-free c = λ free.
    let (text, had) = c.requires.made in
    c.take.ensures.none text (free_seen c.args.self.now.progress c.args.simple.now text free had.seen)

pub returns-clause-binary : goal.returns-clause-binary
returns-clause-binary c = λ binary.
    let (text, had) = c.requires.made in
    c.take.ensures.none text (binary_seen c.args.self.now.progress c.args.simple.now text binary had.seen)
