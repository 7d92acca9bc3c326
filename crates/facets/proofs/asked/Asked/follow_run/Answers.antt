use Rattle.facets.proofs.PatternLemmas.{was_asked, skipped, followed}
use Rattle.facets.proofs.asked.Asked.follow_run.Goals as goal

pub returns-then-is_too_long : goal.returns-then-is_too_long
returns-then-is_too_long c = λ r text h counted.
    skipped c.args.self.now c.args.simple.now text r.chars (c.is_too_long.ensures _ counted c.if-is_too_long.true) h

pub take_run-requires-clause-made : goal.take_run-requires-clause-made
take_run-requires-clause-made c = was_asked c.args.self.now c.args.simple.now _ c.requires.made.1

pub returns : goal.returns
returns c = λ r text h counted. followed c.args.self.now c.take_run.new.self c.args.simple.now text r.chars (c.take_run.ensures r) h
