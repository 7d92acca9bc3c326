use Rattle.markup.proofs.LiteralRuns.{blank_run}
use Rattle.markup.proofs.literals.blank_length.Goals as goal

pub returns-clause-only : goal.returns-clause-only
returns-clause-only c = (blank_run c.args.piece.now c.run_length.result c.run_length.ensures.count c.run_length.ensures.within).0

pub returns-clause-blank : goal.returns-clause-blank
returns-clause-blank c = (blank_run c.args.piece.now c.run_length.result c.run_length.ensures.count c.run_length.ensures.within).1
