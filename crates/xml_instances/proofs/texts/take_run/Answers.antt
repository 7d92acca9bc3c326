use Rattle.xml_instances.proofs.QuickRuns.{xml_run, run_taken, run_made}
use Rattle.xml_instances.proofs.texts.take_run.Goals as goal

pub take_run-requires-clause-run : goal.take_run-requires-clause-run
take_run-requires-clause-run c = xml_run c.args.run.now c.args.count c.requires.run

pub returns-clause-taken : goal.returns-clause-taken
returns-clause-taken c = run_taken c.take_run.result c.args.run.now c.args.count c.args.check.now c.take_run.new.self c.args.simple.now c.take_run.ensures.ok

pub returns-clause-made : goal.returns-clause-made
returns-clause-made c = run_made c.take_run.result c.args.run.now c.args.count c.args.check.now c.take_run.new.self c.args.simple.now (xml_run c.args.run.now c.args.count c.requires.run) c.take_run.ensures.ok c.take_run.ensures.err c.requires.made
