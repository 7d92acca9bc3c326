use Rattle.data_types.proofs.RunLemmas.{run_ascii, run_utf8, run_text}
use Rattle.data_types.proofs.run.run_chars.Goals as goal

pub returns-then-run-count-clause-chars : goal.returns-then-run-count-clause-chars
returns-then-run-count-clause-chars c = λ r. run_ascii c.args.run.now c.args.count r c.if-run-count.true

pub unreachable-requires : goal.unreachable-requires
unreachable-requires c = c.in-Err.ensures.cases.0 (run_utf8 c.args.run.now c.args.count c.requires)

pub returns-clause-chars : goal.returns-clause-chars
returns-clause-chars c = λ r. run_text c.args.run.now c.in-Ok.text.now c.args.count r c.in-Ok.ensures.cases.0
