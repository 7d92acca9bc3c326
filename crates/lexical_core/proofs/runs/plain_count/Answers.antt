use Rattle.std.proofs.Common.{arith}
use Rattle.lexical_core.proofs.XmlRuns.{plain_front}
use Rattle.lexical_core.proofs.runs.plain_count.Goals as goal

pub returns-clause-plain : goal.returns-clause-plain
returns-clause-plain c = plain_front c.args.piece.now c.run_length.result (omega (arith, c.run_length.ensures.count))
