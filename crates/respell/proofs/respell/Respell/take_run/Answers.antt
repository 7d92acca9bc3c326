use Rattle.std.proofs.Common.{[]}
use Rattle.respell.proofs.respell.Respell.take_run.Goals as goal

pub returns-else-is_err-clause-ok : goal.returns-else-is_err-clause-ok
returns-else-is_err-clause-ok c items count r h = c.run-result.ensures [] items count r h
