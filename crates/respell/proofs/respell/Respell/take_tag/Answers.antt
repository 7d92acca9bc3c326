use Rattle.std.proofs.Common.{[]}
use Rattle.respell.proofs.respell.Respell.take_tag.Goals as goal

pub returns-else-is_err-clause-ok : goal.returns-else-is_err-clause-ok
returns-else-is_err-clause-ok c items n e h k = c.tag-result.ensures [] items n e h k
