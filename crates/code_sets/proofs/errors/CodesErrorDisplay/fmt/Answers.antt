-- The text of a refusal, whose parts are written one behind the other.
use Rattle.std.proofs.Common.{append_assoc}
use Rattle.code_sets.proofs.errors.CodesErrorDisplay.fmt.Goals as goal

pub returns-in-Refused-clause-writes : goal.returns-in-Refused-clause-writes
returns-in-Refused-clause-writes g c plain ok = rw (c.in-Refused.is, append_assoc) (c.write.ensures.writes plain ok)
