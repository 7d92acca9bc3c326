use Rattle.transcoder.proofs.Verdicts.{some_verdict}
use Rattle.transcoder.proofs.laws.some_verdict.Goals as goal

pub returns : goal.returns
returns c = some_verdict c.spelled_or_faulty.ensures
