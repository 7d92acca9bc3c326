use Rattle.transcoder.proofs.Verdicts.{some_der_verdict}
use Rattle.transcoder.proofs.laws.some_der_verdict.Goals as goal

pub returns : goal.returns
returns c = some_der_verdict c.one_tree.ensures c.tables_are_sound.ensures c.spelled_or_faulty.ensures
