use Rattle.transcoder.proofs.Verdicts.{one_der_verdict}
use Rattle.transcoder.proofs.laws.one_der_verdict.Goals as goal

pub returns : goal.returns
returns c = one_der_verdict c.one_tree.ensures c.tables_are_sound.ensures c.one_value.ensures c.one_fault.ensures c.spelled_has_none.ensures
