use Rattle.code_sets.proofs.JoinAnswer.{one_codes_fault}
use Rattle.code_sets.proofs.laws.one_codes_fault.Goals as goal

pub returns : goal.returns
returns c = one_codes_fault
