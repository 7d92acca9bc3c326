use Rattle.code_sets.proofs.JoinAnswer.{joins_or_has_fault}
use Rattle.code_sets.proofs.laws.joins_or_has_fault.Goals as goal

pub returns : goal.returns
returns c = joins_or_has_fault
