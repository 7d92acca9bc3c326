use Rattle.code_sets.proofs.SomeAnswer.{reads_or_has_fault}
use Rattle.code_sets.proofs.laws.reads_or_has_fault.Goals as goal

pub returns : goal.returns
returns c = reads_or_has_fault
