use Rattle.markup.proofs.OneFault.{one_fault}
use Rattle.markup.proofs.laws.one_fault.Goals as goal

pub returns : goal.returns
returns c = one_fault
