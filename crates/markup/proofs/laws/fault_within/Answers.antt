use Rattle.markup.proofs.NoCut.{fault_within}
use Rattle.markup.proofs.laws.fault_within.Goals as goal

pub returns : goal.returns
returns c = fault_within
