use Rattle.markup.proofs.Stays.{nothing_at_clean}
use Rattle.markup.proofs.laws.nothing_at_clean.Goals as goal

pub returns : goal.returns
returns c = nothing_at_clean
