use Rattle.markup.proofs.Stays.{nothing_behind_whole}
use Rattle.markup.proofs.laws.nothing_behind_whole.Goals as goal

pub returns : goal.returns
returns c = nothing_behind_whole
