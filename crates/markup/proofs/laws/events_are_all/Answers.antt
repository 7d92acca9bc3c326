use Rattle.markup.proofs.Stays.{events_are_all}
use Rattle.markup.proofs.laws.events_are_all.Goals as goal

pub returns : goal.returns
returns c = events_are_all
