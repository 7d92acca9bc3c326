use Rattle.markup.proofs.Stays.{events_stay}
use Rattle.markup.proofs.laws.events_stay.Goals as goal

pub returns : goal.returns
returns c = events_stay
