-- The place is written where the map has one.
use Rattle.std.proofs.Common.{Some}
use Rattle.markup.proofs.BindingLemmas.{places_updated}
use Rattle.markup.proofs.bindings.set_place.Goals as goal

pub returns-in-Some : goal.returns-in-Some
returns-in-Some c has q = places_updated c.args.prefix.now c.args.places.now (c.get_mut.follows.lender c.args.place) (Some c.args.place) ((c.get_mut.follows.holds c.args.place).3 has) q
