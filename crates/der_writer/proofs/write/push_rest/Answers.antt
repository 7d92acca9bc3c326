-- The buffer comes first.
use Rattle.std.proofs.Common.{refl}
use Rattle.der_writer.proofs.Pairs.{pair_stops, pair_ends}
use Rattle.der_writer.proofs.write.push_rest.Goals as goal

pub returns-in-Err : goal.returns-in-Err
returns-in-Err g c = pair_stops g.O.Sink.held g.O.Sink.faults g.O.Sink.room _ _ _ refl _ _ c.in-Err.error c.in-Err.ensures.push

pub returns : goal.returns
returns g c = pair_ends g.O.Sink.held g.O.Sink.faults g.O.Sink.room _ _ _ refl _ _ _ c.push_behind.result c.in_default.ensures.push c.push_behind.ensures
