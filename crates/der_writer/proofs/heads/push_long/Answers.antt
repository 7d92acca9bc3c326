use Rattle.std.proofs.Common.{refl}
use Rattle.der_octets.specs.Octets.{identifier, length_octets}
use Rattle.der_writer.specs.inner.Heads.{tag_of}
use Rattle.der_writer.proofs.Pairs.{pair_stops, pair_ends}
use Rattle.der_writer.proofs.heads.push_long.Goals as goal

pub returns-in-Err : goal.returns-in-Err
returns-in-Err g c =
    pair_stops g.O.Sink.held g.O.Sink.faults g.O.Sink.room (identifier c.args.head.constructed (tag_of c.args.head)) (length_octets c.args.len) _ refl _ _ c.in-Err.error c.in-Err.ensures

pub returns : goal.returns
returns g c =
    pair_ends g.O.Sink.held g.O.Sink.faults g.O.Sink.room (identifier c.args.head.constructed (tag_of c.args.head)) (length_octets c.args.len) _ refl _ _ _ c.push_length.result c.in_default.ensures c.push_length.ensures
