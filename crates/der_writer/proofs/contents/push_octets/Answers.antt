use Rattle.std.proofs.Common.{length, refl}
use Rattle.der_writer.specs.inner.Heads.{head_octets}
use Rattle.der_writer.proofs.Pairs.{pair_stops, pair_ends}
use Rattle.der_writer.proofs.contents.push_octets.Goals as goal

pub returns-in-Err : goal.returns-in-Err
returns-in-Err g c = pair_stops g.O.Sink.held g.O.Sink.faults g.O.Sink.room (head_octets c.args.head (length c.args.contents.now)) c.args.contents.now _ refl _ _ c.in-Err.error c.in-Err.ensures

pub returns : goal.returns
returns g c =
    pair_ends g.O.Sink.held g.O.Sink.faults g.O.Sink.room (head_octets c.args.head (length c.args.contents.now)) c.args.contents.now _ refl _ _ _ c.push_bytes.result c.in_default.ensures c.push_bytes.ensures.push
