use Rattle.std.proofs.Common.{true, refl}
use Rattle.der_octets.specs.Octets.{universal}
use Rattle.message_model.specs.Tables.{types_of}
use Rattle.der_writer.specs.inner.PieceOctets.{Begun, document_edge, head, pieces_octets}
use Rattle.der_writer.specs.inner.Measuring.{pairs_kept}
use Rattle.der_writer.proofs.Pairs.{pair_stops, pair_ends, same_text}
use Rattle.der_writer.proofs.Whole.{der_is, pairs_few}
use Rattle.der_writer.proofs.write.push_instance.Goals as goal

pub pairs_kept-requires : goal.pairs_kept-requires
pairs_kept-requires g c some = (let (v, admits, is) = c.requires.held in pairs_few c.args.model.now v c.args.instance.now admits is c.requires.measured some)

pub returns-in-Err : goal.returns-in-Err
returns-in-Err g c v admits is =
    let held = c.args.instance.now in
    let der = der_is c.args.model.now v held c.whole_len-len.result (pairs_kept held) c.type_count-count.ensures.root admits is c.requires.measured c.whole_len-len.ensures.some c.whole_len-len.ensures.none (λ some. refl) in
    pair_stops g.O.Sink.held g.O.Sink.faults g.O.Sink.room (head true (universal 16) c.whole_len-len.result) (pieces_octets (types_of c.args.model.now) (Begun document_edge) held.region.pieces held.lens held.groups (pairs_kept held)) _ der _ _ c.in-Err.error
    (same_text g.O.Sink.held g.O.Sink.faults g.O.Sink.room _ _ (c.universal.ensures c.whole_len-len.result) _ _ _ c.in-Err.ensures)

pub returns : goal.returns
returns g c v admits is =
    let held = c.args.instance.now in
    let der = der_is c.args.model.now v held c.whole_len-len.result c.pairs_kept.result c.type_count-count.ensures.root admits is c.requires.measured c.whole_len-len.ensures.some c.whole_len-len.ensures.none c.pairs_kept.ensures.some in
    pair_ends g.O.Sink.held g.O.Sink.faults g.O.Sink.room (head true (universal 16) c.whole_len-len.result) (pieces_octets (types_of c.args.model.now) (Begun document_edge) held.region.pieces held.lens held.groups c.pairs_kept.result) _ der _ _ _ c.push_pieces.result
    (same_text g.O.Sink.held g.O.Sink.faults g.O.Sink.room _ _ (c.universal.ensures c.whole_len-len.result) _ _ _ c.in_default.ensures) c.push_pieces.ensures
