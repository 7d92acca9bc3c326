-- The head of the list, and then that of the item.
use Rattle.std.proofs.Common.{true, [], refl}
use Rattle.std.specs.Prelude.{if◌then◌else◌}
use Rattle.der_octets.specs.Octets.{context}
use Rattle.message_model.specs.Tables.{types_of}
use Rattle.der_writer.specs.inner.PieceOctets.{goes_on, head, item_head}
use Rattle.der_writer.proofs.Pairs.{pair_stops, pair_ends, same_text}
use Rattle.der_writer.proofs.write.push_item.Goals as goal

pub returns-in-Err : goal.returns-in-Err
returns-in-Err g c before next =
    pair_stops g.O.Sink.held g.O.Sink.faults g.O.Sink.room (if goes_on before c.args.slot then [] else head true (context c.args.slot) c.args.group) (item_head (types_of c.args.model.now c.args.target) c.args.size) _ refl _ _ c.in-Err.error
    (same_text g.O.Sink.held g.O.Sink.faults g.O.Sink.room _ _ (c.first_list.ensures before next c.args.group) _ _ _ c.in-Err.ensures)

pub returns : goal.returns
returns g c before next =
    pair_ends g.O.Sink.held g.O.Sink.faults g.O.Sink.room (if goes_on before c.args.slot then [] else head true (context c.args.slot) c.args.group) (item_head (types_of c.args.model.now c.args.target) c.args.size) _ refl _ _ _ c.push_head-2.result
    (same_text g.O.Sink.held g.O.Sink.faults g.O.Sink.room _ _ (c.first_list.ensures before next c.args.group) _ _ _ c.in_default.ensures)
    (same_text g.O.Sink.held g.O.Sink.faults g.O.Sink.room _ _ (c.item_head.ensures c.args.size) _ _ _ c.push_head-2.ensures)
