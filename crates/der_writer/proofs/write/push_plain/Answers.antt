-- The slots before it, and then its leaf.
use Rattle.std.proofs.Common.{ℕ, ◌-◌, ◌++◌, false, length, take, drop, refl, ap}
use Rattle.data_types.specs.LeafAnswers.{leaf_of}
use Rattle.der_octets.specs.Octets.{context}
use Rattle.message_model.specs.Tables.{types_of}
use Rattle.der_model.specs.LeafContents.{leaf_contents}
use Rattle.der_writer.specs.inner.PieceOctets.{empty_slots, head, sequence_slots, slots_between}
use Rattle.der_writer.proofs.Pairs.{pair_stops, pair_ends, same_text}
use Rattle.der_writer.proofs.write.push_plain.Goals as goal

pub returns-in-Err : goal.returns-in-Err
returns-in-Err g c before next =
    let types = types_of c.args.model.now in
    let between = λ (k : ℕ). empty_slots k (take (c.args.edge.slot - k) (drop k (sequence_slots (types c.args.edge.parent)))) in
    let contents = leaf_contents (leaf_of c.args.leaf.now) in
    pair_stops g.O.Sink.held g.O.Sink.faults g.O.Sink.room (slots_between types c.args.edge.parent before c.args.edge.slot) (head false (context c.args.edge.slot) (length contents) ++ contents) _ refl _ _ c.in-Err.error
    (same_text g.O.Sink.held g.O.Sink.faults g.O.Sink.room _ _ (ap between next) _ _ _ c.in-Err.ensures)

pub returns : goal.returns
returns g c before next =
    let types = types_of c.args.model.now in
    let between = λ (k : ℕ). empty_slots k (take (c.args.edge.slot - k) (drop k (sequence_slots (types c.args.edge.parent)))) in
    let contents = leaf_contents (leaf_of c.args.leaf.now) in
    pair_ends g.O.Sink.held g.O.Sink.faults g.O.Sink.room (slots_between types c.args.edge.parent before c.args.edge.slot) (head false (context c.args.edge.slot) (length contents) ++ contents) _ refl _ _ _ c.push_leaf.result
    (same_text g.O.Sink.held g.O.Sink.faults g.O.Sink.room _ _ (ap between next) _ _ _ c.in_default.ensures)
    (same_text g.O.Sink.held g.O.Sink.faults g.O.Sink.room _ _ (ap (λ t. t ++ contents) (c.context.ensures (length contents))) _ _ _ c.push_leaf.ensures)
