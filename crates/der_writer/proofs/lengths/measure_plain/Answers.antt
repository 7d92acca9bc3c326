use Rattle.std.proofs.Common.{◌≡◌, ℕ, ◌+◌, ◌-◌, length, take, drop, refl, ap, ◌∙◌, arith, length-append}
use Rattle.inst_pool.specs.Pieces.{edge_of}
use Rattle.message_model.specs.Tables.{types_of}
use Rattle.der_writer.specs.inner.PieceOctets.{empty_slots, sequence_slots, slots_between, list_head, own_slot}
use Rattle.der_writer.specs.inner.Measuring.{before_place}
use Rattle.der_writer.proofs.SimpleStages.{knows_simple_plain}
use Rattle.der_writer.proofs.lengths.measure_plain.Goals as goal

pub returns-clause-known : goal.returns-clause-known
returns-clause-known c =
    let held = c.args.instance.now in
    let types = types_of c.args.model.now in
    let edge = edge_of c.args.element.edge in
    let before = before_place held.region.pieces c.args.at in
    let size = c.args.element.size in
    let head = c.begin_sizes-sizes.result.head in
    let any = head + size + 0 in
    let between = λ (z : ℕ). empty_slots z (take (edge.slot - z) (drop z (sequence_slots (types edge.parent)))) in
    let between_is : c.slots_size-between.result ≡ length (slots_between types edge.parent before edge.slot) = c.slots_size-between.ensures.size ∙ ap (λ z. length (between z)) c.next_at-next.ensures in
    let list_is : c.begin_sizes-sizes.result.list ≡ length (list_head (own_slot types edge) before edge.slot any) = c.begin_sizes-sizes.ensures.list before c.next_at-next.ensures in
    let split = length-append (slots_between types edge.parent before edge.slot) (list_head (own_slot types edge) before edge.slot any) in
    knows_simple_plain types held c.args.at c.args.pass.kept c.args.pass.ended c.args.pass.sum _ edge size c.slots_size-between.result c.begin_sizes-sizes.result.list head c.requires.simple c.requires.known c.requires.plain any
    c.begin_sizes-sizes.ensures.head (omega (arith, between_is, list_is, split)) refl
