use Rattle.std.proofs.Common.{◌≡◌, ◌+◌, ◌-◌, suc, ◌∙◌, drop, length, ap, arith}
use Rattle.inst_pool.specs.Pieces.{edge_of}
use Rattle.message_model.specs.Tables.{types_of}
use Rattle.der_writer.specs.inner.PieceOctets.{empty_slots, sequence_slots, slots_behind}
use Rattle.der_writer.proofs.KnownStages.{knows_end, sets_same}
use Rattle.der_writer.proofs.lengths.end.Goals as goal

pub returns-clause-known : goal.returns-clause-known
returns-clause-known c before next s k are =
    let old = c.args.instance.now in
    let types = types_of c.args.model.now in
    let count = c.count-count.ensures in
    let low = c.requires.place in
    let room = k.room in
    let place : c.count-count.result - 1 - c.args.pass.ended ≡ length old.region.pieces - suc c.args.pass.ended = omega (arith, room, low, count.count) in
    let same = sets_same old c.set_len.new.self c.set_group.new.self _ c.args.pass.sum c.octets_following-following.result (omega (arith, room, low, count.count, count.lens)) (omega (arith, room, low, count.count, count.groups))
    c.set_len.ensures.lens c.set_len.ensures.rest c.set_group.ensures.groups c.set_group.ensures.rest in
    knows_end types old c.set_group.new.self c.args.at c.args.pass.kept c.args.pass.ended c.args.pass.sum _ _ s (edge_of c.args.edge) k place same.0 same.1 (same.2 ∙ c.octets_following-following.ensures) are (length (slots_behind types c.args.edge.target before))
    (ap (λ z. c.args.pass.sum + z) (c.rest_size.ensures.size ∙ ap (λ z. length (empty_slots z (drop z (sequence_slots (types c.args.edge.target))))) next))
