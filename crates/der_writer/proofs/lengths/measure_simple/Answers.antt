use Rattle.std.proofs.Common.{◌≡◌, ℕ, ◌+◌, ◌-◌, length, take, drop, refl, ap, ◌∙◌, arith, length-append}
use Rattle.inst_pool.specs.Pieces.{edge_of}
use Rattle.message_model.specs.Tables.{types_of}
use Rattle.der_writer.specs.inner.PieceOctets.{empty_slots, sequence_slots, slots_between, list_head, own_slot}
use Rattle.der_writer.specs.inner.Measuring.{before_place, following_at}
use Rattle.der_writer.proofs.KnownStages.{sets_same}
use Rattle.der_writer.proofs.SimpleStages.{follows_within, knows_simple}
use Rattle.der_writer.proofs.lengths.measure_simple.Goals as goal

pub begin_sizes-sizes-requires : goal.begin_sizes-sizes-requires
begin_sizes-sizes-requires c =
    let follow = follows_within (types_of c.args.model.now) c.args.instance.now (c.args.at + 3) c.args.pass.kept c.args.pass.ended c.args.pass.sum c.args.element.edge.slot c.requires.known in
    let told = c.octets_following-following.ensures in
    let room = c.requires.room in
    let few = c.requires.few in
    omega (arith, few, follow, room, told)

pub overflow_add-sizes : goal.overflow_add-sizes
overflow_add-sizes c =
    let follow = follows_within (types_of c.args.model.now) c.args.instance.now (c.args.at + 3) c.args.pass.kept c.args.pass.ended c.args.pass.sum c.args.element.edge.slot c.requires.known in
    let told = c.octets_following-following.ensures in
    let room = c.requires.room in
    let few = c.requires.few in
    let heads = c.begin_sizes-sizes.ensures.most.1 in
    omega (arith, few, follow, room, told, heads)

pub overflow_add-sizes-2 : goal.overflow_add-sizes-2
overflow_add-sizes-2 c =
    let follow = follows_within (types_of c.args.model.now) c.args.instance.now (c.args.at + 3) c.args.pass.kept c.args.pass.ended c.args.pass.sum c.args.element.edge.slot c.requires.known in
    let told = c.octets_following-following.ensures in
    let room = c.requires.room in
    let few = c.requires.few in
    let heads = c.begin_sizes-sizes.ensures.most.1 in
    omega (arith, few, follow, room, told, heads)

pub returns-clause-known : goal.returns-clause-known
returns-clause-known c =
    let old = c.args.instance.now in
    let types = types_of c.args.model.now in
    let edge = edge_of c.args.element.edge in
    let before = before_place old.region.pieces c.args.at in
    let count = c.count-count.ensures in
    let low = c.requires.place in
    let room = c.requires.known.room in
    let size = c.args.element.size in
    let head = c.begin_sizes-sizes.result.head in
    let told = c.octets_following-following.result in
    let follow : told ≡ following_at types old (c.args.at + 3) c.args.pass.kept edge.slot = c.octets_following-following.ensures in
    let group = head + size + following_at types old (c.args.at + 3) c.args.pass.kept edge.slot in
    let group_is : head + size + told ≡ group = ap (λ z. head + size + z) follow in
    let between = λ (z : ℕ). empty_slots z (take (edge.slot - z) (drop z (sequence_slots (types edge.parent)))) in
    let between_is : c.slots_size-between.result ≡ length (slots_between types edge.parent before edge.slot) = c.slots_size-between.ensures.size ∙ ap (λ z. length (between z)) c.next_at-next.ensures in
    let list_is : c.begin_sizes-sizes.result.list ≡ length (list_head (own_slot types edge) before edge.slot group) = c.begin_sizes-sizes.ensures.list before c.next_at-next.ensures ∙ ap (λ z. length (list_head (own_slot types edge) before edge.slot z)) group_is in
    let split = length-append (slots_between types edge.parent before edge.slot) (list_head (own_slot types edge) before edge.slot group) in
    let same = sets_same old c.set_len.new.self c.set_group.new.self c.args.pass.kept size (head + size + told) (omega (arith, room, low, count.count, count.lens)) (omega (arith, room, low, count.count, count.groups))
    c.set_len.ensures.lens c.set_len.ensures.rest c.set_group.ensures.groups c.set_group.ensures.rest in
    knows_simple types old c.args.at c.args.pass.kept c.args.pass.ended c.args.pass.sum _ edge size c.slots_size-between.result c.begin_sizes-sizes.result.list head c.requires.simple c.requires.known c.set_group.new.self c.requires.paired
    same.0 same.1 (same.2 ∙ group_is) c.begin_sizes-sizes.ensures.head (omega (arith, between_is, list_is, split)) refl
