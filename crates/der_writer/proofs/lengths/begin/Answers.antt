use Rattle.std.proofs.Common.{◌≡◌, ℕ, ◌+◌, ◌-◌, ◌++◌, length, take, drop, sym, ap, ap₂, ◌∙◌, arith, length-append}
use Rattle.data_types.specs.Value.{Edge}
use Rattle.facets.specs.declared.simple.Simple.{Simple}
use Rattle.inst_pool.specs.Pieces.{edge_of}
use Rattle.reference_check.specs.Forms.{Graph}
use Rattle.message_model.specs.Tables.{types_of}
use Rattle.der_writer.specs.inner.Passes.{innermost_frame}
use Rattle.der_writer.specs.inner.PieceOctets.{Before, empty_slots, next_slot, plain_edge, sequence_slots, slots_between, list_head, own_slot, octets_before, begin_octets}
use Rattle.der_writer.proofs.KnownStages.{knows_begin, knows_plain, sets_same}
use Rattle.der_writer.proofs.lengths.begin.Goals as goal

-- what is added to a sum where an element begins, by the sizes of its parts
added : (g : Graph ℕ Simple) (b : Before) (edge : Edge) (next len group told following head list between total : ℕ) → next ≡ next_slot b → told ≡ len → head ≡ length (begin_octets g edge told) → head + told + following ≡ group
    → list ≡ length (list_head (own_slot g edge) b edge.slot (head + told + following)) → between ≡ length (empty_slots next (take (edge.slot - next) (drop next (sequence_slots (g edge.parent)))))
    → total + between + list + head ≡ total + length (octets_before g b edge group ++ begin_octets g edge len)
added g b edge next len group told following head list between total next_is len_is head_is group_is list_is between_is =
    let own : head ≡ length (begin_octets g edge len) = head_is ∙ ap (λ z. length (begin_octets g edge z)) len_is in
    let first : list ≡ length (list_head (own_slot g edge) b edge.slot group) = list_is ∙ ap (λ z. length (list_head (own_slot g edge) b edge.slot z)) group_is in
    let slots : between ≡ length (slots_between g edge.parent b edge.slot) = between_is ∙ ap (λ z. length (empty_slots z (take (edge.slot - z) (drop z (sequence_slots (g edge.parent)))))) next_is in
    let one = length-append (octets_before g b edge group) (begin_octets g edge len) in
    let two = length-append (slots_between g edge.parent b edge.slot) (list_head (own_slot g edge) b edge.slot group) in
    omega (arith, own, first, slots, one, two)

pub returns-then-is_plain-clause-known : goal.returns-then-is_plain-clause-known
returns-then-is_plain-clause-known c before next s k =
    let types = types_of c.args.model.now in
    let edge = edge_of c.args.edge in
    let kept = c.last_ended-inner.ensures s.frames k.awaited in
    let len = s.sum - (innermost_frame s.frames).behind in
    let group = length (begin_octets types edge len) + len + (innermost_frame s.frames).following in
    let told = c.args.pass.sum - c.last_ended-inner.result.behind in
    let sizes = c.begin_sizes-sizes.ensures in
    let len_is : told ≡ len = ap₂ (λ a b. a - b) k.total_is kept.0 in
    let head_is = sizes.head ∙ ap (λ z. length (begin_octets types edge z)) len_is in
    let group_is : c.begin_sizes-sizes.result.head + told + c.last_ended-inner.result.following ≡ group = ap₂ (λ a b. a + b) (ap₂ (λ a b. a + b) head_is len_is) kept.1 in
    knows_plain (plain_edge types edge) c.args.instance.now c.args.at c.args.pass.kept c.args.pass.ended c.saturating_sub-ended.result c.args.pass.sum _ s (sym c.is_plain.ensures ∙ c.if-is_plain.true) k c.saturating_sub-ended.ensures len group
    (length (octets_before types before edge group ++ begin_octets types edge len))
    (added types before edge c.args.next len group told c.last_ended-inner.result.following _ _ _ c.args.pass.sum next len_is sizes.head group_is (sizes.list before next) c.slots_size-between.ensures.size)

pub returns-clause-known : goal.returns-clause-known
returns-clause-known c before next s k =
    let old = c.args.instance.now in
    let types = types_of c.args.model.now in
    let edge = edge_of c.args.edge in
    let count = c.count-count.ensures in
    let low = c.requires.place in
    let kept = c.last_ended-inner.ensures s.frames k.awaited in
    let room = k.room in
    let len = s.sum - (innermost_frame s.frames).behind in
    let group = length (begin_octets types edge len) + len + (innermost_frame s.frames).following in
    let told = c.args.pass.sum - c.last_ended-inner.result.behind in
    let sizes = c.begin_sizes-sizes.ensures in
    let len_is : told ≡ len = ap₂ (λ a b. a - b) k.total_is kept.0 in
    let head_is = sizes.head ∙ ap (λ z. length (begin_octets types edge z)) len_is in
    let group_is : c.begin_sizes-sizes.result.head + told + c.last_ended-inner.result.following ≡ group = ap₂ (λ a b. a + b) (ap₂ (λ a b. a + b) head_is len_is) kept.1 in
    let same = sets_same old c.set_len.new.self c.set_group.new.self c.args.pass.kept told (c.begin_sizes-sizes.result.head + told + c.last_ended-inner.result.following) (omega (arith, room, low, count.count, count.lens)) (omega (arith, room, low, count.count, count.groups))
    c.set_len.ensures.lens c.set_len.ensures.rest c.set_group.ensures.groups c.set_group.ensures.rest in
    knows_begin (plain_edge types edge) old c.set_group.new.self c.args.at c.args.pass.kept c.args.pass.ended c.saturating_sub-ended.result c.args.pass.sum _ s (sym c.is_plain.ensures ∙ c.if-is_plain.false) k c.saturating_sub-ended.ensures
    same.0 len group (same.1 ∙ len_is) (same.2 ∙ group_is)
    (length (octets_before types before edge group ++ begin_octets types edge len))
    (added types before edge c.args.next len group told c.last_ended-inner.result.following _ _ _ c.args.pass.sum next len_is sizes.head group_is (sizes.list before next) c.slots_size-between.ensures.size)
