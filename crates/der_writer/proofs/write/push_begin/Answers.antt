-- The slots between, and then the heads.
use Rattle.std.proofs.Common.{◌≡◌, ℕ, ◌+◌, ◌-◌, List, ◌++◌, Bool, Option, take, drop, sym, ap, ◌∙◌, append_assoc, if◌then◌else◌}
use Rattle.std.specs.Prelude.{slice_get, slice_index}
use Rattle.data_types.specs.Value.{Edge, Piece, Begins}
use Rattle.facets.specs.declared.simple.Simple.{Simple}
use Rattle.inst_pool.specs.Pieces.{edge_of}
use Rattle.reference_check.specs.Forms.{Graph, Slot}
use Rattle.message_model.specs.Tables.{types_of}
use Rattle.der_writer.specs.Measured.{is_plain}
use Rattle.der_writer.specs.inner.PieceOctets.{begin_octets, leaf_next, len_kept, list_head, own_slot, slots_between, empty_slots, sequence_slots}
use Rattle.der_writer.specs.inner.Measuring.{before_place}
use Rattle.der_writer.proofs.Pairs.{pair_stops, pair_ends, same_text}
use Rattle.der_writer.proofs.Told.{told_done, told_stopped}
use Rattle.der_writer.proofs.write.push_begin.Goals as goal

-- how many contents octets the element has, by whether its slot makes it plain
size_begun : (g : Graph ℕ Simple) (edge : Edge) (next : Option Piece) (lens : List ℕ) (left size : ℕ) (plain : Bool) (own : Option (Slot ℕ)) → size ≡ (if plain then leaf_next next else slice_index lens (left - 1)) → plain ≡ is_plain own (g edge.target) → own ≡ own_slot g edge
    → size ≡ len_kept g (Begins edge) next lens left
size_begun g edge next lens left size plain own size_is plain_is own_is =
    size_is ∙ ap (λ (p : Bool). if p then leaf_next next else slice_index lens (left - 1)) (plain_is ∙ ap (λ o. is_plain o (g edge.target)) own_is)

pub returns-in-Err-clause-pushed : goal.returns-in-Err-clause-pushed
returns-in-Err-clause-pushed g c =
    let types = types_of c.args.model.now in
    let edge = edge_of c.args.edge in
    let before = before_place c.args.instance.now.region.pieces c.args.place.at in
    let between = λ (k : _). empty_slots k (take (edge.slot - k) (drop k (sequence_slots (types edge.parent)))) in
    let list = list_head (own_slot types edge) before edge.slot (slice_index c.args.instance.now.groups (c.args.place.left - 1)) in
    let own = begin_octets types edge (len_kept types (Begins edge) (slice_get c.args.instance.now.region.pieces (c.args.place.at + 1)) c.args.instance.now.lens c.args.place.left) in
    told_stopped g.O.Sink.held g.O.Sink.faults g.O.Sink.room c.in-Err.error _ _ _
    (pair_stops g.O.Sink.held g.O.Sink.faults g.O.Sink.room (slots_between types edge.parent before edge.slot) (list ++ own) _ (sym (append_assoc (slots_between types edge.parent before edge.slot) list own)) _ _ c.in-Err.error
    (same_text g.O.Sink.held g.O.Sink.faults g.O.Sink.room _ _ (ap between c.requires.place.next) _ _ _ c.in-Err.ensures))

pub returns-in-Err-push_opening-clause-pushed : goal.returns-in-Err-push_opening-clause-pushed
returns-in-Err-push_opening-clause-pushed g c =
    let types = types_of c.args.model.now in
    let edge = edge_of c.args.edge in
    let pieces = c.args.instance.now.region.pieces in
    let before = before_place pieces c.args.place.at in
    let between = λ (k : _). empty_slots k (take (edge.slot - k) (drop k (sequence_slots (types edge.parent)))) in
    let list = list_head (own_slot types edge) before edge.slot (slice_index c.args.instance.now.groups (c.args.place.left - 1)) in
    let len = len_kept types (Begins edge) (slice_get pieces (c.args.place.at + 1)) c.args.instance.now.lens c.args.place.left in
    let size : c.begun_size-size.result ≡ len = size_begun types edge (slice_get pieces (c.args.place.at + 1)) c.args.instance.now.lens c.args.place.left c.begun_size-size.result c.is_plain_in-plain.result _ c.begun_size-size.ensures c.is_plain_in-plain.ensures c.slot-own.ensures in
    told_stopped g.O.Sink.held g.O.Sink.faults g.O.Sink.room c.in-Err-push_opening.error _ _ _
    (pair_ends g.O.Sink.held g.O.Sink.faults g.O.Sink.room (slots_between types edge.parent before edge.slot) (list ++ begin_octets types edge len) _ (sym (append_assoc (slots_between types edge.parent before edge.slot) list (begin_octets types edge len))) _ _ _ _
    (same_text g.O.Sink.held g.O.Sink.faults g.O.Sink.room _ _ (ap between c.requires.place.next) _ _ _ c.in_default.ensures)
    (same_text g.O.Sink.held g.O.Sink.faults g.O.Sink.room _ _ (ap (λ n. list ++ begin_octets types edge n) size) _ _ _ (c.in-Err-push_opening.ensures before c.requires.place.next)))

pub returns-clause-pushed : goal.returns-clause-pushed
returns-clause-pushed g c =
    let types = types_of c.args.model.now in
    let edge = edge_of c.args.edge in
    let pieces = c.args.instance.now.region.pieces in
    let before = before_place pieces c.args.place.at in
    let between = λ (k : _). empty_slots k (take (edge.slot - k) (drop k (sequence_slots (types edge.parent)))) in
    let list = list_head (own_slot types edge) before edge.slot (slice_index c.args.instance.now.groups (c.args.place.left - 1)) in
    let len = len_kept types (Begins edge) (slice_get pieces (c.args.place.at + 1)) c.args.instance.now.lens c.args.place.left in
    let size : c.begun_size-size.result ≡ len = size_begun types edge (slice_get pieces (c.args.place.at + 1)) c.args.instance.now.lens c.args.place.left c.begun_size-size.result c.is_plain_in-plain.result _ c.begun_size-size.ensures c.is_plain_in-plain.ensures c.slot-own.ensures in
    told_done g.O.Sink.held g.O.Sink.faults g.O.Sink.room tt _ _ _ _
    (pair_ends g.O.Sink.held g.O.Sink.faults g.O.Sink.room (slots_between types edge.parent before edge.slot) (list ++ begin_octets types edge len) _ (sym (append_assoc (slots_between types edge.parent before edge.slot) list (begin_octets types edge len))) _ _ _ _
    (same_text g.O.Sink.held g.O.Sink.faults g.O.Sink.room _ _ (ap between c.requires.place.next) _ _ _ c.in_default.ensures)
    (same_text g.O.Sink.held g.O.Sink.faults g.O.Sink.room _ _ (ap (λ n. list ++ begin_octets types edge n) size) _ _ _ (c.in_default-push_opening.ensures before c.requires.place.next)))
