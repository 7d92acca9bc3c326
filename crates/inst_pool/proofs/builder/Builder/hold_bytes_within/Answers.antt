use Rattle.std.proofs.Common.{◌≡◌, ◌+◌, ◌++◌, ◌∷◌, [], length, refl, ap, ◌∙◌, arith, true, false}
use Rattle.data_types.specs.Leaf.{Bytes as BytesLeaf}
use Rattle.data_types.specs.Value.{Begins, Holds, Ends}
use Rattle.inst_pool.specs.Contents.{content_of_bytes}
use Rattle.inst_pool.specs.Pieces.{edge_of}
use Rattle.inst_pool.specs.declared.content.Content.{Content}
use Rattle.inst_pool.specs.declared.content.Content.TheVariants.{Open, Bytes, Close}
use Rattle.inst_pool.proofs.ContentLemmas.{length_pieces}
use Rattle.inst_pool.proofs.BuildingLemmas.{same_building, same_pieces, stored_within_pieces, building_stored_within}
use Rattle.inst_pool.proofs.builder.Builder.hold_bytes_within.Goals as goal

pub returns-in_err-make_piece_room-clause-within : goal.returns-in_err-make_piece_room-clause-within
returns-in_err-make_piece_room-clause-within c =
    let l = length_pieces c.self.inside.blocks.bytes.items c.self.inside.blocks.contents.items in let n = c.self.invariant.room.pieces in
    rw (← c.self.view_is) (λ h g. absurd (let e : false ≡ true = c.in_err-make_piece_room.ensures.within (omega (arith, h, l, n)) in cc))

pub invariant_of-self-2 : goal.invariant_of-self-2
invariant_of-self-2 c =
    let m = c.make_piece_room.new.blocks in
    let edge = c.args.edge in
    let items = c.in_ok-make_piece_room.ensures.items in
    let building = same_building c.self.inside.blocks m c.self.invariant items c.in_ok-make_piece_room.ensures.fits in
    let start : c.in_ok-start.start ≡ length m.bytes.items = c.in_ok-start.ensures.start in
    let content : Bytes c.in_ok-start.start (c.in_ok-start.start + length c.args.bytes.now) ≡ content_of_bytes m.bytes.items c.args.bytes.now = ap (λ n. Bytes n (n + length c.args.bytes.now)) start in
    building_stored_within m _ edge c.args.bytes.now building c.in_ok-make_piece_room.ensures.ok c.in_ok-start.ensures.ok.1
    (record { contents = c.push_within.ensures.items ∙ ap (λ (x : Content). m.contents.items ++ Open edge ∷ x ∷ Close edge ∷ []) content; contents_room = c.push_within.ensures.room; opened = refl; lens = refl; groups = refl; room = refl }) c.in_ok-start.ensures.ok.0

pub returns-clause-ok : goal.returns-clause-ok
returns-clause-ok c =
    let m = c.make_piece_room.new.blocks in
    let edge = c.args.edge in
    let items = c.in_ok-make_piece_room.ensures.items in
    let building = same_building c.self.inside.blocks m c.self.invariant items c.in_ok-make_piece_room.ensures.fits in
    let start : c.in_ok-start.start ≡ length m.bytes.items = c.in_ok-start.ensures.start in
    let content : Bytes c.in_ok-start.start (c.in_ok-start.start + length c.args.bytes.now) ≡ content_of_bytes m.bytes.items c.args.bytes.now = ap (λ n. Bytes n (n + length c.args.bytes.now)) start in
    rw (← c.self.view_is) (stored_within_pieces m (record m { contents = c.push_within.new.self; bytes = c.add_bytes.new.block }) edge c.args.bytes.now building
    (record { contents = c.push_within.ensures.items ∙ ap (λ (x : Content). m.contents.items ++ Open edge ∷ x ∷ Close edge ∷ []) content; contents_room = c.push_within.ensures.room; opened = refl; lens = refl; groups = refl; room = refl }) c.in_ok-start.ensures.ok.0
    ∙ ap (λ (l : _). l ++ Begins (edge_of edge) ∷ Holds (BytesLeaf c.args.bytes.now) ∷ Ends (edge_of edge) ∷ []) (same_pieces c.self.inside.blocks m items))
