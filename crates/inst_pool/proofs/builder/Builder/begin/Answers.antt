use Rattle.std.proofs.Common.{◌≡◌, ◌++◌, ◌∷◌, [], refl, ap, ◌∙◌, arith, true, false}
use Rattle.data_types.specs.Value.{Begins}
use Rattle.inst_pool.specs.Pieces.{edge_of}
use Rattle.inst_pool.proofs.ContentLemmas.{length_pieces}
use Rattle.inst_pool.proofs.BuildingLemmas.{opened_most, same_building, same_pieces, added_pieces, building_begin}
use Rattle.inst_pool.proofs.builder.Builder.begin.Goals as goal

pub returns-in_err-make_piece_room-clause-within : goal.returns-in_err-make_piece_room-clause-within
returns-in_err-make_piece_room-clause-within c =
    let l = length_pieces c.self.inside.blocks.bytes.items c.self.inside.blocks.contents.items in let n = c.self.invariant.room.pieces in
    rw (← c.self.view_is) (λ h. absurd (let e : false ≡ true = c.in_err-make_piece_room.ensures.within (omega (arith, h, l, n)) in cc))

pub push_reserved-requires : goal.push_reserved-requires
push_reserved-requires c =
    let m = c.make_piece_room.new.blocks in
    let items = c.in_ok-make_piece_room.ensures.items in
    let building = same_building c.self.inside.blocks m c.self.invariant items c.in_ok-make_piece_room.ensures.fits in
    let most = opened_most m building in
    let fits = c.in_ok-make_piece_room.ensures.ok in let room = c.in_ok-make_piece_room.ensures.fits.opened in let o = m.opened.ok.0 in omega (arith, most, fits, room, o)

pub invariant_of-self-2 : goal.invariant_of-self-2
invariant_of-self-2 c =
    let m = c.make_piece_room.new.blocks in
    let items = c.in_ok-make_piece_room.ensures.items in
    let building = same_building c.self.inside.blocks m c.self.invariant items c.in_ok-make_piece_room.ensures.fits in
    building_begin m _ c.args.edge building c.in_ok-make_piece_room.ensures.ok
    (record { contents = c.push.ensures.items; contents_room = c.push.ensures.room; opened_room = c.push_reserved.ensures.capacity; lens = refl; groups = refl; room = refl }) refl c.push_reserved.ensures.items

pub returns-clause-ok : goal.returns-clause-ok
returns-clause-ok c =
    let m = c.make_piece_room.new.blocks in
    let items = c.in_ok-make_piece_room.ensures.items in
    let building = same_building c.self.inside.blocks m c.self.invariant items c.in_ok-make_piece_room.ensures.fits in
    rw (← c.self.view_is) (added_pieces m (record m { contents = c.push.new.self; opened = c.push_reserved.new.self }) _ (record { contents = c.push.ensures.items; contents_room = c.push.ensures.room; opened_room = c.push_reserved.ensures.capacity; lens = refl; groups = refl; room = refl }) refl
    ∙ ap (λ (l : _). l ++ Begins (edge_of c.args.edge) ∷ []) (same_pieces c.self.inside.blocks m items))
