use Rattle.std.proofs.Common.{◌≡◌, ◌++◌, ◌∷◌, [], refl, ap, ◌∙◌, arith, true, false}
use Rattle.data_types.specs.Value.{Ends}
use Rattle.inst_pool.specs.Pieces.{open_in}
use Rattle.inst_pool.proofs.ContentLemmas.{length_pieces}
use Rattle.inst_pool.proofs.BuildingLemmas.{same_building, same_pieces, close_pieces, building_close}
use Rattle.inst_pool.proofs.builder.Builder.close.Goals as goal

pub returns-in_err-make_piece_room-clause-within : goal.returns-in_err-make_piece_room-clause-within
returns-in_err-make_piece_room-clause-within c =
    let l = length_pieces c.self.inside.blocks.bytes.items c.self.inside.blocks.contents.items in let n = c.self.invariant.room.pieces in
    rw (← c.self.view_is) (λ h. absurd (let e : false ≡ true = c.in_err-make_piece_room.ensures.within (omega (arith, h, l, n)) in cc))

pub invariant_of-self-2 : goal.invariant_of-self-2
invariant_of-self-2 c =
    let m = c.make_piece_room.new.blocks in
    let items = c.in_ok-make_piece_room.ensures.items in
    let building = same_building c.self.inside.blocks m c.self.invariant items c.in_ok-make_piece_room.ensures.fits in
    building_close m _ c.in-Some.edge building c.in_ok-make_piece_room.ensures.ok
    (record { contents = c.push.ensures.items; contents_room = c.push.ensures.room; opened_room = c.in-Some.ensures.capacity; lens = refl; groups = refl; room = refl }) refl c.in-Some.ensures.items

pub returns-clause-ok : goal.returns-clause-ok
returns-clause-ok c =
    let m = c.make_piece_room.new.blocks in
    let items = c.in_ok-make_piece_room.ensures.items in
    let building = same_building c.self.inside.blocks m c.self.invariant items c.in_ok-make_piece_room.ensures.fits in
    rw (← c.self.view_is) (λ inner outer is. close_pieces m (record m { contents = c.push.new.self; opened = c.pop.new.self }) c.in-Some.edge building
    (record { contents = c.push.ensures.items; contents_room = c.push.ensures.room; opened_room = c.in-Some.ensures.capacity; lens = refl; groups = refl; room = refl }) refl c.in-Some.ensures.items inner outer
    (ap open_in (same_pieces c.self.inside.blocks m items) ∙ is) ∙ ap (λ (l : _). l ++ Ends inner ∷ []) (same_pieces c.self.inside.blocks m items))
