use Rattle.std.proofs.Common.{◌≡◌, ◌++◌, ◌∷◌, [], refl, ap, ◌∙◌, arith, true, false}
use Rattle.data_types.specs.Value.{Begins, Holds, Ends}
use Rattle.inst_pool.specs.Pieces.{edge_of}
use Rattle.inst_pool.proofs.ContentLemmas.{length_pieces}
use Rattle.inst_pool.proofs.BuildingLemmas.{same_building, same_pieces, plain_within_pieces, building_plain_within}
use Rattle.inst_pool.proofs.builder.Builder.hold_within.Goals as goal

pub returns-in_err-make_piece_room-clause-within : goal.returns-in_err-make_piece_room-clause-within
returns-in_err-make_piece_room-clause-within c =
    let l = length_pieces c.self.inside.blocks.bytes.items c.self.inside.blocks.contents.items in let n = c.self.invariant.room.pieces in
    rw (← c.self.view_is) (λ h. absurd (let e : false ≡ true = c.in_err-make_piece_room.ensures.within (omega (arith, h, l, n)) in cc))

pub invariant_of-self-2 : goal.invariant_of-self-2
invariant_of-self-2 c =
    let m = c.make_piece_room.new.blocks in
    let items = c.in_ok-make_piece_room.ensures.items in
    let building = same_building c.self.inside.blocks m c.self.invariant items c.in_ok-make_piece_room.ensures.fits in
    building_plain_within m _ c.args.edge c.args.content c.requires.0 c.requires.1 building c.in_ok-make_piece_room.ensures.ok
    (record { contents = c.push_within.ensures.items; contents_room = c.push_within.ensures.room; opened = refl; lens = refl; groups = refl; room = refl }) refl

pub returns-clause-ok : goal.returns-clause-ok
returns-clause-ok c =
    let m = c.make_piece_room.new.blocks in
    let items = c.in_ok-make_piece_room.ensures.items in
    rw (← c.self.view_is) (λ leaf is. plain_within_pieces m (record m { contents = c.push_within.new.self }) c.args.edge c.args.content leaf is
    (record { contents = c.push_within.ensures.items; contents_room = c.push_within.ensures.room; opened = refl; lens = refl; groups = refl; room = refl }) refl
    ∙ ap (λ (l : _). l ++ Begins (edge_of c.args.edge) ∷ Holds leaf ∷ Ends (edge_of c.args.edge) ∷ []) (same_pieces c.self.inside.blocks m items))
