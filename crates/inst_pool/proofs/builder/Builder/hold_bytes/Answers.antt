use Rattle.std.proofs.Common.{◌≡◌, ◌+◌, ◌++◌, ◌∷◌, [], length, refl, ap, ◌∙◌, arith, true, false}
use Rattle.data_types.specs.Leaf.{Bytes as BytesLeaf}
use Rattle.data_types.specs.Value.{Holds}
use Rattle.inst_pool.specs.Contents.{content_of_bytes}
use Rattle.inst_pool.specs.declared.content.Content.{Content}
use Rattle.inst_pool.specs.declared.content.Content.TheVariants.{Bytes}
use Rattle.inst_pool.proofs.ContentLemmas.{length_pieces}
use Rattle.inst_pool.proofs.BuildingLemmas.{same_building, same_pieces, stored_pieces, building_store}
use Rattle.inst_pool.proofs.builder.Builder.hold_bytes.Goals as goal

pub returns-in_err-make_piece_room-clause-within : goal.returns-in_err-make_piece_room-clause-within
returns-in_err-make_piece_room-clause-within c =
    let l = length_pieces c.self.inside.blocks.bytes.items c.self.inside.blocks.contents.items in let n = c.self.invariant.room.pieces in
    rw (← c.self.view_is) (λ h g. absurd (let e : false ≡ true = c.in_err-make_piece_room.ensures.within (omega (arith, h, l, n)) in cc))

pub invariant_of-self-2 : goal.invariant_of-self-2
invariant_of-self-2 c =
    let m = c.make_piece_room.new.blocks in
    let items = c.in_ok-make_piece_room.ensures.items in
    let building = same_building c.self.inside.blocks m c.self.invariant items c.in_ok-make_piece_room.ensures.fits in
    let start : c.in_ok-start.start ≡ length m.bytes.items = c.in_ok-start.ensures.start in
    let content : Bytes c.in_ok-start.start (c.in_ok-start.start + length c.args.bytes.now) ≡ content_of_bytes m.bytes.items c.args.bytes.now = ap (λ n. Bytes n (n + length c.args.bytes.now)) start in
    building_store m _ c.args.bytes.now building c.in_ok-make_piece_room.ensures.ok c.in_ok-start.ensures.ok.1
    (record { contents = c.push.ensures.items ∙ ap (λ (x : Content). m.contents.items ++ x ∷ []) content; contents_room = c.push.ensures.room; opened_room = refl; lens = refl; groups = refl; room = refl }) c.in_ok-start.ensures.ok.0 refl

pub returns-clause-ok : goal.returns-clause-ok
returns-clause-ok c =
    let m = c.make_piece_room.new.blocks in
    let items = c.in_ok-make_piece_room.ensures.items in
    let building = same_building c.self.inside.blocks m c.self.invariant items c.in_ok-make_piece_room.ensures.fits in
    let start : c.in_ok-start.start ≡ length m.bytes.items = c.in_ok-start.ensures.start in
    let content : Bytes c.in_ok-start.start (c.in_ok-start.start + length c.args.bytes.now) ≡ content_of_bytes m.bytes.items c.args.bytes.now = ap (λ n. Bytes n (n + length c.args.bytes.now)) start in
    rw (← c.self.view_is) (stored_pieces m (record m { contents = c.push.new.self; bytes = c.add_bytes.new.block }) c.args.bytes.now building
    (record { contents = c.push.ensures.items ∙ ap (λ (x : Content). m.contents.items ++ x ∷ []) content; contents_room = c.push.ensures.room; opened_room = refl; lens = refl; groups = refl; room = refl }) c.in_ok-start.ensures.ok.0
    ∙ ap (λ (l : _). l ++ Holds (BytesLeaf c.args.bytes.now) ∷ []) (same_pieces c.self.inside.blocks m items))
