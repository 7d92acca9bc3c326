use Rattle.std.proofs.Common.{◌≡◌, length, arith, true, false}
use Rattle.inst_pool.specs.Blocks.{block_pieces}
use Rattle.inst_pool.specs.Pieces.{bytes_of}
use Rattle.inst_pool.proofs.ContentLemmas.{length_pieces}
use Rattle.inst_pool.proofs.builder.Builder.reserve.Goals as goal

pub returns-in_err-make_piece_room-clause-within : goal.returns-in_err-make_piece_room-clause-within
returns-in_err-make_piece_room-clause-within c =
    let l = length_pieces c.self.inside.blocks.bytes.items c.self.inside.blocks.contents.items in let n = c.self.invariant.room.pieces in
    rw (← c.self.view_is) (λ h g. absurd (let e : false ≡ true = c.in_err-make_piece_room.ensures.within (omega (arith, h, l, n)) in cc))

pub returns-clause-ok : goal.returns-clause-ok
returns-clause-ok c =
    let m = c.make_piece_room.new.blocks in
    let items = c.in_ok-make_piece_room.ensures.items in
    let l = length_pieces m.bytes.items m.contents.items in let fits = c.in_ok-make_piece_room.ensures.ok in
    let n : bytes_of (block_pieces m) ≡ length m.bytes.items = rw (items.contents, items.bytes) c.self.invariant.blocks.count in
    let b = m.bytes.ok.0 in let byte_fits = c.in_ok-make_room.ensures.ok in let byte_same = c.in_ok-make_room.ensures.len in
    rw c.in_ok-make_room.ensures.items (omega (arith, l, fits), omega (arith, n, b, byte_fits, byte_same))
