use Rattle.std.proofs.Common.{List, ℕ, sym, ap, ◌∙◌, arith, slice_get}
use Rattle.std.proofs.lemmas.Option.{slice_get_past}
use Rattle.std.specs.Option.{option_map}
use Rattle.inst_pool.specs.Blocks.{block_pieces}
use Rattle.inst_pool.specs.Contents.{piece_in}
use Rattle.inst_pool.proofs.ContentLemmas.{get_piece, length_pieces}
use Rattle.inst_pool.proofs.instance.Instance.piece.Goals as goal

pub returns-then-at-len : goal.returns-then-at-len
returns-then-at-len c =
    let l = length_pieces c.self.inside.blocks.bytes.items c.self.inside.blocks.contents.items in let e = c.len.ensures in let t = c.if-at-len.true in
    rw (← c.self.view_is) (sym (slice_get_past (block_pieces c.self.inside.blocks) c.args.at (omega (arith, l, e, t))))

pub returns : goal.returns
returns c =
    rw (← c.self.view_is) (sym (get_piece c.self.inside.blocks.bytes.items c.self.inside.blocks.contents.items c.args.at
    ∙ (ap (λ (b : List ℕ). option_map (piece_in b) (slice_get c.self.inside.blocks.contents.items c.args.at)) (sym c.as_slice-bytes.ensures.value) ∙ c.piece.ensures)))
