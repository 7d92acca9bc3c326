use Rattle.std.proofs.Common.{◌≡◌, [], length, replicate, ap, sym, ◌∙◌}
use Rattle.inst_pool.specs.Blocks.{block_pieces}
use Rattle.inst_pool.specs.Pieces.{Region, open_in}
use Rattle.inst_pool.proofs.BuildingLemmas.{opened_none}
use Rattle.inst_pool.proofs.ContentLemmas.{length_pieces}
use Rattle.inst_pool.proofs.builder.Builder.finish.Goals as goal

pub of-requires-clause-opened : goal.of-requires-clause-opened
of-requires-clause-opened c =
    let r : open_in (block_pieces c.self.inside.blocks) ≡ [] = rw (← c.self.view_is) at c.requires in
    opened_none c.self.inside.blocks c.self.invariant r

pub returns-clause-lens : goal.returns-clause-lens
returns-clause-lens c =
    let count : length (block_pieces c.self.inside.blocks) ≡ length c.self.inside.blocks.contents.items = length_pieces c.self.inside.blocks.bytes.items c.self.inside.blocks.contents.items in
    let pieces : length (block_pieces c.self.inside.blocks) ≡ length c.args.self.pieces = ap (λ (r : Region). length r.pieces) c.self.view_is in
    c.of.ensures.lens ∙ ap (λ n. replicate n 0) (sym count ∙ pieces)

pub returns-clause-groups : goal.returns-clause-groups
returns-clause-groups c =
    let count : length (block_pieces c.self.inside.blocks) ≡ length c.self.inside.blocks.contents.items = length_pieces c.self.inside.blocks.bytes.items c.self.inside.blocks.contents.items in
    let pieces : length (block_pieces c.self.inside.blocks) ≡ length c.args.self.pieces = ap (λ (r : Region). length r.pieces) c.self.view_is in
    c.of.ensures.groups ∙ ap (λ n. replicate n 0) (sym count ∙ pieces)
