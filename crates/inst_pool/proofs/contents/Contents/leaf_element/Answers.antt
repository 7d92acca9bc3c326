use Rattle.std.proofs.Common.{◌≡◌, ◌+◌, ◌<◌, ◌∙◌, length, slice_get, Some, sym, ap, arith}
use Rattle.std.proofs.lemmas.Option.{slice_get-get_or}
use Rattle.std.specs.Option.{option_map}
use Rattle.data_types.specs.LeafAnswers.{leaf_of}
use Rattle.data_types.specs.Value.{Holds}
use Rattle.inst_pool.specs.Contents.{piece_in, pieces_in}
use Rattle.inst_pool.specs.inner.Nodes.{contents_in}
use Rattle.inst_pool.specs.declared.content.Content.{Content}
use Rattle.inst_pool.specs.declared.node.Node.{Node}
use Rattle.inst_pool.specs.Pieces.{edge_of, IsLeafElement}
use Rattle.inst_pool.proofs.ContentLemmas.{get_piece}
use Rattle.inst_pool.proofs.NodeLemmas.{length_contents, got_node}
use Rattle.inst_pool.proofs.contents.Contents.leaf_element.Goals as goal

pub piece-requires-clause-place : goal.piece-requires-clause-place
piece-requires-clause-place c =
    let l = length_contents c.self.inside.texts.items c.self.inside.others.items 0 c.self.inside.nodes.items in
    let count = c.len-count.ensures in
    let some = c.if-count-lt3.false in
    let place = c.if-at-count.false in
    let goal : c.args.at + 1 < length (contents_in c.self.inside.texts.items c.self.inside.others.items 0 c.self.inside.nodes.items) = omega (arith, l, count, some, place) in
    rw (← c.self.view_is) goal

pub returns : goal.returns
returns c =
    let texts = c.self.inside.texts.items in
    let others = c.self.inside.others.items in
    let nodes = c.self.inside.nodes.items in
    let bytes = c.args.bytes.now in
    let count = c.len-count.ensures in
    let some = c.if-count-lt3.false in
    let place = c.if-at-count.false in
    let edge = c.in-Some.edge in
    let first = slice_get-get_or nodes c.args.at c.index.result.now (omega (arith, count, some, place)) ∙ ap (λ (n : Node). Some n) (sym c.index.ensures) in
    let third = slice_get-get_or nodes (c.args.at + 2) c.index-2.result.now (omega (arith, count, some, place)) ∙ ap (λ (n : Node). Some n) (sym c.index-2.ensures) in
    let begins = got_node texts others 0 c.args.at c.args.at nodes c.index.result.now (omega arith) first ∙ ap (λ (x : Content). Some x) (c.in-Some.ensures.begins texts others c.args.at) in
    let ends = got_node texts others 0 (c.args.at + 2) (c.args.at + 2) nodes c.index-2.result.now (omega arith) third ∙ ap (λ (x : Content). Some x) (c.in-Some.ensures.ends texts others (c.args.at + 2)) in
    let items = contents_in texts others 0 nodes in
    let leaf : option_map (piece_in bytes) (slice_get items (c.args.at + 1)) ≡ Some (Holds (leaf_of c.in-Leaf.leaf)) = rw (← c.self.view_is) at c.in-Leaf.ensures in
    let goal : IsLeafElement (pieces_in bytes items) c.args.at (edge_of edge) (leaf_of c.in-Leaf.leaf) = record {
      begins = get_piece bytes items c.args.at ∙ ap (option_map (piece_in bytes)) begins;
      holds = get_piece bytes items (c.args.at + 1) ∙ leaf;
      ends = get_piece bytes items (c.args.at + 2) ∙ ap (option_map (piece_in bytes)) ends;
    } in
    rw (← c.self.view_is) goal
