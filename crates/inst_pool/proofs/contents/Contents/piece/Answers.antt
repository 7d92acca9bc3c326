use Rattle.std.proofs.Common.{◌<◌, ◌∙◌, length, Some, List, sym, ap, arith}
use Rattle.std.proofs.lemmas.Option.{slice_get-get_or}
use Rattle.std.specs.Option.{option_map}
use Rattle.data_types.specs.Value.{Piece}
use Rattle.inst_pool.specs.Contents.{piece_in, AreInside}
use Rattle.inst_pool.specs.inner.Nodes.{contents_in, content_of}
use Rattle.inst_pool.specs.declared.node.Node.{Node}
use Rattle.inst_pool.specs.declared.others.Other.{Other}
use Rattle.inst_pool.proofs.ContentLemmas.{inside-at}
use Rattle.inst_pool.proofs.NodeLemmas.{length_contents, got_node, within_at}
use Rattle.inst_pool.proofs.contents.Contents.piece.Goals as goal

pub index-requires : goal.index-requires
index-requires c =
    let r : c.args.at < length (contents_in c.self.inside.texts.items c.self.inside.others.items 0 c.self.inside.nodes.items) = rw (← c.self.view_is) at c.requires.place in
    let l = length_contents c.self.inside.texts.items c.self.inside.others.items 0 c.self.inside.nodes.items in let o = c.self.inside.nodes.ok.0 in omega (arith, r, l, o)

pub piece_of-requires-clause-within : goal.piece_of-requires-clause-within
piece_of-requires-clause-within c =
    let texts = c.self.inside.texts.items in
    let others = c.self.inside.others.items in
    let nodes = c.self.inside.nodes.items in
    let r : c.args.at < length (contents_in texts others 0 nodes) = rw (← c.self.view_is) at c.requires.place in
    let l = length_contents texts others 0 nodes in
    let got = slice_get-get_or nodes c.args.at c.index.result.now (omega (arith, r, l)) ∙ ap (λ (n : Node). Some n) (sym c.index.ensures) in
    rw c.as_slice-others.ensures.value (within_at texts others 0 c.args.at c.args.at nodes c.index.result.now (omega arith) c.self.invariant.within got)

pub piece_of-requires-clause-inside : goal.piece_of-requires-clause-inside
piece_of-requires-clause-inside c =
    let texts = c.self.inside.texts.items in
    let others = c.self.inside.others.items in
    let nodes = c.self.inside.nodes.items in
    let r : c.args.at < length (contents_in texts others 0 nodes) = rw (← c.self.view_is) at c.requires.place in
    let l = length_contents texts others 0 nodes in
    let got = slice_get-get_or nodes c.args.at c.index.result.now (omega (arith, r, l)) ∙ ap (λ (n : Node). Some n) (sym c.index.ensures) in
    let inside : AreInside (length c.args.bytes.now) (contents_in texts others 0 nodes) = rw (← c.self.view_is) at c.requires.inside in
    rw c.as_slice-others.ensures.value (inside-at _ (contents_in texts others 0 nodes) c.args.at (content_of texts others c.args.at c.index.result.now) inside
    (got_node texts others 0 c.args.at c.args.at nodes c.index.result.now (omega arith) got))

pub returns : goal.returns
returns c =
    let texts = c.self.inside.texts.items in
    let others = c.self.inside.others.items in
    let nodes = c.self.inside.nodes.items in
    let r : c.args.at < length (contents_in texts others 0 nodes) = rw (← c.self.view_is) at c.requires.place in
    let l = length_contents texts others 0 nodes in
    let got = slice_get-get_or nodes c.args.at c.index.result.now (omega (arith, r, l)) ∙ ap (λ (n : Node). Some n) (sym c.index.ensures) in
    rw (← c.self.view_is) (ap (option_map (piece_in c.args.bytes.now)) (got_node texts others 0 c.args.at c.args.at nodes c.index.result.now (omega arith) got)
    ∙ ap (λ (p : Piece). Some p) (sym (c.piece_of.ensures ∙ ap (λ (l : List Other). piece_in c.args.bytes.now (content_of texts l c.args.at c.index.result.now)) c.as_slice-others.ensures.value)))
