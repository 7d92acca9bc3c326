use Rattle.std.proofs.Common.{◌≡◌, ◌<◌, ◌∙◌, length, arith}
use Rattle.std.specs.Prelude.{min, vec_capacity}
use Rattle.inst_pool.specs.inner.Nodes.{contents_in}
use Rattle.inst_pool.specs.declared.others.Other.{Other}
use Rattle.inst_pool.proofs.NodeLemmas.{length_contents, apart_fits, pushed_apart}
use Rattle.inst_pool.proofs.OtherLemmas.{between_count}
use Rattle.inst_pool.proofs.contents.Contents.push_apart.Goals as goal

pub add_other-hint-requires : goal.add_other-hint-requires
add_other-hint-requires c =
    let r : length (contents_in c.self.inside.texts.items c.self.inside.others.items 0 c.self.inside.nodes.items) < min (min (vec_capacity c.self.inside.nodes) (vec_capacity c.self.inside.others)) c.self.inside.texts.room =
    rw (← c.self.view_is) at c.requires.room in
    let l = length_contents c.self.inside.texts.items c.self.inside.others.items 0 c.self.inside.nodes.items in
    let n = between_count 0 (length c.self.inside.nodes.items) c.self.inside.others.items c.self.invariant.order in let o = c.self.inside.others.ok.0 in omega (arith, r, l, n, o)

pub push_reserved-requires : goal.push_reserved-requires
push_reserved-requires c =
    let r : length (contents_in c.self.inside.texts.items c.self.inside.others.items 0 c.self.inside.nodes.items) < min (min (vec_capacity c.self.inside.nodes) (vec_capacity c.self.inside.others)) c.self.inside.texts.room =
    rw (← c.self.view_is) at c.requires.room in
    let l = length_contents c.self.inside.texts.items c.self.inside.others.items 0 c.self.inside.nodes.items in let o = c.self.inside.nodes.ok.0 in omega (arith, r, l, o)

pub invariant_of-self : goal.invariant_of-self
invariant_of-self c =
    let place : c.len-at.result ≡ length c.self.inside.nodes.items = c.len-at.ensures ∙ c.self.inside.nodes.ok.0 in
    let x : Other = record { at = c.len-at.result; content = c.args.content } in
    rw (c.add_other-hint.ensures.items, c.push_reserved.ensures.items) (apart_fits c.self.inside.texts.items c.self.inside.others.items c.self.inside.nodes.items c.new.result x c.self.invariant place c.new.ensures.kind)

pub returns-clause-items : goal.returns-clause-items
returns-clause-items c =
    let place : c.len-at.result ≡ length c.self.inside.nodes.items = c.len-at.ensures ∙ c.self.inside.nodes.ok.0 in
    let x : Other = record { at = c.len-at.result; content = c.args.content } in
    rw (c.add_other-hint.ensures.items, c.push_reserved.ensures.items, ← c.self.view_is)
    (pushed_apart c.self.inside.texts.items c.self.inside.others.items c.self.inside.nodes.items c.new.result x c.self.invariant place c.new.ensures.kind)
