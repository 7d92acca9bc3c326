use Rattle.std.proofs.Common.{◌<◌, ◌∷◌, [], length, ap, arith}
use Rattle.std.specs.Prelude.{min, vec_capacity}
use Rattle.inst_pool.specs.inner.Nodes.{contents_in}
use Rattle.inst_pool.specs.declared.content.Content.{Content}
use Rattle.inst_pool.proofs.NodeLemmas.{length_contents, short_fits, pushed_short}
use Rattle.inst_pool.proofs.contents.Contents.push.Goals as goal

pub shortened-requires : goal.shortened-requires
shortened-requires c =
    let r : length (contents_in c.self.inside.texts.items c.self.inside.others.items 0 c.self.inside.nodes.items) < min (min (vec_capacity c.self.inside.nodes) (vec_capacity c.self.inside.others)) c.self.inside.texts.room =
    rw (← c.self.view_is) at c.requires.room in
    let l = length_contents c.self.inside.texts.items c.self.inside.others.items 0 c.self.inside.nodes.items in let i = c.self.invariant.count in omega (arith, r, l, i)

pub push_reserved-requires : goal.push_reserved-requires
push_reserved-requires c =
    let r : length (contents_in c.self.inside.texts.items c.self.inside.others.items 0 c.self.inside.nodes.items) < min (min (vec_capacity c.self.inside.nodes) (vec_capacity c.self.inside.others)) c.self.inside.texts.room =
    rw (← c.self.view_is) at c.requires.room in
    let l = length_contents c.self.inside.texts.items c.self.inside.others.items 0 c.self.inside.nodes.items in let o = c.self.inside.nodes.ok.0 in omega (arith, r, l, o)

pub invariant_of-self-2 : goal.invariant_of-self-2
invariant_of-self-2 c =
    rw c.push_reserved.ensures.items (short_fits c.self.inside.texts.items c.self.inside.others.items c.shortened.new.texts.items c.self.inside.nodes.items (c.in-Some.node ∷ []) c.self.invariant c.shortened.ensures.more
    (omega arith) (c.in-Some.ensures.within c.self.inside.others.items (length c.self.inside.nodes.items), tt))

pub returns-clause-items : goal.returns-clause-items
returns-clause-items c =
    rw (c.push_reserved.ensures.items, ← c.self.view_is) (pushed_short c.self.inside.texts.items c.self.inside.others.items c.shortened.new.texts.items c.self.inside.nodes.items (c.in-Some.node ∷ []) c.self.invariant
    c.shortened.ensures.more (c.args.content ∷ []) (ap (λ (x : Content). x ∷ []) (c.in-Some.ensures.content c.self.inside.others.items (length c.self.inside.nodes.items))))
