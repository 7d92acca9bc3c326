use Rattle.std.proofs.Common.{◌+◌, ◌≤◌, List, ◌∷◌, [], length, suc, refl, ap₂, arith}
use Rattle.std.specs.Prelude.{min, vec_capacity}
use Rattle.inst_pool.specs.inner.Nodes.{contents_in}
use Rattle.inst_pool.specs.declared.content.Content.{Content}
use Rattle.inst_pool.specs.declared.content.Content.TheVariants as long
use Rattle.inst_pool.proofs.NodeLemmas.{length_contents, short_fits, pushed_short, opens, closes, open_within, close_within}
use Rattle.inst_pool.proofs.contents.Contents.push_within.Goals as goal

pub shortened-requires : goal.shortened-requires
shortened-requires c =
    let r : length (contents_in c.self.inside.texts.items c.self.inside.others.items 0 c.self.inside.nodes.items) + 3 ≤ min (min (vec_capacity c.self.inside.nodes) (vec_capacity c.self.inside.others)) c.self.inside.texts.room =
    rw (← c.self.view_is) at c.requires.room in
    let l = length_contents c.self.inside.texts.items c.self.inside.others.items 0 c.self.inside.nodes.items in let i = c.self.invariant.count in omega (arith, r, l, i)

pub add_three-requires : goal.add_three-requires
add_three-requires c =
    let r : length (contents_in c.self.inside.texts.items c.self.inside.others.items 0 c.self.inside.nodes.items) + 3 ≤ min (min (vec_capacity c.self.inside.nodes) (vec_capacity c.self.inside.others)) c.self.inside.texts.room =
    rw (← c.self.view_is) at c.requires.room in
    let l = length_contents c.self.inside.texts.items c.self.inside.others.items 0 c.self.inside.nodes.items in let o = c.self.inside.nodes.ok.0 in omega (arith, r, l, o)

pub invariant_of-self-2 : goal.invariant_of-self-2
invariant_of-self-2 c =
    let texts = c.shortened.new.texts.items in
    let others = c.self.inside.others.items in
    let at = length c.self.inside.nodes.items in
    rw c.add_three.ensures.items (short_fits c.self.inside.texts.items others texts c.self.inside.nodes.items (c.new-open.result ∷ c.in-Some-shortened.node ∷ c.new-close.result ∷ []) c.self.invariant c.shortened.ensures.more
    (omega arith) (open_within texts others at c.new-open.result c.new-open.ensures.kind, (c.in-Some-shortened.ensures.within others (suc at), (close_within texts others (suc (suc at)) c.new-close.result c.new-close.ensures.kind, tt))))

pub returns-clause-items : goal.returns-clause-items
returns-clause-items c =
    let texts = c.shortened.new.texts.items in
    let others = c.self.inside.others.items in
    let at = length c.self.inside.nodes.items in
    let first = opens texts others at c.new-open.result c.in-Some.held c.args.edge c.new-open.ensures.kind c.new-open.ensures.held c.in-Some.ensures.edge in
    let second = c.in-Some-shortened.ensures.content others (suc at) in
    let third = closes texts others (suc (suc at)) c.new-close.result c.in-Some.held c.args.edge c.new-close.ensures.kind c.new-close.ensures.held c.in-Some.ensures.edge in
    rw (c.add_three.ensures.items, ← c.self.view_is) (pushed_short c.self.inside.texts.items others texts c.self.inside.nodes.items (c.new-open.result ∷ c.in-Some-shortened.node ∷ c.new-close.result ∷ []) c.self.invariant
    c.shortened.ensures.more (long.Open c.args.edge ∷ c.args.content ∷ long.Close c.args.edge ∷ [])
    (ap₂ (λ (x : Content) (l : List Content). x ∷ l) first (ap₂ (λ (x : Content) (l : List Content). x ∷ l) second (ap₂ (λ (x : Content) (l : List Content). x ∷ l) third refl))))
