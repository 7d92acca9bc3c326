use Rattle.std.proofs.Common.{◌<◌, ◌∙◌, length, get_or, sym, ap, subst, arith}
use Rattle.inst_pool.specs.Contents.{piece_in, IsContentInside}
use Rattle.inst_pool.specs.inner.Texts.{texts_between}
use Rattle.inst_pool.specs.declared.content.Content.{Content}
use Rattle.inst_pool.specs.declared.content.Content.TheVariants.{Code}
use Rattle.inst_pool.proofs.TextLemmas.{text_bound, text_is}
use Rattle.inst_pool.proofs.texts.Texts.text.Goals as goal

pub index-requires : goal.index-requires
index-requires c =
    let r : c.args.number < length (texts_between c.self.inside.bounds.items) = rw (← c.self.view_is) at c.requires.number in
    let n = text_bound c.self.inside.bounds.items c.args.number r in let o = c.self.inside.bounds.ok.0 in omega (arith, n, o)

pub index-requires-2 : goal.index-requires-2
index-requires-2 c =
    let r : c.args.number < length (texts_between c.self.inside.bounds.items) = rw (← c.self.view_is) at c.requires.number in
    let n = text_bound c.self.inside.bounds.items c.args.number r in let o = c.self.inside.bounds.ok.0 in omega (arith, n, o)

pub part-requires : goal.part-requires
part-requires c =
    let bounds = c.self.inside.bounds.items in
    let r : c.args.number < length (texts_between bounds) = rw (← c.self.view_is) at c.requires.number in
    let is = text_is bounds c.args.number (Code 0) c.index.result.now c.index-2.result.now r c.index.ensures c.index-2.ensures in
    let inside : IsContentInside (length c.args.bytes.now) (get_or (texts_between bounds) c.args.number (Code 0)) = rw (← c.self.view_is) at c.requires.inside in
    subst (λ (x : Content). IsContentInside (length c.args.bytes.now) x) is inside

pub returns : goal.returns
returns c =
    let bounds = c.self.inside.bounds.items in
    let r : c.args.number < length (texts_between bounds) = rw (← c.self.view_is) at c.requires.number in
    let is = text_is bounds c.args.number (Code 0) c.index.result.now c.index-2.result.now r c.index.ensures c.index-2.ensures in
    rw (← c.self.view_is) (c.part.ensures ∙ sym (ap (λ (x : Content). piece_in c.args.bytes.now x) is))
