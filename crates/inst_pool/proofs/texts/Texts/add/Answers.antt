use Rattle.std.proofs.Common.{◌≡◌, ◌+◌, ◌-◌, ◌<◌, length, get_or, arith, sym, ◌∙◌}
use Rattle.std.specs.Prelude.{vec_capacity}
use Rattle.std.proofs.lemmas.List.{get_or_default}
use Rattle.inst_pool.specs.inner.Texts.{texts_between, text_room}
use Rattle.inst_pool.proofs.TextLemmas.{has_text_room, texts_more}
use Rattle.inst_pool.proofs.texts.Texts.add.Goals as goal

pub push_reserved-requires : goal.push_reserved-requires
push_reserved-requires c =
    let r : length (texts_between c.self.inside.bounds.items) < text_room c.self.inside.bounds.items (vec_capacity c.self.inside.bounds) = rw (← c.self.view_is) at c.requires in
    let has = has_text_room c.self.inside.bounds.items (vec_capacity c.self.inside.bounds) r in let o = c.self.inside.bounds.ok.0 in omega (arith, has.room, o)

pub returns-clause-number : goal.returns-clause-number
returns-clause-number c =
    let r : length (texts_between c.self.inside.bounds.items) < text_room c.self.inside.bounds.items (vec_capacity c.self.inside.bounds) = rw (← c.self.view_is) at c.requires in
    let has = has_text_room c.self.inside.bounds.items (vec_capacity c.self.inside.bounds) r in let o = c.self.inside.bounds.ok.0 in let l = c.len-number.ensures in
    rw (← c.self.view_is) (omega (arith, has.count, o, l))

pub returns-clause-some : goal.returns-clause-some
returns-clause-some c =
    let r : length (texts_between c.self.inside.bounds.items) < text_room c.self.inside.bounds.items (vec_capacity c.self.inside.bounds) = rw (← c.self.view_is) at c.requires in
    let has = has_text_room c.self.inside.bounds.items (vec_capacity c.self.inside.bounds) r in
    let o = c.self.inside.bounds.ok.0 in
    let l = c.len-number.ensures in
    let number = c.len-number.result - 1 in
    let count : number + 1 ≡ length c.self.inside.bounds.items = omega (arith, has.count, o, l) in
    let start : get_or c.self.inside.bounds.items number 0 ≡ c.args.start =
    get_or_default c.self.inside.bounds.items number 0 c.index.result.now (omega (arith, count)) ∙ (sym c.index.ensures ∙ c.if-index-start.false) in
    rw (c.push_reserved.ensures.items, ← c.self.view_is) (texts_more c.self.inside.bounds.items number c.args.start c.args.end count start)
