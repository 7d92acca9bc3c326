-- The events of a tag that is opened.
use Rattle.std.proofs.Common.{refl, sym, subst, ◌∙◌}
use Rattle.markup.specs.inner.StartTags.{Opens, StopsFor}
use Rattle.markup.specs.Faults.{start_rule}
use Rattle.markup.proofs.ScopeLemmas.{opening_same, stops_before, takes_start, tells_front}
use Rattle.markup.proofs.scope.Scope.begin.Goals as goal

pub returns-in-Err : goal.returns-in-Err
returns-in-Err c tags is =
    let same = opening_same c.args.tag c.bytes.result.now c.bytes-2.result.now c.in-Ok.attributes.items c.bytes.ensures c.bytes-2.ensures (c.in-Ok.ensures ∙ c.as_slice.ensures) in
    stops_before c.args.over tags c.args.tag c.args.place c.args.out.now c.in-Err.stop (subst (λ t. StopsFor (start_rule c.args.over tags t) c.in-Err.stop) same (c.in-Err.ensures tags is))

pub returns-in-Ok-tell_start : goal.returns-in-Ok-tell_start
returns-in-Ok-tell_start c tags is =
    let same = opening_same c.args.tag c.bytes.result.now c.bytes-2.result.now c.in-Ok.attributes.items c.bytes.ensures c.bytes-2.ensures (c.in-Ok.ensures ∙ c.as_slice.ensures) in
    takes_start c.args.over tags c.args.tag c.args.place c.args.out.now c.tell_start.new.out c.open.new.attributes.items c.open.new.self c.in-Ok-open.opened c.args.tag.name.local
    (subst (λ t. Opens c.args.over tags t c.open.new.attributes.items c.open.new.self c.in-Ok-open.opened) same (c.in-Ok-open.ensures tags is)) refl (rw (sym c.as_slice-2.ensures.value) c.in-Ok-tell_start.ensures.ok)

pub returns : goal.returns
returns c tags is =
    let same = opening_same c.args.tag c.bytes.result.now c.bytes-2.result.now c.in-Ok.attributes.items c.bytes.ensures c.bytes-2.ensures (c.in-Ok.ensures ∙ c.as_slice.ensures) in
    tells_front c.args.over tags c.args.tag c.args.place c.args.out.now c.tell_start.new.out c.open.new.attributes.items c.open.new.self c.in-Ok-open.opened c.args.tag.name.local
    (subst (λ t. Opens c.args.over tags t c.open.new.attributes.items c.open.new.self c.in-Ok-open.opened) same (c.in-Ok-open.ensures tags is)) refl (rw (sym c.as_slice-2.ensures.value) c.in-Err-tell_start.ensures.err)
