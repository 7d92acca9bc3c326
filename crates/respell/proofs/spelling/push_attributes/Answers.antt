use Rattle.std.proofs.Common.{map, List, refl, sym, ap, ◌∙◌, arith}
use Rattle.markup.specs.declared.event.Attr.{Attr}
use Rattle.markup.specs.EventItems.{entry_of}
use Rattle.respell.proofs.NumberingLemmas.{numbered_none, attribute_preserved, started_preserved, next_within}
use Rattle.respell.proofs.spelling.push_attributes.Goals as goal

pub loop-attr-init : goal.loop-attr-init
loop-attr-init c = (λ sorted. (numbered_none (map entry_of c.args.attrs.now) sorted, refl), (λ e. absurd cc), omega arith)

pub loop-attr-preserved : goal.loop-attr-preserved
loop-attr-preserved c =
    let n = c.in-Some.ensures.cases.1 in let i = c.loop-attr.invariant.2 in
    let k = c.number_behind-number.ensures in let within = next_within c.loop-attr.number c.loop-attr.last.now c.bytes.result.now in (
      attribute_preserved (map entry_of c.args.attrs.now) (map entry_of c.in-Some.others.now) (map entry_of c.loop-attr.left.now) (entry_of c.in-Some.attr.now)
          c.loop-attr.text c.push_attribute.new.text _ c.loop-attr.last.now c.bytes.result.now c.bytes-in-Some.result.now c.later-last.result.now c.loop-attr.number c.number_behind-number.result
          (ap (λ (l : List Attr). map entry_of l) c.in-Some.ensures.cases.0) c.bytes.ensures c.bytes-in-Some.ensures k c.later-last.ensures c.in_ok-push_attribute.ensures c.loop-attr.invariant.0,
      started_preserved c.loop-attr.number c.number_behind-number.result c.loop-attr.last.now c.bytes.result.now c.bytes-in-Some.result.now c.later-last.result.now (c.bytes.ensures ∙ sym c.bytes-in-Some.ensures) k c.later-last.ensures c.loop-attr.invariant.1,
      omega (arith, n, i, k, within),
    )
