use Rattle.std.proofs.Common.{◌++◌, map, ℕ, List, sym, ap, arith}
use Rattle.std.specs.List.{flat_map}
use Rattle.markup.specs.declared.event.Attr.{Attr}
use Rattle.markup.specs.EventItems.{entry_of}
use Rattle.fragments.specs.Fragment.{written_text, numbered_declarations}
use Rattle.respell.proofs.DeclaringLemmas.{without_none, declared_step}
use Rattle.respell.proofs.spelling.push_declarations.Goals as goal

pub loop-attr-init : goal.loop-attr-init
loop-attr-init c = (ap (λ (l : List (List ℕ)). c.args.text.now ++ flat_map written_text (numbered_declarations 1 l)) (without_none (map entry_of c.args.attrs.now)), omega arith)

pub loop-attr-preserved-in_ok-push_declaration : goal.loop-attr-preserved-in_ok-push_declaration
loop-attr-preserved-in_ok-push_declaration c = (
  declared_step c.loop-attr.text c.push_declaration.new.text _ c.loop-attr.number c.loop-attr.last.now c.bytes-namespace.result.now (entry_of c.in-Some.attr.now) (map entry_of c.in-Some.others.now) (map entry_of c.loop-attr.left.now)
      (ap (λ (l : List Attr). map entry_of l) c.in-Some.ensures.cases.0) c.bytes-namespace.ensures (sym c.if-is_new.ensures) c.in_ok-push_declaration.ensures c.loop-attr.invariant.0,
  (let n = c.in-Some.ensures.cases.1 in let i = c.loop-attr.invariant.1 in omega (arith, n, i)),
)
