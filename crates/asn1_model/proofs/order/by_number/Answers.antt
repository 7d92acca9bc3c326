-- Each number below the count has a name.
use Rattle.std.proofs.Common.{◌<◌, ◌∷◌, [], ◌++◌, List, length, map, sym, ap, ◌∙◌, arith}
use Rattle.std.proofs.lemmas.List.{map-append}
use Rattle.asn1_model.specs.declared.order.NamedType.{NamedType}
use Rattle.asn1_model.specs.ModuleOf.{Numbered}
use Rattle.asn1_model.specs.inner.Order.{numbered_type}
use Rattle.asn1_model.proofs.NumberedTypes.{numbered_more, not_nameless}
use Rattle.asn1_model.proofs.order.by_number.Goals as goal

pub loop-number-preserved : goal.loop-number-preserved
loop-number-preserved c =
    let one : NamedType = record { number = c.loop-number.number; name = c.in-Some.name } in
    ap (map numbered_type) c.in_ok-push.ensures.items ∙ map-append numbered_type c.loop-number.types.items (one ∷ [])
    ∙ ap (λ (l : List Numbered). l ++ numbered_type one ∷ []) c.loop-number.invariant
    ∙ sym (numbered_more c.args.model.now.types c.loop-number.number c.in-Some.name.now c.in-Some.ensures)

pub returns-in_default : goal.returns-in_default
returns-in_default c =
    let lt : c.loop-number.number < length c.args.model.now.types = omega (arith, c.loop-number-test.true, c.type_count-number-end.ensures.count) in
    absurd (not_nameless c.args.model.now.types c.loop-number.number lt c.in_default.ensures)
