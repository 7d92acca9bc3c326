-- One more type, or no more names.
use Rattle.std.proofs.Common.{[], ◌++◌, Option, ap, ◌∙◌}
use Rattle.asn1_model.specs.declared.module.AsnShape.{AsnShape}
use Rattle.asn1_model.specs.ModuleOf.{names_given, with_shape}
use Rattle.asn1_model.proofs.FieldLemmas.{types_more, types_end}
use Rattle.asn1_model.proofs.make.types_of.Goals as goal

pub loop-at-preserved : goal.loop-at-preserved
loop-at-preserved c =
    let T = c.args.model.now in
    let name = c.in-Some.name.now in
    types_more T c.args.order.now (names_given T) _ c.loop-at.types c.push_type.new.types c.loop-at.at _ name c.loop-at-test.true (c.in-Some.ensures T c.requires.names) c.loop-at.invariant
    (c.in_ok-push_type.ensures ∙ ap (λ (s : Option AsnShape). c.loop-at.types ++ with_shape name s []) c.in_ok-shape.ensures)

pub returns-in_default : goal.returns-in_default
returns-in_default c =
    let T = c.args.model.now in
    types_end T c.args.order.now (names_given T) _ c.loop-at.types c.loop-at.at (c.in_default.ensures T c.requires.names) c.loop-at.invariant
