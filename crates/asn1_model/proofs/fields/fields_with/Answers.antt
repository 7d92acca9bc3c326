-- One more field, or no more names.
use Rattle.std.proofs.Common.{[], ◌∷◌, ◌++◌, ap, ◌∙◌}
use Rattle.asn1_model.specs.declared.module.Field.{Field}
use Rattle.asn1_model.specs.ModuleOf.{asn_name_of}
use Rattle.asn1_model.proofs.FieldLemmas.{fields_more, fields_end}
use Rattle.asn1_model.proofs.fields.fields_with.Goals as goal

pub loop-at-preserved : goal.loop-at-preserved
loop-at-preserved c T are =
    fields_more (asn_name_of T) c.args.slots.now c.args.given.now _ c.loop-at.fields c.push.new.self c.loop-at.at _ c.in-Some.name.now c.loop-at-test.true c.in-Some.ensures (c.loop-at.invariant T are)
    (c.in_ok-push.ensures.ok ∙ ap (λ (f : Field). c.loop-at.fields ++ f ∷ []) (c.in_ok-field_of.ensures T are))

pub returns-in_default : goal.returns-in_default
returns-in_default c T are = fields_end (asn_name_of T) c.args.slots.now c.args.given.now _ c.loop-at.fields c.loop-at.at c.in_default.ensures (c.loop-at.invariant T are)
