use Rattle.std.proofs.Common.{refl, sym, ap, ◌∙◌}
use Rattle.der_octets.specs.Octets.{Tag}
use Rattle.der_octets.specs.TagSteps.{tag_view}
use Rattle.der_codec.proofs.ComponentsFound.{amount_none, context_class}
use Rattle.der_codec.proofs.components.in_amount.Goals as goal

pub returns-then-not-is_context : goal.returns-then-not-is_context
returns-then-not-is_context c = λ types.
    let e = amount_none c.args.number c.args.code c.args.next c.args.id.constructed (tag_view c.args.id)
    (λ k low high tag form. absurd (let is = c.if-not-is_context.ensures.1 (context_class c.args.id.class (sym (ap (λ (t : Tag). t.class) tag))) in cc)) in
    rw (e, c.unexpected.ensures) (refl, refl)

pub returns-then-id : goal.returns-then-id
returns-then-id c = λ types.
    let e = amount_none c.args.number c.args.code c.args.next c.args.id.constructed (tag_view c.args.id)
    (λ k low high tag form. let both = form ∙ c.if-id.true in absurd cc) in
    rw (e, c.unexpected-then-id.ensures) (refl, refl)
