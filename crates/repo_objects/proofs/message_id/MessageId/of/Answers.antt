use Rattle.std.proofs.Common.{rules, ◌≡◌, sym, subst, ◌∙◌}
use Rattle.repo_objects.specs.MessageId.{IsMessageId}
use Rattle.repo_objects.proofs.message_id.MessageId.of.Goals as goal

pub returns-else-has_form-clause-form : goal.returns-else-has_form-clause-form
returns-else-has_form-clause-form c =
    (λ e. absurd (cc), λ h. sym c.if-has_form.false ∙ c.has_form.ensures.1 (subst IsMessageId (let e : c.args.bytes.now ≡ c.in_ok-octets.octets = search rules in e) h))
