-- The message is found by its identifier.
use Rattle.std.proofs.Common.{◌≡◌, ◌∙◌, sym, ap, Some}
use Rattle.reference_check.specs.Reached.{place_id}
use Rattle.reference_check.proofs.FirstPlaces.{message_id}
use Rattle.reference_check.proofs.tail_rules.breaker_id.Goals as goal

pub returns-in-Message : goal.returns-in-Message
returns-in-Message c m p has is =
    let definition : Some c.unwrap-in-Message.result.now ≡ Some has.definition = (rw c.unwrap-in-Message.ensures at c.message_at.ensures.message) ∙ has.message_is in
    let same : c.unwrap-in-Message.result.now ≡ has.definition = cc in
    let here = rw c.in-Message.is at is in
    c.bytes.ensures ∙ ap (λ d. d.id) same ∙ message_id _ _ _ has.first ∙ sym (ap (place_id m) here)
