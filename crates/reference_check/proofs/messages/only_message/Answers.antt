-- No message has the identifier, or two do.
use Rattle.std.proofs.Common.{arith}
use Rattle.reference_check.proofs.FoundMessages.{refuses_none, refuses_two}
use Rattle.reference_check.proofs.messages.only_message.Goals as goal

pub returns-in_default-clause-broken : goal.returns-in_default-clause-broken
returns-in_default-clause-broken c = refuses_none c.args.repository.now c.args.id.now c.refusal.result c.in_default.ensures.none c.refusal.ensures

pub returns-then-message_count-ge2-clause-broken : goal.returns-then-message_count-ge2-clause-broken
returns-then-message_count-ge2-clause-broken c =
    refuses_two c.args.repository.now c.args.id.now c.refusal-then-message_count-ge2.result c.in-Some.found.1.now c.in-Some.ensures.some.1 (omega (arith, c.message_count.ensures)) c.refusal-then-message_count-ge2.ensures
