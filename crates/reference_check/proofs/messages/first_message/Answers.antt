-- The first that has the identifier is the one that is found.
use Rattle.std.proofs.Common.{arith}
use Rattle.reference_check.proofs.FoundMessages.{found_first, found_none}
use Rattle.reference_check.proofs.messages.first_message.Goals as goal

pub returns-in-Some-clause-some : goal.returns-in-Some-clause-some
returns-in-Some-clause-some c = (
  c.in-Some.ensures.some.0,
  found_first c.args.id.now c.args.repository.now.messages c.loop-at.at c.in-Some.message.now c.loop-at.invariant c.in-Some.ensures.some.0 c.in-Some.ensures.some.1,
)

pub returns-clause-none : goal.returns-clause-none
returns-clause-none c = found_none c.args.id.now c.args.repository.now.messages c.loop-at.at (omega arith) c.loop-at.invariant
