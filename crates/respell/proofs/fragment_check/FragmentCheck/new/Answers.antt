use Rattle.std.proofs.Common.{ap, length, arith}
use Rattle.respell.specs.FragmentChecks.{fragment_held}
use Rattle.respell.proofs.fragment_check.FragmentCheck.new.Goals as goal

pub returns-clause-none : goal.returns-clause-none
unfolding fragment_held
returns-clause-none c = (let held = c.new.ensures.held in let none = c.new-2.ensures.items in omega (arith, held, ap length none))
