use Rattle.std.proofs.Common.{arith}
use Rattle.reference_check.proofs.SearchAnswers.{free_tells}
use Rattle.reference_check.proofs.finite.is_free.Goals as goal

pub returns-in-Some : goal.returns-in-Some
returns-in-Some c = free_tells c.args.repository.now.objects c.args.marks.now c.args.element.now c.in-Some.at c.is_found.result (λ e. omega arith) c.in-Some.ensures c.is_found.ensures

pub returns-in-None : goal.returns-in-None
returns-in-None c = ((λ e. omega arith), λ k leads found. absurd (c.in-None.ensures k leads))
