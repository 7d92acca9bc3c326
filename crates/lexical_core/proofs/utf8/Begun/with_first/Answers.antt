use Rattle.std.proofs.Common.{refl, inl, inr, arith}
use Rattle.lexical_core.proofs.ByteForms.{front_1, no_front_1}
use Rattle.lexical_core.proofs.utf8.Begun.with_first.Goals as goal

pub returns-in-194-to-244-clause-steps : goal.returns-in-194-to-244-clause-steps
returns-in-194-to-244-clause-steps c = (front_1 c.args.byte (omega arith) (omega arith), refl)

pub returns-in_default-clause-steps : goal.returns-in_default-clause-steps
returns-in_default-clause-steps c = (no_front_1 c.args.byte (inl (omega arith)) (omega arith), refl)

pub returns-in_default-2-clause-steps : goal.returns-in_default-2-clause-steps
returns-in_default-2-clause-steps c = (no_front_1 c.args.byte (inr (omega arith)) (omega arith), refl)
