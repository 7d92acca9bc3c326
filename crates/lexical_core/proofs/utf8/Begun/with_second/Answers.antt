use Rattle.std.proofs.Common.{refl, arith}
use Rattle.lexical_core.proofs.ByteForms.{front_2, no_front_2, spells_2}
use Rattle.lexical_core.proofs.utf8.Begun.with_second.Goals as goal

pub returns-then-not-is_second-clause-steps : goal.returns-then-not-is_second-clause-steps
returns-then-not-is_second-clause-steps c =
    (no_front_2 c.args.first c.args.byte (omega arith) (λ s. let t = c.is_second.ensures.1 s in cc), refl)

pub returns-then-first-ge224-clause-steps : goal.returns-then-first-ge224-clause-steps
returns-then-first-ge224-clause-steps c =
    (front_2 c.args.first c.args.byte (omega arith) (omega arith) (c.is_second.ensures.0 c.if-not-is_second.false), refl)

pub returns-clause-steps : goal.returns-clause-steps
returns-clause-steps c =
    let second = c.is_second.ensures.0 c.if-not-is_second.false in
    let s = spells_2 c.args.first c.args.byte c.char_of.result (omega arith) (omega arith) (omega arith) second.tail in
    (s.0, s.1, refl)
