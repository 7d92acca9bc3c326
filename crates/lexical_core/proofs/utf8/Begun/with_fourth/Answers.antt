use Rattle.std.proofs.Common.{refl, arith}
use Rattle.lexical_core.proofs.ByteForms.{no_front_4, spells_4}
use Rattle.lexical_core.proofs.utf8.Begun.with_fourth.Goals as goal

pub returns-then-not-is_tail-clause-steps : goal.returns-then-not-is_tail-clause-steps
returns-then-not-is_tail-clause-steps c =
    (no_front_4 c.args.first c.args.second c.args.third c.args.byte (omega arith) (λ s. let t = c.is_tail.ensures.1 s in cc), refl)

pub returns-clause-steps : goal.returns-clause-steps
returns-clause-steps c =
    let tail = c.is_tail.ensures.0 c.if-not-is_tail.false in
    let second = c.requires.2 in
    let third = c.requires.3 in
    let s = spells_4 c.args.first c.args.second c.args.third c.args.byte c.char_of.result (omega arith) (omega arith) (omega arith) second third tail in
    (s.0, s.1, refl)
