use Rattle.std.proofs.Common.{arith}
use Rattle.lexical_core.proofs.Written.{two_digits}
use Rattle.lexical_core.proofs.real.put_exponent.Goals as goal

pub put_number-requires : goal.put_number-requires
put_number-requires c = let same = c.from.ensures in let len = two_digits c.from.result (omega arith) in let room = c.requires.room in omega arith

pub returns-then-scale-gt0-clause-bound : goal.returns-then-scale-gt0-clause-bound
returns-then-scale-gt0-clause-bound c = let same = c.from.ensures in let len = two_digits c.from.result (omega arith) in omega arith

pub put_number-requires-then-zeros-gt0 : goal.put_number-requires-then-zeros-gt0
put_number-requires-then-zeros-gt0 c =
    let same = c.from-then-zeros-gt0.ensures in let len = two_digits c.from-then-zeros-gt0.result (omega arith) in let room = c.requires.room in omega arith

pub returns-then-zeros-gt0-clause-bound : goal.returns-then-zeros-gt0-clause-bound
returns-then-zeros-gt0-clause-bound c =
    let same = c.from-then-zeros-gt0.ensures in let len = two_digits c.from-then-zeros-gt0.result (omega arith) in omega arith
