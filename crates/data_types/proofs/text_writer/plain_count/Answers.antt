use Rattle.std.proofs.Common.{length, arith}
use Rattle.std.proofs.lemmas.Bool.Decides.{nat_tests}
use Rattle.data_types.proofs.EscapeLemmas.{plain_front}
use Rattle.data_types.proofs.text_writer.plain_count.Goals as goal

pub returns-then-not-is_plain-clause-plain : goal.returns-then-not-is_plain-clause-plain
returns-then-not-is_plain-clause-plain c = plain_front c.args.attribute c.args.text.now c.loop-count.count (grind (arith, nat_tests, c.loop-count-test.true)) c.loop-count.invariant

pub returns-clause-plain : goal.returns-clause-plain
returns-clause-plain c = plain_front c.args.attribute c.args.text.now (length c.args.text.now) (omega arith) (λ k lt. c.loop-count.invariant k (grind (arith, nat_tests, c.loop-count-test.false, lt)))
