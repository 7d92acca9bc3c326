use Rattle.std.proofs.Common.{◌≡◌, ◌+◌, length, suc, ap, ◌∙◌, arith}
use Rattle.std.specs.Int.Digits.{digits_of}
use Rattle.der_writer.proofs.HeadLemmas.{short_is, long_is}
use Rattle.der_writer.proofs.heads.length_size.Goals as goal

pub returns-then-len-lt128-clause-size : goal.returns-then-len-lt128-clause-size
returns-then-len-lt128-clause-size c = ap length (short_is c.args.len c.if-len-lt128.true)

pub returns-else-len-lt128-clause-size : goal.returns-else-len-lt128-clause-size
returns-else-len-lt128-clause-size c =
    (let one : 1 + c.digit_count.result ≡ suc (length (digits_of 256 c.args.len)) = omega (arith, c.digit_count.ensures.count) in one ∙ ap length (long_is c.args.len c.if-len-lt128.false))
