use Rattle.std.proofs.Common.{length, ap}
use Rattle.der_writer.proofs.CodeOctets.{octets_1, octets_2, octets_3, octets_4, octets_5}
use Rattle.der_writer.proofs.contents.code_size.Goals as goal

pub returns-then-place-lt128-clause-size : goal.returns-then-place-lt128-clause-size
returns-then-place-lt128-clause-size c = ap length (octets_1 c.args.place c.if-place-lt128.true)

pub returns-then-place-lt32768-clause-size : goal.returns-then-place-lt32768-clause-size
returns-then-place-lt32768-clause-size c = ap length (octets_2 c.args.place c.if-place-lt128.false c.if-place-lt32768.true)

pub returns-then-place-lt8388608-clause-size : goal.returns-then-place-lt8388608-clause-size
returns-then-place-lt8388608-clause-size c = ap length (octets_3 c.args.place c.if-place-lt32768.false c.if-place-lt8388608.true)

pub returns-then-place-lt2147483648-clause-size : goal.returns-then-place-lt2147483648-clause-size
returns-then-place-lt2147483648-clause-size c = ap length (octets_4 c.args.place c.if-place-lt8388608.false c.if-place-lt2147483648.true)

pub returns-else-place-lt2147483648-clause-size : goal.returns-else-place-lt2147483648-clause-size
returns-else-place-lt2147483648-clause-size c = ap length (octets_5 c.args.place c.if-place-lt2147483648.false c.ranges.place.fits)
