use Rattle.der_codec.proofs.LeavesJudged.{code_fits}
use Rattle.der_codec.proofs.known.known_code.Goals as goal

pub returns-then-is_code : goal.returns-then-is_code
returns-then-is_code c = code_fits c.args.simple.now c.args.codes.now c.args.octets.now c.in-Some.place c.requires.kind c.requires.codes c.in-Some.ensures (c.is_code.ensures.0 c.if-is_code.true)
