use Rattle.std.proofs.Common.{[], arith}
use Rattle.respell.proofs.fragment_check.is_fragment.Goals as goal

pub take-requires : goal.take-requires
take-requires c = ([], c.new-check.ensures.taken, (let short = c.requires in omega (arith, short)))

pub returns : goal.returns
returns c = c.finish.ensures c.args.bytes.now (c.in_ok-take.ensures [] c.new-check.ensures.taken)
