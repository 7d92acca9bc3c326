use Rattle.pattern_match.proofs.Walking.{begins}
use Rattle.pattern_match.proofs.pass.begin_pass.Goals as goal

pub returns-clause-listed : goal.returns-clause-listed
returns-clause-listed c = begins c.args.code.now c.args.marks.now c.begin.new.self c.requires c.begin.ensures
