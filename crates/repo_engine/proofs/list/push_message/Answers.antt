use Rattle.std.proofs.Common.{rules}
use Rattle.outside.proofs.Pushing.{nothing}
use Rattle.repo_engine.proofs.Lists.{not_listed}
use Rattle.repo_engine.proofs.list.push_message.Goals as goal

pub returns-then-is_none : goal.returns-then-is_none
returns-then-is_none g c = rw (not_listed c.args.message.now (search rules)) (nothing g.O.Sink.held g.O.Sink.faults g.O.Sink.room c.args.out.now)
