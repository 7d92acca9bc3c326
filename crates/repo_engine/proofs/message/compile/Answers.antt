use Rattle.repo_engine.proofs.Messages.{ready_refuses, ready_input}
use Rattle.repo_engine.proofs.message.compile.Goals as goal

pub returns-in-Err-clause-refuses : goal.returns-in-Err-clause-refuses
returns-in-Err-clause-refuses c = rw c.stop_of_ready.ensures (ready_refuses _ _ _ c.in-Err.ensures.refused)

pub returns-in-Err-clause-stops : goal.returns-in-Err-clause-stops
returns-in-Err-clause-stops c = rw c.stop_of_ready.ensures (ready_input _)
