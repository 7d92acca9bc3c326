use Rattle.repo_engine.proofs.refusal.StopRender.render.Goals as goal

pub returns-in-Memory : goal.returns-in-Memory
returns-in-Memory g c = rw c.in-Memory.is c.push_bytes-in-Memory.ensures.push
