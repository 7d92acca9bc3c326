use Rattle.repo_engine.proofs.refusal.RefusalRender.render.Goals as goal

pub returns-in-Words : goal.returns-in-Words
returns-in-Words g c = rw c.in-Words.is c.push_bytes.ensures.push
