use Rattle.repo_engine.proofs.repository.join_codes.Goals as goal

pub returns-in-Err-clause-refuses : goal.returns-in-Err-clause-refuses
returns-in-Err-clause-refuses g c bytes told = c.in-Err.ensures.refuses bytes told c.args.own

pub returns-in-Ok-clause-pulled : goal.returns-in-Ok-clause-pulled
returns-in-Ok-clause-pulled g c = c.join_lists.ensures.pulled _ _ c.in-Ok.ensures.read
