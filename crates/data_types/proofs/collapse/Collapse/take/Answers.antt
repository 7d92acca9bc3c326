use Rattle.data_types.proofs.collapse.Collapse.take.Goals as goal

pub returns-clause-text : goal.returns-clause-text
returns-clause-text c = λ text collapsed h. c.gain-gain.ensures c.args.c text collapsed (λ s. let t = c.is_space.ensures.fact.1 s in cc) h
