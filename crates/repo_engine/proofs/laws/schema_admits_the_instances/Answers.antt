use Rattle.repo_engine.proofs.laws.schema_admits_the_instances.Goals as goal

pub returns : goal.returns
returns c R id T t (ready, (ids, reached, made)) = c.schema_admits_the_instances.ensures R id ids T t ready reached made
