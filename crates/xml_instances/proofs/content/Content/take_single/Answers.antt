use Rattle.xml_instances.proofs.content.Content.take_single.Goals as goal

pub returns-clause-taken : goal.returns-clause-taken
returns-clause-taken c ls h = c.take.ensures.taken ls h

pub returns-clause-shown : goal.returns-clause-shown
returns-clause-shown c ls h = c.take.ensures.shown ls h tt
