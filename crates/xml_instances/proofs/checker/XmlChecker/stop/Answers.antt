use Rattle.xml_instances.proofs.checker.XmlChecker.stop.Goals as goal

pub returns-in-Ok-clause-made : goal.returns-in-Ok-clause-made
returns-in-Ok-clause-made c types made = c.forget_pieces.ensures.made types (c.let_go.ensures.made types made)

pub returns-in-Err-clause-made : goal.returns-in-Err-clause-made
returns-in-Err-clause-made c types made = c.forget_pieces.ensures.made types (c.let_go.ensures.made types made)
