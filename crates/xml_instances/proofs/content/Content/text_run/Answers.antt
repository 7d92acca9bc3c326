use Rattle.xml_instances.proofs.content.Content.text_run.Goals as goal

pub returns-clause-made : goal.returns-clause-made
returns-clause-made c = record { kept = c.requires.made.kept; text = c.open_run.ensures.made; innermost = c.open_run.ensures.innermost c.args.self.now.innermost c.requires.made.innermost }
