use Rattle.std.proofs.Common.{rules, Some, None}
use Rattle.xml_instances.specs.declared.opened.Opened.TheVariants as opened
use Rattle.xml_instances.proofs.OpenScratch.{of_text, of_none, of_free}
use Rattle.xml_instances.proofs.content.Content.scratch.Goals as goal

pub returns-in-Some-Text-clause-bound : goal.returns-in-Some-Text-clause-bound
returns-in-Some-Text-clause-bound c m ls h = of_text m ls c.args.self.now.text c.args.self.now.innermost c.args.self.now.round.items c.text_scratch.result (search rules) (c.text_scratch.ensures.bound m) h

pub returns-in-None-clause-bound : goal.returns-in-None-clause-bound
returns-in-None-clause-bound c m ls h = of_none m ls c.args.self.now.text c.args.self.now.innermost None c.args.self.now.round.items (search rules) tt h

pub returns-in-Some-Foreign-clause-bound : goal.returns-in-Some-Foreign-clause-bound
returns-in-Some-Foreign-clause-bound c m ls h = of_none m ls c.args.self.now.text c.args.self.now.innermost (Some opened.Foreign) c.args.self.now.round.items (search rules) tt h

pub returns-in-Some-Envelope-clause-bound : goal.returns-in-Some-Envelope-clause-bound
returns-in-Some-Envelope-clause-bound c m ls h =
    of_none m ls c.args.self.now.text c.args.self.now.innermost (Some (opened.Envelope c.in-Some-Envelope.field-0-0)) c.args.self.now.round.items (search rules) tt h

pub returns-in-Some-Parent-clause-bound : goal.returns-in-Some-Parent-clause-bound
returns-in-Some-Parent-clause-bound c m ls h =
    of_none m ls c.args.self.now.text c.args.self.now.innermost (Some (opened.Parent c.in-Some-Parent.field-0-0 c.in-Some-Parent.field-0-1 c.in-Some-Parent.field-0-2)) c.args.self.now.round.items (search rules) tt h

pub returns-in-Some-Text-clause-free : goal.returns-in-Some-Text-clause-free
returns-in-Some-Text-clause-free c m ls h lean free =
    of_free m ls c.args.self.now.text c.args.self.now.innermost c.args.self.now.round.items c.text_scratch.result (search rules) (λ simple taken t. c.text_scratch.ensures.free m simple taken t lean.text) h free
