use Rattle.lexical_core.specs.declared.rule.Rule.TheVariants.{Truncated}
use Rattle.xml_instances.specs.Checking.{IsSpelledXml}
use Rattle.transcoder.specs.Checked.{HoldsXml, IsXmlFault}
use Rattle.transcoder.proofs.Limits.{refuses_left, of_some, pulls_left}
use Rattle.transcoder.proofs.read.read_xml.Goals as goal

pub read_instance-requires-clause-only_cut : goal.read_instance-requires-clause-only_cut
read_instance-requires-clause-only_cut g c x bytes fault h k = c.only_cut.ensures c.args.model.now _ bytes h _ k

pub returns-clause-refused : goal.returns-clause-refused
returns-clause-refused g c = refuses_left (IsXmlFault c.args.model.now) (IsSpelledXml c.args.model.now) Truncated (HoldsXml c.args.model.now) (λ bytes x h. (h.0, h.1)) (g.I.Source.left c.args.source.now) c.read_instance.result c.read_instance.ensures.refused

pub returns-clause-placed : goal.returns-clause-placed
returns-clause-placed g c = of_some (IsXmlFault c.args.model.now) (IsSpelledXml c.args.model.now) Truncated (HoldsXml c.args.model.now) (λ bytes x h. (h.0, h.1)) c.read_instance.result c.read_instance.ensures.placed

pub returns-clause-pulled : goal.returns-clause-pulled
returns-clause-pulled g c = pulls_left (IsXmlFault c.args.model.now) (IsSpelledXml c.args.model.now) Truncated (g.I.Source.left c.args.source.now) (g.I.Source.left c.read_instance.new.source) c.read_instance.result c.read_instance.ensures.pulled
