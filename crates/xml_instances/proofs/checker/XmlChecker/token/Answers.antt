-- What the reader of XML holds.
use Rattle.xml_instances.proofs.checker.XmlChecker.token.Goals as goal

pub returns-clause-held : goal.returns-clause-held
returns-clause-held c T bytes h = c.token.ensures.held _ bytes h.told h.given

pub returns-clause-bound : goal.returns-clause-bound
returns-clause-bound c T bytes h = c.token.ensures.bound _ bytes h.told h.given
