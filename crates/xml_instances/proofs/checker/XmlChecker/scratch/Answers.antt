use Rattle.std.proofs.Common.{[]}
use Rattle.message_model.specs.Tables.{message_of}
use Rattle.xml_instances.specs.Levels.{levels_over}
use Rattle.xml_instances.specs.XmlFaults.{items_told}
use Rattle.xml_instances.proofs.checker.XmlChecker.scratch.Goals as goal

pub returns-clause-bound : goal.returns-clause-bound
returns-clause-bound c T bytes h = c.scratch.ensures.bound (message_of T) (levels_over (message_of T) [] (items_told h.told)) h.open_are

pub returns-clause-free : goal.returns-clause-free
returns-clause-free c T bytes h lean free = c.scratch.ensures.free (message_of T) (levels_over (message_of T) [] (items_told h.told)) h.open_are lean free
