use Rattle.message_model.specs.Tables.{types_of}
use Rattle.xml_instances.proofs.checker.XmlChecker.feed.Goals as goal

pub returns-in-Err-feed_all-clause-made : goal.returns-in-Err-feed_all-clause-made
returns-in-Err-feed_all-clause-made c = c.stop.ensures.made (types_of c.args.model.now) c.feed_all.ensures.made
