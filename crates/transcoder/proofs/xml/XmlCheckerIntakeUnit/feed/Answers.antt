use Rattle.std.proofs.Common.{◌++◌}
use Rattle.transcoder.proofs.XmlFaults.{stops_at}
use Rattle.transcoder.proofs.xml.XmlCheckerIntakeUnit.feed.Goals as goal

pub returns-clause-err : goal.returns-clause-err
returns-clause-err c bytes h = stops_at c.args.model.now (bytes ++ c.args.piece.now) c.feed.result (c.feed.ensures.err bytes h)
