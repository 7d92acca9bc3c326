use Rattle.std.proofs.Common.{take}
use Rattle.drill.proofs.KnownTexts.{pushed_behind}
use Rattle.drill.proofs.known_sink.KnownSinkSink.push.Goals as goal

pub returns-clause-bytes : goal.returns-clause-bytes
returns-clause-bytes c = pushed_behind (take c.self.inside.count c.self.inside.text.now) _ c.append.new.held.items c.args.self.now c.args.bytes.now c.append.result c.self.view_is c.append.ensures.bytes
