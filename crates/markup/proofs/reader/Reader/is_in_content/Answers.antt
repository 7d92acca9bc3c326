use Rattle.std.proofs.Common.{◌∙◌}
use Rattle.std.proofs.lemmas.Bool.{both_ways}
use Rattle.markup.proofs.CharacterRuns.{inside_ready}
use Rattle.markup.proofs.reader.Reader.is_in_content.Goals as goal

pub returns-then-not-is_ready-clause-all : goal.returns-then-not-is_ready-clause-all
returns-then-not-is_ready-clause-all c limit bytes told h = absurd (both_ways c.is_ready.result c.if-not-is_ready.true (c.is_ready.ensures ∙ inside_ready c.args.self.now bytes told h))
