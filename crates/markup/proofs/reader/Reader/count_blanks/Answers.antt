use Rattle.std.proofs.lemmas.Bool.{both_ways}
use Rattle.markup.proofs.LiteralRuns.{no_run}
use Rattle.markup.proofs.reader.Reader.count_blanks.Goals as goal

pub returns-then-not-is_in_content-clause-all : goal.returns-then-not-is_in_content-clause-all
returns-then-not-is_in_content-clause-all c limit bytes told h = absurd (both_ways c.is_in_content.result c.if-not-is_in_content.true (c.is_in_content.ensures.all limit bytes told h))

pub returns-then-not-is_in_content-clause-only : goal.returns-then-not-is_in_content-clause-only
returns-then-not-is_in_content-clause-only c = no_run
