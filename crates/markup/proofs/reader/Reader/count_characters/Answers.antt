use Rattle.std.proofs.Common.{arith, ◌∙◌}
use Rattle.std.proofs.lemmas.Bool.{both_ways}
use Rattle.markup.proofs.LiteralRuns.{no_run}
use Rattle.markup.proofs.reader.Reader.count_characters.Goals as goal

pub returns-then-not-is_in_content-clause-all : goal.returns-then-not-is_in_content-clause-all
returns-then-not-is_in_content-clause-all c limit bytes told h n = absurd (both_ways c.is_in_content.result c.if-not-is_in_content.true (c.is_in_content.ensures.all limit bytes told h))

pub returns-then-not-is_in_content-clause-only : goal.returns-then-not-is_in_content-clause-only
returns-then-not-is_in_content-clause-only c = no_run

pub returns-then-begins_with_markup-clause-only : goal.returns-then-begins_with_markup-clause-only
returns-then-begins_with_markup-clause-only c = no_run

pub returns-then-begins_with_markup-clause-all : goal.returns-then-begins_with_markup-clause-all
returns-then-begins_with_markup-clause-all c limit bytes told h n = (let e = c.begins_with_markup.ensures c.if-begins_with_markup.true in omega (arith, e))

pub returns-then-begins_with_closer-clause-only : goal.returns-then-begins_with_closer-clause-only
returns-then-begins_with_closer-clause-only c = no_run

pub returns-then-begins_with_closer-clause-all : goal.returns-then-begins_with_closer-clause-all
returns-then-begins_with_closer-clause-all c limit bytes told h n = absurd (both_ways c.begins_with_closer.result (c.begins_with_closer.ensures ∙ n) c.if-begins_with_closer.true)
