-- White space, one byte at least.
use Rattle.std.proofs.Common.{sym, ◌∙◌}
use Rattle.markup.proofs.TagGaps.{gap_found, behind_gap_is}
use Rattle.markup.proofs.start_tag.behind_gap.Goals as goal

pub returns-clause-found : goal.returns-clause-found
returns-clause-found c = gap_found c.args.bytes.now c.in-Some.after.now c.behind_spaces.result.now c.in-Some.first.now c.in-Some.ensures.cases.0 (sym c.has.ensures ∙ c.if-not-has.false) c.behind_spaces.ensures

pub returns-clause-all : goal.returns-clause-all
returns-clause-all c behind g z = c.behind_spaces.ensures ∙ behind_gap_is c.args.bytes.now c.in-Some.after.now behind c.in-Some.first.now c.in-Some.ensures.cases.0 g z
