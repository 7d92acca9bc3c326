-- A byte above the space begins no white space.
use Rattle.markup.proofs.TagGaps.{none_passed}
use Rattle.markup.proofs.start_tag.behind_spaces.Goals as goal

pub returns-then-first-gt32 : goal.returns-then-first-gt32
returns-then-first-gt32 c = none_passed c.args.bytes.now c.in-Some.field-0-1.now c.in-Some.first.now c.in-Some.ensures.cases.0 c.if-first-gt32.true
