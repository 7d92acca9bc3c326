-- `=`, with white space before it and behind it or none.
use Rattle.std.proofs.Common.{◌≡◌, length, ◌∙◌, rules}
use Rattle.markup.proofs.TagGaps.{equals_found, some_mark, mark_is, behind_equals_is}
use Rattle.markup.proofs.start_tag.behind_equals.Goals as goal

pub returns-in_default-clause-all : goal.returns-in_default-clause-all
returns-in_default-clause-all c behind s z =
    let n : length c.behind_spaces-marked.result.now ≡ 0 = search rules in
    some_mark c.args.bytes.now c.behind_spaces-marked.result.now behind c.behind_spaces-marked.ensures s n

pub returns-then-mark-ne61-clause-all : goal.returns-then-mark-ne61-clause-all
returns-then-mark-ne61-clause-all c behind s z =
    c.if-mark-ne61.true (mark_is c.args.bytes.now c.behind_spaces-marked.result.now behind c.behind_spaces-marked.ensures s c.in-Some.mark.now c.in-Some.after.now c.in-Some.ensures.cases.0)

pub returns-clause-found : goal.returns-clause-found
returns-clause-found c =
    equals_found c.args.bytes.now c.behind_spaces-marked.result.now c.in-Some.after.now c.behind_spaces-behind.result.now c.in-Some.mark.now
    c.behind_spaces-marked.ensures c.in-Some.ensures.cases.0 c.if-mark-ne61.false c.behind_spaces-behind.ensures

pub returns-clause-all : goal.returns-clause-all
returns-clause-all c behind s z =
    c.behind_spaces-behind.ensures
    ∙ behind_equals_is c.args.bytes.now c.behind_spaces-marked.result.now behind c.behind_spaces-marked.ensures s c.in-Some.mark.now c.in-Some.after.now c.in-Some.ensures.cases.0 z
