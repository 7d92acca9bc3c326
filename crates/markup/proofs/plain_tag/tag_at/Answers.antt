-- The byte behind the `<` tells the two kinds apart.
use Rattle.markup.proofs.TagScans.{start_there}
use Rattle.markup.proofs.plain_tag.tag_at.Goals as goal

pub returns-else-second-eq47-clause-all : goal.returns-else-second-eq47-clause-all
returns-else-second-eq47-clause-all c kind name rest b m e l =
    let s = start_there c.args.piece.now c.in-Some.behind.now c.in-Some-split_first.rest.now c.args.prefix.now c.args.opened.now name rest kind c.in-Some.first.now c.in-Some-split_first.second.now c.in-Some.ensures.cases.0 c.in-Some-split_first.ensures.cases.0 c.if-second-eq47.false m e in
    c.start_tag.ensures.all kind name s.1 s.0 s.2 s.3 l
