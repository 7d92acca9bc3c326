-- A colon and a plain name.
use Rattle.std.proofs.Common.{◌≡◌, length, rules, arith}
use Rattle.markup.proofs.NamesFound.{local_found, no_local, colon_is, local_counted, behind_local}
use Rattle.markup.proofs.start_tag.local_at.Goals as goal

pub returns-in_default-clause-all : goal.returns-in_default-clause-all
returns-in_default-clause-all c local behind s stops = let z : length c.args.bytes.now ≡ 0 = search rules in no_local c.args.bytes.now local behind s z

pub returns-then-mark-ne58-clause-all : goal.returns-then-mark-ne58-clause-all
returns-then-mark-ne58-clause-all c local behind s stops = c.if-mark-ne58.true (colon_is c.args.bytes.now c.in-Some.named.now local behind c.in-Some.mark.now c.in-Some.ensures.cases.0 s)

pub returns-then-count-eq0-clause-all : goal.returns-then-count-eq0-clause-all
returns-then-count-eq0-clause-all c local behind s stops =
    local_counted c.args.bytes.now c.in-Some.named.now local behind c.in-Some.mark.now c.in-Some.ensures.cases.0 s stops c.part_at-count.result c.part_at-count.ensures.all (omega (arith, c.if-count-eq0.true))

pub returns-clause-found : goal.returns-clause-found
returns-clause-found c =
    local_found c.args.bytes.now c.in-Some.named.now c.split_at.result.0.now c.split_at.result.1.now c.in-Some.mark.now c.part_at-count.result c.in-Some.ensures.cases.0 c.if-mark-ne58.false (c.part_at-count.ensures.named (omega (arith, c.if-count-eq0.false)))
    c.split_at.ensures.front c.split_at.ensures.back

pub returns-clause-all : goal.returns-clause-all
returns-clause-all c local behind s stops =
    behind_local c.args.bytes.now c.in-Some.named.now local behind c.in-Some.mark.now c.in-Some.ensures.cases.0 s stops c.part_at-count.result c.part_at-count.ensures.all c.split_at.result.1.now c.split_at.ensures.back
