-- A plain name, and the one that a colon joins to it.
use Rattle.std.proofs.Common.{arith}
use Rattle.markup.proofs.NamesFound.{plain_alone, with_prefix, name_counted, behind_plain, behind_joined}
use Rattle.markup.proofs.start_tag.name_at.Goals as goal

pub returns-then-count-eq0-clause-all : goal.returns-then-count-eq0-clause-all
returns-then-count-eq0-clause-all c name behind s h = name_counted c.args.bytes.now name behind s h c.part_at-count.result c.part_at-count.ensures.all (omega (arith, c.if-count-eq0.true))

pub returns-in_default-clause-found : goal.returns-in_default-clause-found
returns-in_default-clause-found c = plain_alone c.args.bytes.now c.split_at.result.0.now c.split_at.result.1.now c.part_at-count.result (c.part_at-count.ensures.named (omega (arith, c.if-count-eq0.false))) c.split_at.ensures.front c.split_at.ensures.back

pub returns-in_default-clause-all : goal.returns-in_default-clause-all
returns-in_default-clause-all c name behind s h = behind_plain c.args.bytes.now name behind s h c.part_at-count.result c.part_at-count.ensures.all c.split_at.result.1.now c.split_at.ensures.back c.in_default.ensures.all

pub returns-clause-found : goal.returns-clause-found
returns-clause-found c =
    with_prefix c.args.bytes.now c.split_at.result.0.now c.split_at.result.1.now c.in-Some.field-0.local.now c.in-Some.field-0.behind.now c.part_at-count.result (c.part_at-count.ensures.named (omega (arith, c.if-count-eq0.false))) c.split_at.ensures.front c.split_at.ensures.back c.in-Some.ensures.found

pub returns-clause-all : goal.returns-clause-all
returns-clause-all c name behind s h =
    behind_joined c.args.bytes.now name behind s h c.part_at-count.result c.part_at-count.ensures.all c.split_at.result.1.now c.split_at.ensures.back c.in-Some.field-0.local.now c.in-Some.field-0.behind.now c.in-Some.ensures.found c.in-Some.ensures.all
