-- White space, a name, `=` and a value.
use Rattle.markup.specs.inner.WholeStarts.{named_by}
use Rattle.markup.proofs.StartScans.{attribute_found}
use Rattle.markup.proofs.StartsFound.{a, marked_so, quoted_so, named_so, gap_follows, gap_stops, name_follows, name_stops, equals_follows, equals_stops, value_follows}
use Rattle.markup.proofs.start_tag.attribute_at.Goals as goal

pub returns-in_default-clause-all : goal.returns-in_default-clause-all
returns-in_default-clause-all c name value behind s =
    c.in_default.ensures.all (named_so c.args.bytes.now name value behind s) (gap_follows c.args.bytes.now name value behind s) (gap_stops c.args.bytes.now name value behind s)

pub returns-in_default-name_at-clause-all : goal.returns-in_default-name_at-clause-all
returns-in_default-name_at-clause-all c name value behind s =
    c.in_default-name_at.ensures.all (a c.args.bytes.now name value behind s).name (marked_so c.args.bytes.now name value behind s)
    (name_follows c.args.bytes.now name value behind s c.in-Some.named.now c.in-Some.ensures.all) (name_stops c.args.bytes.now name value behind s)

pub returns-in_default-behind_equals-clause-all : goal.returns-in_default-behind_equals-clause-all
returns-in_default-behind_equals-clause-all c name value behind s =
    c.in_default-behind_equals.ensures.all (quoted_so c.args.bytes.now name value behind s)
    (equals_follows c.args.bytes.now name value behind s c.in-Some.named.now c.in-Some.ensures.all c.in-Some-name_at.name.behind.now c.in-Some-name_at.ensures.all) (equals_stops c.args.bytes.now name value behind s)

pub returns-in_default-value_at-clause-all : goal.returns-in_default-value_at-clause-all
returns-in_default-value_at-clause-all c name value behind s =
    c.in_default-value_at.ensures.all _ behind
    (value_follows c.args.bytes.now name value behind s c.in-Some.named.now c.in-Some.ensures.all c.in-Some-name_at.name.behind.now c.in-Some-name_at.ensures.all c.in-Some-behind_equals.quoted.now c.in-Some-behind_equals.ensures.all)

pub returns-clause-found : goal.returns-clause-found
returns-clause-found c =
    attribute_found c.args.bytes.now c.in-Some.named.now (named_by c.in-Some-name_at.name.prefix.now c.in-Some-name_at.name.local.now) c.in-Some-name_at.name.behind.now c.in-Some-behind_equals.quoted.now c.in-Some-value_at.field-0.value.now c.in-Some-value_at.field-0.behind.now
    c.in-Some.ensures.found c.in-Some-name_at.ensures.found c.in-Some-behind_equals.ensures.found c.in-Some-value_at.ensures.found

pub returns-clause-all : goal.returns-clause-all
returns-clause-all c name value behind s =
    c.in-Some-value_at.ensures.all _ behind
    (value_follows c.args.bytes.now name value behind s c.in-Some.named.now c.in-Some.ensures.all c.in-Some-name_at.name.behind.now c.in-Some-name_at.ensures.all c.in-Some-behind_equals.quoted.now c.in-Some-behind_equals.ensures.all)
