-- The tag by its parts.
use Rattle.std.proofs.Common.{◌≡◌, length, map, sym, ◌∙◌, rules}
use Rattle.markup.specs.inner.TagParts.{tag_given}
use Rattle.markup.specs.inner.WholeStarts.{named_by}
use Rattle.markup.proofs.StartScans.{start_found}
use Rattle.markup.proofs.StartsFound.{no_start, start_opens, start_named, start_ends, attributes_size, start_closes, start_size}
use Rattle.markup.proofs.start_tag.start_in.Goals as goal

pub returns-in_default-clause-all : goal.returns-in_default-clause-all
returns-in_default-clause-all c tag rest p e = let z : length c.args.front.now ≡ 0 = search rules in no_start c.args.front.now rest tag e z

pub returns-then-first-ne60-clause-all : goal.returns-then-first-ne60-clause-all
returns-then-first-ne60-clause-all c tag rest p e = c.if-first-ne60.true (start_opens c.args.front.now c.in-Some.named.now rest c.in-Some.first.now tag p e c.in-Some.ensures.cases.0)

pub returns-in_default-name_at-clause-all : goal.returns-in_default-name_at-clause-all
returns-in_default-name_at-clause-all c tag rest p e =
    c.in_default-name_at.ensures.all tag.name _ (start_named c.args.front.now c.in-Some.named.now rest c.in-Some.first.now tag p e c.in-Some.ensures.cases.0) (start_ends c.args.front.now c.in-Some.named.now rest c.in-Some.first.now tag p e c.in-Some.ensures.cases.0)

pub returns-in_default-closing-clause-all : goal.returns-in_default-closing-clause-all
returns-in_default-closing-clause-all c tag rest p e =
    start_closes c.args.front.now c.in-Some.named.now rest c.in-Some.first.now tag p e c.in-Some.ensures.cases.0
    c.in-Some-name_at.name.behind.now c.in-Some-name_at.ensures.all c.split_at.result.1.now c.behind_spaces-last.result.now c.in_ok-size.size c.split_at.ensures.back c.behind_spaces-last.ensures
    (attributes_size c.args.front.now c.in-Some.named.now rest c.in-Some.first.now tag p e c.in-Some.ensures.cases.0 c.in-Some-name_at.name.behind.now c.in-Some-name_at.ensures.all c.in_ok-size.size c.in_ok-size.ensures.all)
    (sym c.closing.ensures ∙ c.in_default-closing.is)

pub returns-clause-found : goal.returns-clause-found
returns-clause-found c =
    rw (c.is_empty_kind.ensures, c.mark_count.ensures.count)
    (start_found c.args.front.now c.in-Some.named.now (named_by c.in-Some-name_at.name.prefix.now c.in-Some-name_at.name.local.now) c.in-Some-name_at.name.behind.now c.split_at.result.1.now c.behind_spaces-last.result.now c.in-Some.first.now c.in_ok-size.size c.in-Some-closing.kind (map tag_given c.attributes_at.new.found.items)
    c.in-Some.ensures.cases.0 c.if-first-ne60.false c.in-Some-name_at.ensures.found c.in_ok-size.ensures.are c.in_ok-size.ensures.within
    c.split_at.ensures.back c.behind_spaces-last.ensures (sym c.closing.ensures ∙ c.in-Some-closing.is) c.requires)

pub returns-clause-all : goal.returns-clause-all
returns-clause-all c tag rest p e =
    rw c.mark_count.ensures.count
    (start_size c.args.front.now c.in-Some.named.now rest c.in-Some.first.now tag p e c.in-Some.ensures.cases.0
    c.in-Some-name_at.name.behind.now c.in-Some-name_at.ensures.all c.split_at.result.1.now c.behind_spaces-last.result.now c.in_ok-size.size c.split_at.ensures.back c.behind_spaces-last.ensures
    (attributes_size c.args.front.now c.in-Some.named.now rest c.in-Some.first.now tag p e c.in-Some.ensures.cases.0 c.in-Some-name_at.name.behind.now c.in-Some-name_at.ensures.all c.in_ok-size.size c.in_ok-size.ensures.all)
    c.in-Some-closing.kind (sym c.closing.ensures ∙ c.in-Some-closing.is))
