-- What stands behind a `<`.
use Rattle.std.proofs.Common.{◌≤◌, ◌++◌, length, ap, sym, subst, ◌∙◌}
use Rattle.markup.specs.Marks.{tag_limit}
use Rattle.markup.specs.PlainTags.{joined_text, tag_text}
use Rattle.markup.proofs.TagScans.{joined_size, closed_there, start_short, start_found, prefix_kept}
use Rattle.markup.proofs.plain_tag.start_tag.Goals as goal

pub returns-in_default-closing-clause-all : goal.returns-in_default-closing-clause-all
returns-in_default-closing-clause-all c kind name rest p e k l =
    absurd (closed_there c.in-Some.named.local.now name rest c.split_at.result.0.now c.split_at.result.1.now c.name_length.result kind p (c.in-Some.ensures.all (name ++ rest) e) k c.name_length.ensures.count c.split_at.ensures.front c.split_at.ensures.back (sym c.closing.ensures ∙ c.in_default-closing.is))

pub returns-clause-prefix : goal.returns-clause-prefix
returns-clause-prefix c = prefix_kept c.bounded.result c.args.prefix.now c.in-Some-closing.kind c.in-Some.named.prefix.now c.split_at.result.0.now c.in-Some.ensures.found.0 c.bounded.ensures.tag

pub returns-clause-only : goal.returns-clause-only
returns-clause-only c opened =
    start_found c.bounded.result c.args.behind.now c.args.prefix.now c.in-Some.named.prefix.now c.in-Some.named.local.now opened c.in-Some-split_first.field-0-1.now c.split_at.result.0.now c.split_at.result.1.now c.name_length.result c.in-Some-split_first.first.now c.in-Some-closing.kind
    c.in-Some.ensures.found.0 c.in-Some.ensures.found.1 c.in-Some-split_first.ensures.cases.0 (sym c.begins_plain.ensures ∙ c.if-not-begins_plain.false) c.name_length.ensures.count
    c.split_at.ensures.front c.split_at.ensures.back (sym c.closing.ensures ∙ c.in-Some-closing.is) c.bounded.ensures.tag

pub returns-clause-all : goal.returns-clause-all
returns-clause-all c kind name rest p e k l =
    c.bounded.ensures.all (start_short c.in-Some.named.local.now name rest c.split_at.result.0.now c.split_at.result.1.now c.name_length.result kind c.in-Some-closing.kind p (c.in-Some.ensures.all (name ++ rest) e) k c.name_length.ensures.count c.split_at.ensures.front c.split_at.ensures.back (sym c.closing.ensures ∙ c.in-Some-closing.is)
    c.in-Some.named.prefix.now (subst (λ q. length (tag_text kind (joined_text q name)) ≤ tag_limit) (sym c.in-Some.ensures.found.0) l))

pub bounded-requires : goal.bounded-requires
bounded-requires c = joined_size c.args.behind.now c.in-Some.named.prefix.now c.in-Some.named.local.now c.split_at.result.0.now c.split_at.result.1.now _ (c.in-Some.ensures.found.1 ∙ ap (λ q. joined_text q c.in-Some.named.local.now) (sym c.in-Some.ensures.found.0)) c.split_at.ensures.front c.split_at.ensures.back
