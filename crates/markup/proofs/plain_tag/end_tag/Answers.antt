-- What stands behind a `</`.
use Rattle.std.proofs.Common.{◌++◌, ◌∷◌, ap, sym, ◌∙◌}
use Rattle.std.proofs.lemmas.Slice.Eq.{bytes_eq-Decides}
use Rattle.markup.specs.PlainTags.{joined_text}
use Rattle.markup.specs.declared.plain_tag.TagKind.TheVariants.{End}
use Rattle.markup.proofs.TagScans.{joined_size, ends_there, end_parts, bounded_found}
use Rattle.markup.proofs.plain_tag.end_tag.Goals as goal

pub returns-then-not-are_same-clause-all : goal.returns-then-not-are_same-clause-all
returns-then-not-are_same-clause-all c rest e l =
    sym c.if-not-are_same.true ∙ (c.are_same.ensures ∙ (bytes_eq-Decides c.split_at.result.0.now c.args.opened.now).1
    (ends_there c.in-Some.named.local.now c.args.opened.now c.split_at.result.0.now c.split_at.result.1.now rest c.split_at.ensures.front c.split_at.ensures.back (c.in-Some.ensures.all (c.args.opened.now ++ 62 ∷ rest) e)).0)

pub returns-clause-only : goal.returns-clause-only
returns-clause-only c =
    bounded_found c.bounded.result _ c.args.prefix.now c.args.opened.now End c.in-Some.named.prefix.now c.split_at.result.0.now c.in-Some-split_first.field-0-1.now c.in-Some.ensures.found.0
    (end_parts c.args.behind.now c.args.prefix.now c.in-Some.named.local.now c.split_at.result.0.now c.split_at.result.1.now c.in-Some-split_first.field-0-1.now _ c.in-Some-split_first.last.now c.in-Some.ensures.found.1 c.split_at.ensures.front c.split_at.ensures.back c.in-Some-split_first.ensures.cases.0 c.if-last-ne62.false)
    ((bytes_eq-Decides c.split_at.result.0.now c.args.opened.now).0 (sym c.are_same.ensures ∙ c.if-not-are_same.false))
    c.bounded.ensures.tag

pub bounded-requires : goal.bounded-requires
bounded-requires c = joined_size c.args.behind.now c.in-Some.named.prefix.now c.in-Some.named.local.now c.split_at.result.0.now c.split_at.result.1.now _ (c.in-Some.ensures.found.1 ∙ ap (λ q. joined_text q c.in-Some.named.local.now) (sym c.in-Some.ensures.found.0)) c.split_at.ensures.front c.split_at.ensures.back
