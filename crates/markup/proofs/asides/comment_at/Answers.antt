-- What stands behind the beginning of a comment is its text and its end.
use Rattle.std.proofs.Common.{drop, ◌∙◌, ap, subst}
use Rattle.markup.specs.Token.{is_comment}
use Rattle.markup.specs.inner.AsideTexts.{comment_end, IsEndedTextAt}
use Rattle.markup.proofs.AsideTexts.{comment_aside, comment_there}
use Rattle.markup.proofs.asides.comment_at.Goals as goal

pub returns-in-Some-clause-only : goal.returns-in-Some-clause-only
returns-in-Some-clause-only c =
    let o = c.begins_with.ensures.found c.if-not-begins_with.false in
    comment_aside c.args.piece.now o.0 c.in-Some.size o.1 (subst (λ v. IsEndedTextAt is_comment comment_end v c.in-Some.size) (c.split_at.ensures.back ∙ ap (drop 4) o.1) c.in-Some.ensures.only)

pub returns-in-None-clause-all : goal.returns-in-None-clause-all
returns-in-None-clause-all c text rest is a e =
    c.in-None.ensures.all text rest a (record { allowed = is; spelled = c.split_at.ensures.back ∙ ap (drop 4) (comment_there c.args.piece.now text rest e) })
