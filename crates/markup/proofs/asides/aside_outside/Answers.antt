-- The beginning of a section stands there, or an instruction, or a comment.
use Rattle.std.proofs.Common.{false, refl}
use Rattle.std.proofs.lemmas.Bool.{both_ways}
use Rattle.markup.proofs.AsideTexts.{opener_aside, by_aside}
use Rattle.markup.proofs.asides.aside_outside.Goals as goal

pub returns-then-begins_with-clause-only : goal.returns-then-begins_with-clause-only
returns-then-begins_with-clause-only c = (let o = c.if-begins_with.ensures.found refl in opener_aside c.args.piece.now o.0 o.1)

pub returns-in-None-clause-all : goal.returns-in-None-clause-all
returns-in-None-clause-all c t rest h p e =
    by_aside _ c.args.piece.now t rest h p e (λ text a b k. c.comment_at.ensures.all text rest a b k) (λ target text a b d k. absurd (both_ways false refl (c.in-None.ensures.all target text rest a b d k)))
    (λ k. absurd (both_ways c.begins_with.result c.if-begins_with.false (c.begins_with.ensures.all rest k)))
