-- The end of a section stands there, or no such token does.
use Rattle.std.proofs.Common.{refl}
use Rattle.markup.proofs.AsideTexts.{closer_aside}
use Rattle.markup.proofs.asides.closer_at.Goals as goal

pub returns-then-begins_with-clause-only : goal.returns-then-begins_with-clause-only
returns-then-begins_with-clause-only c = (let o = c.if-begins_with.ensures.found refl in closer_aside c.args.piece.now o.0 o.1)
