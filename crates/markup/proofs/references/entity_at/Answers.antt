use Rattle.std.proofs.Common.{refl}
use Rattle.markup.specs.Reference.{Ampersand, Less, Greater, Apostrophe, Quote, Named}
use Rattle.markup.proofs.WholeReferences.{entity_here}
use Rattle.markup.proofs.NumberedReferences.{no_entity}
use Rattle.markup.proofs.references.entity_at.Goals as goal

pub returns-then-begins_with-clause-only : goal.returns-then-begins_with-clause-only
returns-then-begins_with-clause-only c = entity_here (Named Ampersand) c.args.piece.now (c.begins_with.ensures.found c.if-begins_with.true) refl

pub returns-then-begins_with-2-clause-only : goal.returns-then-begins_with-2-clause-only
returns-then-begins_with-2-clause-only c = entity_here (Named Less) c.args.piece.now (c.begins_with-2.ensures.found c.if-begins_with-2.true) refl

pub returns-then-begins_with-3-clause-only : goal.returns-then-begins_with-3-clause-only
returns-then-begins_with-3-clause-only c = entity_here (Named Greater) c.args.piece.now (c.begins_with-3.ensures.found c.if-begins_with-3.true) refl

pub returns-then-begins_with-4-clause-only : goal.returns-then-begins_with-4-clause-only
returns-then-begins_with-4-clause-only c = entity_here (Named Quote) c.args.piece.now (c.begins_with-4.ensures.found c.if-begins_with-4.true) refl

pub returns-then-begins_with-5-clause-only : goal.returns-then-begins_with-5-clause-only
returns-then-begins_with-5-clause-only c = entity_here (Named Apostrophe) c.args.piece.now (c.begins_with-5.ensures.found c.if-begins_with-5.true) refl

pub returns-clause-all : goal.returns-clause-all
returns-clause-all c entity rest e =
    absurd (no_entity c.args.piece.now c.begins_with.result c.begins_with-2.result c.begins_with-3.result c.begins_with-4.result c.begins_with-5.result
    c.begins_with.ensures.all c.begins_with-2.ensures.all c.begins_with-3.ensures.all c.begins_with-4.ensures.all c.begins_with-5.ensures.all
    c.if-begins_with.false c.if-begins_with-2.false c.if-begins_with-3.false c.if-begins_with-4.false c.if-begins_with-5.false entity rest e)
