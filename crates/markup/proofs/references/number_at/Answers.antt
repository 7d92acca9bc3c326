use Rattle.std.proofs.Common.{rules, ◌≡◌, ◌∷◌}
use Rattle.markup.proofs.NumberedReferences.{counting_none, counting_more, number_told, number_ends, is_numbered}
use Rattle.markup.proofs.references.number_at.Goals as goal

pub loop-byte-init : goal.loop-byte-init
loop-byte-init c = counting_none c.args.radix c.args.digits.now

pub loop-byte-preserved : goal.loop-byte-preserved
loop-byte-preserved c =
    let e : c.loop-byte.rest.now ≡ c.in-Some.byte.now ∷ c.in-Some.after.now = search rules in
    counting_more c.args.radix c.args.digits.now c.loop-byte.number c.in-Some.byte.now c.in-Some-with_digit.next c.loop-byte.rest.now c.in-Some.after.now c.loop-byte.invariant e c.in-Some-with_digit.ensures

pub returns-then-byte-ne59-clause-all : goal.returns-then-byte-ne59-clause-all
returns-then-byte-ne59-clause-all c spelled more is begins =
    let e : c.loop-byte.rest.now ≡ c.in-Some.byte.now ∷ c.in-Some.after.now = search rules in
    absurd (c.if-byte-ne59.true (number_ends c.args.radix c.args.digits.now c.loop-byte.number c.in-Some.byte.now c.loop-byte.rest.now c.in-Some.after.now c.requires.radix c.loop-byte.invariant e c.in_default-with_digit.ensures spelled more is begins).0)

pub returns-in_default-character-clause-all : goal.returns-in_default-character-clause-all
returns-in_default-character-clause-all c spelled more is begins =
    let e : c.loop-byte.rest.now ≡ c.in-Some.byte.now ∷ c.in-Some.after.now = search rules in
    absurd (is_numbered c.loop-byte.number c.in_default-character.ensures (number_ends c.args.radix c.args.digits.now c.loop-byte.number c.in-Some.byte.now c.loop-byte.rest.now c.in-Some.after.now c.requires.radix c.loop-byte.invariant e c.in_default-with_digit.ensures spelled more is begins).1)

pub returns-in_default-with_digit-clause-only : goal.returns-in_default-with_digit-clause-only
returns-in_default-with_digit-clause-only c =
    let e : c.loop-byte.rest.now ≡ c.in-Some.byte.now ∷ c.in-Some.after.now = search rules in
    number_told c.args.radix c.args.piece.now c.args.digits.now c.loop-byte.rest.now c.in-Some.after.now c.loop-byte.number c.in-Some.byte.now c.in-Some-character.character c.requires.radix c.requires.begun c.loop-byte.invariant e c.if-byte-ne59.false c.in-Some-character.ensures
