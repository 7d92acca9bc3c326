use Rattle.std.proofs.Common.{rules, ◌≡◌, ◌∷◌, length}
use Rattle.markup.proofs.WholeReferences.{letter_more, letter_back, letter_gone, letters_end}
use Rattle.markup.proofs.references.begins_with.Goals as goal

pub loop-letter-init : goal.loop-letter-init
loop-letter-init c = (λ rest e. e, λ rest e. e)

pub loop-letter-preserved : goal.loop-letter-preserved
loop-letter-preserved c =
    let e : c.loop-letter.letters.now ≡ c.in-Some.letter.now ∷ c.in-Some.others.now = search rules in
    let f : c.loop-letter.left.now ≡ c.in-Some-split_first.byte.now ∷ c.in-Some-split_first.behind.now = search rules in (
      letter_more c.args.piece.now c.args.word.now c.loop-letter.left.now c.loop-letter.letters.now c.in-Some-split_first.behind.now c.in-Some.others.now c.in-Some-split_first.byte.now c.in-Some.letter.now c.loop-letter.invariant.0 e f c.if-byte-letter.false,
      λ rest k. (letter_back c.args.piece.now c.args.word.now c.loop-letter.left.now c.loop-letter.letters.now c.in-Some-split_first.behind.now c.in-Some.others.now c.in-Some-split_first.byte.now c.in-Some.letter.now c.loop-letter.invariant.1 e f rest k).1,
    )

pub returns-in_default-split_first-clause-all : goal.returns-in_default-split_first-clause-all
returns-in_default-split_first-clause-all c rest k =
    let e : c.loop-letter.letters.now ≡ c.in-Some.letter.now ∷ c.in-Some.others.now = search rules in
    absurd (letter_gone c.args.piece.now c.args.word.now c.loop-letter.left.now c.loop-letter.letters.now c.in-Some.others.now c.in-Some.letter.now c.loop-letter.invariant.1 e c.in_default-split_first.ensures.cases rest k)

pub returns-then-byte-letter-clause-all : goal.returns-then-byte-letter-clause-all
returns-then-byte-letter-clause-all c rest k =
    let e : c.loop-letter.letters.now ≡ c.in-Some.letter.now ∷ c.in-Some.others.now = search rules in
    let f : c.loop-letter.left.now ≡ c.in-Some-split_first.byte.now ∷ c.in-Some-split_first.behind.now = search rules in
    absurd (c.if-byte-letter.true (letter_back c.args.piece.now c.args.word.now c.loop-letter.left.now c.loop-letter.letters.now c.in-Some-split_first.behind.now c.in-Some.others.now c.in-Some-split_first.byte.now c.in-Some.letter.now c.loop-letter.invariant.1 e f rest k).0)

pub returns-clause-found : goal.returns-clause-found
returns-clause-found c is =
    let e : length c.loop-letter.letters.now ≡ 0 = search rules in
    letters_end c.args.piece.now c.args.word.now c.loop-letter.left.now c.loop-letter.letters.now c.loop-letter.invariant.0 e
