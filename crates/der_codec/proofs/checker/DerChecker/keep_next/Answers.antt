use Rattle.std.proofs.Common.{◌∷◌, ◌∙◌, ap, length, arith}
use Rattle.der_codec.proofs.WideRuns.{enters_short}
use Rattle.der_codec.proofs.checker.DerChecker.keep_next.Goals as goal

pub keep_wide-requires-clause-piece : goal.keep_wide-requires-clause-piece
keep_wide-requires-clause-piece c = c.in-Some.ensures.cases.0 ∙ ap (λ z. c.in-Some.first.now ∷ z) c.in-Some-split_first.ensures.cases.0

pub begun-requires-clause-room : goal.begun-requires-clause-room
begun-requires-clause-room c =
    let a = ap length c.in-Some.ensures.cases.0 in
    let b = ap length c.in-Some-split_first.ensures.cases.0 in
    let room = c.requires.room in
    omega (arith, a, b, room)

pub begun-requires-clause-read : goal.begun-requires-clause-read
begun-requires-clause-read c = (let g = c.requires.given in (g.0, g.1.0))

pub keep_inner-requires-clause-enters : goal.keep_inner-requires-clause-enters
keep_inner-requires-clause-enters c = λ bytes k.
    enters_short c.args.model.now c.args.self.now c.args.run.now c.in-Some-begun.begun c.in-Some-split_first.second.now c.in-Some-split_first.behind.now c.args.piece.now bytes c.requires.some c.requires.fresh (record {
      first = c.in-Some.first.now;
      piece_is = c.in-Some.ensures.cases.0 ∙ ap (λ z. c.in-Some.first.now ∷ z) c.in-Some-split_first.ensures.cases.0;
      begun = c.in-Some-begun.ensures.begun bytes k.0;
    }) c.if-begun.true k

pub keep_leaf-requires-clause-stands : goal.keep_leaf-requires-clause-stands
keep_leaf-requires-clause-stands c = λ bytes k. record {
  first = c.in-Some.first.now;
  piece_is = c.in-Some.ensures.cases.0 ∙ ap (λ z. c.in-Some.first.now ∷ z) c.in-Some-split_first.ensures.cases.0;
  begun = c.in-Some-begun.ensures.begun bytes k.0;
}
