use Rattle.std.proofs.Common.{◌++◌, length, sym, ap, subst, arith}
use Rattle.der_model.specs.DerMessage.{der_message}
use Rattle.der_codec.specs.inner.Runs.{RunReads}
use Rattle.der_codec.proofs.UsualSteps.{front_more}
use Rattle.der_codec.proofs.decoder.Decoder.take_next.Goals as goal

pub take_usual-requires-clause-room : goal.take_usual-requires-clause-room
take_usual-requires-clause-room c =
    let a = ap length c.in-Some.ensures.cases.0 in
    let b = ap length c.in-Some-split_first.ensures.cases.0 in
    let room = c.requires.room in
    omega (arith, a, b, room)

pub returns-in-Some-take_usual-clause-ok : goal.returns-in-Some-take_usual-clause-ok
returns-in-Some-take_usual-clause-ok c = λ bytes r.
    let m = der_message c.args.model.now in
    subst (λ z. RunReads m c.take_usual.new.self c.take_usual.new.run (bytes ++ z)) (sym (front_more c.args.piece.now c.in-Some.others.now c.in-Some-split_first.behind.now c.in-Some.first.now c.in-Some-split_first.second.now c.in-Some-take_usual.count c.in-Some.ensures.cases.0 c.in-Some-split_first.ensures.cases.0))
    (c.in-Some-take_usual.ensures.ok bytes r)

pub returns-in-Some-take_usual-clause-within : goal.returns-in-Some-take_usual-clause-within
returns-in-Some-take_usual-clause-within c =
    let a = ap length c.in-Some.ensures.cases.0 in
    let b = ap length c.in-Some-split_first.ensures.cases.0 in
    let k = c.in-Some-take_usual.ensures.within in
    omega (arith, a, b, k)
