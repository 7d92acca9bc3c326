use Rattle.std.proofs.Common.{rules, ◌≡◌, ◌∷◌, ◌++◌, [], ap, sym, subst, take}
use Rattle.der_codec.specs.Levels.{inwards}
use Rattle.der_codec.specs.Decoding.{HasReadParts, IsStopped}
use Rattle.der_codec.proofs.StepTies.{short_has}
use Rattle.der_codec.proofs.decoder.Decoder.take_short.Goals as goal

pub returns-in-Ok-clause-ok : goal.returns-in-Ok-clause-ok
returns-in-Ok-clause-ok c = λ m bytes r.
    let s = c.args.self.now in
    let octet = c.in-Some.octet in
    let none : s.start ≡ s.place = search rules in
    let has = short_has m (inwards s.levels.items) s.due c.in-Length.constructed c.in-Length.spot c.in-Length.step s.start s.place bytes octet c.from.result r c.in-Length.is none c.in-Some.ensures.0 (search rules) in
    let front : take 1 c.args.octets.now ≡ octet ∷ [] = ap (take 1) c.in-Some.ensures.1 in
    subst (λ z. HasReadParts m c.open.new.self (bytes ++ z)) (sym front) (c.in-Ok.ensures.ok m bytes r has)

pub returns-in-Err-clause-err : goal.returns-in-Err-clause-err
returns-in-Err-clause-err c = λ m bytes r.
    let s = c.args.self.now in
    let octet = c.in-Some.octet in
    let none : s.start ≡ s.place = search rules in
    let has = short_has m (inwards s.levels.items) s.due c.in-Length.constructed c.in-Length.spot c.in-Length.step s.start s.place bytes octet c.from.result r c.in-Length.is none c.in-Some.ensures.0 (search rules) in
    let front : take 1 c.args.octets.now ≡ octet ∷ [] = ap (take 1) c.in-Some.ensures.1 in
    subst (λ z. IsStopped m c.open.new.self (bytes ++ z) c.in-Err.stop) (sym front) (c.in-Err.ensures.err m bytes r has)
