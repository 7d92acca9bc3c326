use Rattle.std.proofs.Common.{refl, arith}
use Rattle.der_model.specs.DerMessage.{der_message}
use Rattle.der_codec.specs.inner.KeptRuns.{decoder_at}
use Rattle.der_codec.proofs.Keeping.{keeping_as}
use Rattle.der_codec.proofs.KeptRuns.{last_at, passed_at, passes_enough}
use Rattle.der_codec.proofs.checker.DerChecker.keep_leaf.Goals as goal

pub tell_last-requires-clause-last : goal.tell_last-requires-clause-last
tell_last-requires-clause-last c =
    let g = c.requires.given in
    last_at (der_message c.args.model.now) (decoder_at c.args.self.now.decoder c.args.run.now) c.args.begun c.args.second c.args.behind.now c.args.piece.now g.0 (c.requires.stands g.0 g.1)

pub returns-clause-ok : goal.returns-clause-ok
returns-clause-ok c = λ bytes k some.
    let few = c.if-behind-count.false in
    let t = c.in-Ok.ensures in
    passed_at c.args.model.now c.args.self.now c.args.run.now c.args.begun c.args.second c.args.behind.now c.args.piece.now bytes c.split_at.result.0.now c.tell_last.new.pieces c.requires.some c.requires.fresh (c.requires.stands bytes k) c.requires.primitive c.split_at.ensures.front (omega (arith, few))
    (t.held (let e = c.if-not-told.false in cc)) (t.shown (let e = c.if-not-told.false in cc)) k

pub returns-clause-stays : goal.returns-clause-stays
returns-clause-stays c = record {
  kept = refl;
  sound = refl;
  room = refl;
  due = refl;
  keeps = λ k. keeping_as c.args.model.now c.args.self.now _ refl (omega arith) (omega arith) c.tell_last.ensures.room c.tell_last.ensures.grows k;
  alone = c.tell_last.ensures.alone;
}

pub returns-then-not-told-clause-stays : goal.returns-then-not-told-clause-stays
returns-then-not-told-clause-stays c = record {
  kept = refl;
  sound = refl;
  room = refl;
  due = refl;
  keeps = λ k. keeping_as c.args.model.now c.args.self.now _ refl (omega arith) (omega arith) c.tell_last.ensures.room c.tell_last.ensures.grows k;
  alone = c.tell_last.ensures.alone;
}

pub returns-in-Err-clause-stays : goal.returns-in-Err-clause-stays
returns-in-Err-clause-stays c = record {
  kept = refl;
  sound = refl;
  room = refl;
  due = refl;
  keeps = λ k. keeping_as c.args.model.now c.args.self.now _ refl (omega arith) (omega arith) c.tell_last.ensures.room c.tell_last.ensures.grows k;
  alone = c.tell_last.ensures.alone;
}

pub returns-in-Err-clause-memory : goal.returns-in-Err-clause-memory
returns-in-Err-clause-memory c = λ bytes k e.
    let few = c.if-behind-count.false in
    c.in-Err.ensures.within (λ leaf at. passes_enough c.args.model.now c.args.self.now c.args.run.now c.args.begun c.args.second c.args.behind.now c.args.piece.now bytes c.split_at.result.0.now leaf c.requires.some (c.requires.stands bytes k) c.requires.primitive c.split_at.ensures.front (omega (arith, few)) at k e)
