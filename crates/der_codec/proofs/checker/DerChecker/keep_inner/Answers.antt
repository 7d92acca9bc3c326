use Rattle.std.proofs.Common.{refl, arith}
use Rattle.der_codec.proofs.Keeping.{keeping_as}
use Rattle.der_codec.proofs.checker.DerChecker.keep_inner.Goals as goal

pub begin_last-requires : goal.begin_last-requires
begin_last-requires c = (let g = c.requires.given in (c.requires.enters g.0 g.1).last)

pub returns-in-Ok-clause-ok : goal.returns-in-Ok-clause-ok
returns-in-Ok-clause-ok c = λ bytes k some. (let e = c.go_into.ensures in (c.requires.enters bytes k).goes c.go_into.new.self c.begin_last.new.pieces e.open e.due e.levels c.in-Ok.ensures.begun)

pub returns-in-Ok-clause-within : goal.returns-in-Ok-clause-within
returns-in-Ok-clause-within c = (let g = c.requires.given in (c.requires.enters g.0 g.1).within)

pub returns-in-Ok-clause-stays : goal.returns-in-Ok-clause-stays
returns-in-Ok-clause-stays c = record {
  kept = refl;
  sound = refl;
  room = refl;
  due = c.go_into.ensures.due;
  keeps = λ k. keeping_as c.args.model.now c.args.self.now _ refl c.go_into.ensures.room (omega arith) (λ bytes h. h) c.begin_last.ensures.room k;
  alone = c.begin_last.ensures.alone;
}

pub returns-in-Err-clause-stays : goal.returns-in-Err-clause-stays
returns-in-Err-clause-stays c = record {
  kept = refl;
  sound = refl;
  room = refl;
  due = c.go_into.ensures.due;
  keeps = λ k. keeping_as c.args.model.now c.args.self.now _ refl c.go_into.ensures.room (omega arith) (λ bytes h. h) c.begin_last.ensures.room k;
  alone = c.begin_last.ensures.alone;
}

pub returns-in-Err-clause-memory : goal.returns-in-Err-clause-memory
returns-in-Err-clause-memory c = λ bytes k e. c.in-Err.ensures.within ((c.requires.enters bytes k).room e)
