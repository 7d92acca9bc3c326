use Rattle.std.proofs.Common.{refl, arith}
use Rattle.der_model.specs.DerMessage.{der_message}
use Rattle.der_codec.specs.KeptPieces.{around_of}
use Rattle.der_codec.specs.Levels.{inwards}
use Rattle.der_codec.specs.inner.KeptRuns.{decoder_at}
use Rattle.der_codec.proofs.Keeping.{keeping_as, grows_same}
use Rattle.der_codec.proofs.KeptRuns.{last_ended, ends_in, first_at, ends_open, ends_shown, ends_enough, keeps_as}
use Rattle.der_codec.proofs.ShownSteps.{levels_open}
use Rattle.der_codec.proofs.checker.DerChecker.end_within.Goals as goal

pub returns-then-not-end_inner-clause-ok : goal.returns-then-not-end_inner-clause-ok
returns-then-not-end_inner-clause-ok c = λ bytes k.
    let h = c.if-not-end_inner.ensures in
    keeps_as c.args.model.now c.args.self.now (record c.args.self.now { decoder = c.end_inner.new.self }) c.args.run.now c.end_inner.new.run bytes (h.kept refl) refl (h.stays refl) k

pub returns-then-not-end_inner-clause-stays : goal.returns-then-not-end_inner-clause-stays
returns-then-not-end_inner-clause-stays c = record {
  kept = refl;
  sound = refl;
  room = refl;
  due = c.if-not-end_inner.ensures.due;
  keeps = λ k. keeping_as c.args.model.now c.args.self.now _ refl c.if-not-end_inner.ensures.room (omega arith) (λ bytes h. h) (grows_same c.args.self.now.pieces) k;
  alone = λ none. none;
}

pub end_last-requires-clause-last : goal.end_last-requires-clause-last
end_last-requires-clause-last c =
    let s = c.args.self.now in
    let run = c.args.run.now in
    let after = c.end_inner.new.run in
    let g = c.requires.given in
    last_ended (der_message c.args.model.now) s.decoder run c.end_inner.new.self after g.0 c.requires.some c.requires.fresh (c.if-not-end_inner.ensures.levels refl) g.1.0

pub end_last-requires-clause-around : goal.end_last-requires-clause-around
end_last-requires-clause-around c =
    let T = c.args.model.now in
    let m = der_message T in
    let s = c.args.self.now in
    let run = c.args.run.now in
    let new = c.end_inner.new.self in
    let after = c.end_inner.new.run in
    let g = c.requires.given in
    let h = c.if-not-end_inner.ensures in
    let e = ends_in T s run new after g.0 c.requires.some h.open c.requires.fresh h.due (h.one refl) (h.ok g.0) g.1 in
    let xs = inwards (decoder_at new after).levels.items in
    (xs, around_of e.read.state, first_at new after h.open, levels_open m xs new.due e.read.state e.read.is_open, ends_open T s run new after g.0 e)

pub returns-in-Ok-clause-ok : goal.returns-in-Ok-clause-ok
returns-in-Ok-clause-ok c = λ bytes k.
    let T = c.args.model.now in
    let m = der_message T in
    let s = c.args.self.now in
    let run = c.args.run.now in
    let new = c.end_inner.new.self in
    let after = c.end_inner.new.run in
    let h = c.if-not-end_inner.ensures in
    let e = ends_in T s run new after bytes c.requires.some h.open c.requires.fresh h.due (h.one refl) (h.ok bytes) k in
    let xs = inwards (decoder_at new after).levels.items in
    (e.read, ends_shown T s run new after c.end_last.new.pieces bytes e (λ t around. c.in-Ok.ensures.ended xs (around_of t.state) (first_at new after h.open) (levels_open m xs new.due t.state t.is_open) around))

pub returns-in-Err-clause-memory : goal.returns-in-Err-clause-memory
returns-in-Err-clause-memory c = λ bytes k enough.
    let T = c.args.model.now in
    let m = der_message T in
    let s = c.args.self.now in
    let run = c.args.run.now in
    let new = c.end_inner.new.self in
    let after = c.end_inner.new.run in
    let h = c.if-not-end_inner.ensures in
    let e = ends_in T s run new after bytes c.requires.some h.open c.requires.fresh h.due (h.one refl) (h.ok bytes) k in
    let xs = inwards (decoder_at new after).levels.items in
    c.in-Err.ensures.within xs (around_of e.read.state) (first_at new after h.open) (levels_open m xs new.due e.read.state e.read.is_open) (ends_enough T s run new after bytes e enough)

pub returns-in-Ok-clause-stays : goal.returns-in-Ok-clause-stays
returns-in-Ok-clause-stays c = record {
  kept = refl;
  sound = refl;
  room = refl;
  due = c.if-not-end_inner.ensures.due;
  keeps = λ k. keeping_as c.args.model.now c.args.self.now _ refl c.if-not-end_inner.ensures.room (omega arith) (λ bytes h. h) c.end_last.ensures.room k;
  alone = c.end_last.ensures.alone;
}

pub returns-in-Err-clause-stays : goal.returns-in-Err-clause-stays
returns-in-Err-clause-stays c = record {
  kept = refl;
  sound = refl;
  room = refl;
  due = c.if-not-end_inner.ensures.due;
  keeps = λ k. keeping_as c.args.model.now c.args.self.now _ refl c.if-not-end_inner.ensures.room (omega arith) (λ bytes h. h) c.end_last.ensures.room k;
  alone = c.end_last.ensures.alone;
}
