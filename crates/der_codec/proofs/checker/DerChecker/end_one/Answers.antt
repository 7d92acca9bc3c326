use Rattle.std.proofs.Common.{[], sym, subst, append-nil, refl, arith}
use Rattle.fragments.specs.Fragment.{fragment}
use Rattle.der_model.specs.DerMessage.{der_message}
use Rattle.der_codec.specs.Decoding.{IsOctetAwaited, end_of_levels}
use Rattle.der_codec.specs.KeptPieces.{KeepsShown}
use Rattle.der_codec.specs.declared.decoder.Decoder.{Decoder}
use Rattle.der_codec.proofs.Fed.{stop_within}
use Rattle.der_codec.proofs.Nested.{ready_below}
use Rattle.der_codec.proofs.ShownFed.{end_open, end_shown, value_ends}
use Rattle.der_codec.proofs.Keeping.{keeping_as, grows_same, not_ok}
use Rattle.der_codec.proofs.RoomSteps.{value_end_enough}
use Rattle.der_codec.proofs.checker.DerChecker.end_one.Goals as goal

pub returns-in-Err-clause-err : goal.returns-in-Err-clause-err
returns-in-Err-clause-err c = λ bytes r.
    stop_within c.args.model.now c.end.new.self bytes [] bytes c.in-Err.stop (sym (append-nil bytes)) (c.in-Err.ensures.err fragment bytes r) (c.in-Err.ensures.stays fragment bytes r)

pub returns-then-not-ended-clause-shown : goal.returns-then-not-ended-clause-shown
returns-then-not-ended-clause-shown c = λ bytes r shows.
    let h = c.in-Ok.ensures.open fragment bytes r (let e = c.if-not-ended.true in cc) in
    subst (λ (z : Decoder). KeepsShown (der_message c.args.model.now) z c.args.self.now.pieces bytes) (sym h.0) shows

pub returns-then-not-ended-clause-open : goal.returns-then-not-ended-clause-open
returns-then-not-ended-clause-open c = λ bytes r same.
    let d = c.args.self.now.decoder in
    let h = c.in-Ok.ensures.open fragment bytes r (let e = c.if-not-ended.true in cc) in
    subst (λ (z : Decoder). IsOctetAwaited z.due z.place (end_of_levels z.levels.items)) (sym h.0) (ready_below d.due d.place (end_of_levels d.levels.items) c.requires.fresh h.1)

pub end_component-requires : goal.end_component-requires
end_component-requires c =
    let m = der_message c.args.model.now in
    let s = c.args.self.now in
    let g = c.requires.given in
    let t = c.in-Ok.ensures.ok fragment g.0 g.1 in
    (g.0, t, end_open m s.decoder c.end.new.self s.pieces g.0 c.requires.fresh (c.in-Ok.ensures.ended (let e = c.if-not-ended.false in cc)) (c.in-Ok.ensures.one (let e = c.if-not-ended.false in cc)) g.1 g.2 t)

pub returns-in-Ok-end_component-clause-shown : goal.returns-in-Ok-end_component-clause-shown
returns-in-Ok-end_component-clause-shown c = λ bytes r shows.
    let m = der_message c.args.model.now in
    let s = c.args.self.now in
    let d = c.end.new.self in
    let new = c.end_component.new.self in
    let ended = c.in-Ok.ensures.ended (let e = c.if-not-ended.false in cc) in
    let one = c.in-Ok.ensures.one (let e = c.if-not-ended.false in cc) in
    let h = c.in-Ok-end_component.ensures in
    subst (λ (z : Decoder). KeepsShown m z new.pieces bytes) (sym h.decoder)
    (end_shown m s.decoder d s.pieces new.pieces bytes c.requires.fresh ended one r shows (λ t. h.shown bytes t (end_open m s.decoder d s.pieces bytes c.requires.fresh ended one r shows t)))

pub returns-in-Err-clause-keeps : goal.returns-in-Err-clause-keeps
returns-in-Err-clause-keeps c = λ k. keeping_as c.args.model.now c.args.self.now _ refl c.end.ensures.room (omega arith) (λ bytes h. h) (grows_same c.args.self.now.pieces) k

pub returns-then-not-ended-clause-keeps : goal.returns-then-not-ended-clause-keeps
returns-then-not-ended-clause-keeps c = λ k. keeping_as c.args.model.now c.args.self.now _ refl c.end.ensures.room (omega arith) (λ bytes h. h) (grows_same c.args.self.now.pieces) k

pub returns-in-Ok-end_component-clause-keeps : goal.returns-in-Ok-end_component-clause-keeps
returns-in-Ok-end_component-clause-keeps c = λ k. c.end_component.ensures.keeps (keeping_as c.args.model.now c.args.self.now _ refl c.end.ensures.room (omega arith) (λ bytes h. h) (grows_same c.args.self.now.pieces) k)

pub returns-in-Err-end_component-clause-keeps : goal.returns-in-Err-end_component-clause-keeps
returns-in-Err-end_component-clause-keeps c = λ k. c.end_component.ensures.keeps (keeping_as c.args.model.now c.args.self.now _ refl c.end.ensures.room (omega arith) (λ bytes h. h) (grows_same c.args.self.now.pieces) k)

pub returns-in-Err-end_component-clause-memory : goal.returns-in-Err-end_component-clause-memory
returns-in-Err-end_component-clause-memory c = λ bytes r shows e is.
    let s = c.args.self.now in
    let ended = c.in-Ok.ensures.ended (let e = c.if-not-ended.false in cc) in
    let one = c.in-Ok.ensures.one (let e = c.if-not-ended.false in cc) in
    let t = c.in-Ok.ensures.ok fragment bytes r in
    not_ok (c.in-Err-end_component.ensures.within bytes t (value_end_enough c.args.model.now s c.end.new.self bytes r t shows (value_ends (der_message c.args.model.now) s.decoder c.end.new.self bytes c.requires.fresh ended one r t) e))
