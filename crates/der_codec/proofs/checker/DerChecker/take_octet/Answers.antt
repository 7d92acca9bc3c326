use Rattle.std.proofs.Common.{◌++◌, ◌∷◌, [], refl, sym, subst, arith}
use Rattle.fragments.specs.Fragment.{fragment}
use Rattle.der_model.specs.DerMessage.{der_message}
use Rattle.der_codec.specs.Decoding.{IsOpenState}
use Rattle.der_codec.specs.KeptPieces.{KeepsShown, PiecesGoOn, begun_pieces}
use Rattle.der_codec.specs.Levels.{inwards}
use Rattle.der_codec.specs.declared.decoder.Decoder.{Decoder}
use Rattle.der_codec.proofs.PiecesOpen.{ok_for}
use Rattle.der_codec.proofs.ShownFed.{tag_shown, length_shown, length_due}
use Rattle.der_codec.proofs.Keeping.{keeping_as, grows_same, length_enough, ok_no_err}
use Rattle.der_codec.proofs.RoomSteps.{tag_enough}
use Rattle.der_codec.proofs.checker.DerChecker.take_octet.Goals as goal

pub returns-in-Tag-clause-shown : goal.returns-in-Tag-clause-shown
returns-in-Tag-clause-shown c = λ bytes r shows.
    let m = der_message c.args.model.now in
    let s = c.args.self.now in
    let d = c.take_header.new.self in
    let new = c.begin_component.new.self in
    let o = c.args.octet in
    let h = c.in-Ok.ensures in
    ok_for c.begin_component.result (λ v. IsOpenState m (inwards d.levels.items) d.due v) (λ v. PiecesGoOn s.pieces new.pieces (begun_pieces m v)) (KeepsShown m new.decoder new.pieces (bytes ++ o ∷ [])) c.begin_component.ensures.shown
    (λ goes. subst (λ (z : Decoder). KeepsShown m z new.pieces (bytes ++ o ∷ [])) (sym c.begin_component.ensures.decoder) (tag_shown m s.decoder d s.pieces new.pieces bytes o c.in-Tag.field-0 c.in-Tag.is c.requires.low r shows h.low h.begun goes))

pub returns-in_default : goal.returns-in_default
returns-in_default c =
    let m = der_message c.args.model.now in
    let s = c.args.self.now in
    let d = c.take_header.new.self in
    let h = c.in-Ok.ensures in
    let is = length_due s.decoder.due c.requires.due c.in_default.not-Tag in
    record {
      kept = refl;
      checks = refl;
      sound = refl;
      ok = λ bytes r. h.ok fragment bytes r;
      shown = λ bytes r shows. length_shown m s.decoder d s.pieces bytes c.args.octet is r shows h.low h.begun (h.depth is);
      err = λ bytes r. tt;
      stays = λ bytes r. tt;
      place = h.place;
      low = h.low;
      begun = h.begun;
      keeps = λ k. keeping_as c.args.model.now c.args.self.now _ refl c.take_header.ensures.room (omega arith) (λ bytes h. h) (grows_same c.args.self.now.pieces) k;
      same = refl;
      alone = λ none. none;
      memory = λ bytes r shows e is. absurd cc;
    }

pub returns-in-Err-clause-stays : goal.returns-in-Err-clause-stays
returns-in-Err-clause-stays c = λ bytes r. c.in-Err.ensures.stays fragment bytes r

pub returns-in-Tag-clause-keeps : goal.returns-in-Tag-clause-keeps
returns-in-Tag-clause-keeps c = λ k. c.begin_component.ensures.keeps (keeping_as c.args.model.now c.args.self.now _ refl c.take_header.ensures.room (omega arith) (λ bytes h. h) (grows_same c.args.self.now.pieces) k)

pub returns-in-Err-clause-keeps : goal.returns-in-Err-clause-keeps
returns-in-Err-clause-keeps c = λ k. keeping_as c.args.model.now c.args.self.now _ refl c.take_header.ensures.room (omega arith) (λ bytes h. h) (grows_same c.args.self.now.pieces) k

pub returns-in-Tag-clause-memory : goal.returns-in-Tag-clause-memory
returns-in-Tag-clause-memory c = λ bytes r shows e is.
    let h = c.in-Ok.ensures in
    let t = h.ok fragment bytes r in
    ok_no_err c.begin_component.result _ (c.begin_component.ensures.within t.state t.is_open (tag_enough c.args.model.now c.args.self.now c.take_header.new.self bytes c.args.octet c.in-Tag.field-0 c.in-Tag.is c.requires.low r shows h.low h.begun t e)) is

pub returns-in-Err-clause-memory : goal.returns-in-Err-clause-memory
returns-in-Err-clause-memory c = λ bytes r shows e is. length_enough c.args.model.now c.args.self.now bytes (c.args.octet ∷ []) r shows e (c.in-Err.ensures.long is) (c.in-Err.ensures.full is)
