use Rattle.std.proofs.Common.{refl, sym, subst, ◌≡◌, ◌++◌, arith, drop}
use Rattle.der_model.specs.DerMessage.{der_message}
use Rattle.der_codec.specs.Checking.{IsReading}
use Rattle.der_codec.specs.OpenLeaves.{HoldsAt}
use Rattle.der_codec.specs.declared.decoder.Decoder.{Decoder}
use Rattle.der_codec.specs.declared.decoder.Due.TheVariants as due
use Rattle.der_codec.proofs.Fed.{come_short, all_kept, keep_reading}
use Rattle.der_codec.proofs.Keeping.{keeping_as, levels_same, grows_same, not_ok}
use Rattle.der_codec.proofs.RoomSteps.{kept_enough}
use Rattle.der_codec.proofs.checker.DerChecker.keep.Goals as goal

pub hold-requires-clause-given : goal.hold-requires-clause-given
hold-requires-clause-given c =
    let s = c.args.self.now in
    let g = c.requires.given in
    let few = come_short c.args.model.now s.decoder g.0 c.args.spot c.args.left c.requires.due g.1.reading.read in
    let room = c.requires.room in
    (drop s.decoder.start g.0, all_kept c.args.model.now s.decoder s.kept s.pieces g.0 c.args.spot c.args.left c.requires.due (g.1.reading.read, g.1.reading.keeps), omega (arith, few, room))

pub returns-in-Ok-clause-ok : goal.returns-in-Ok-clause-ok
returns-in-Ok-clause-ok c = λ bytes h.
    let T = c.args.model.now in
    let m = der_message T in
    let s = c.args.self.now in
    let new = c.hold.new.self in
    let d = new.decoder in
    let front = c.args.front.now in
    let same = c.hold.ensures.decoder in
    let g = subst (λ (z : Decoder). IsReading T z s.kept s.pieces bytes) (sym same) h in
    let is : d.due ≡ due.Contents c.args.spot c.args.left = subst (λ (z : Decoder). z.due ≡ due.Contents c.args.spot c.args.left) (sym same) c.requires.due in
    let all = all_kept T s.decoder s.kept s.pieces bytes c.args.spot c.args.left c.requires.due (h.read, h.keeps) in
    let holds = subst (λ (z : Decoder). HoldsAt m c.args.spot s.pieces new.kept.leaf new.kept.octets.items (drop z.start bytes ++ front)) (sym same)
    (subst (λ z. HoldsAt m c.args.spot z new.kept.leaf new.kept.octets.items (drop s.decoder.start bytes ++ front)) c.hold.ensures.pieces (c.in-Ok.ensures.kept (drop s.decoder.start bytes) all)) in
    subst (λ z. IsReading T c.pass.new.self new.kept z (bytes ++ front)) (sym c.hold.ensures.pieces)
    (keep_reading T d c.pass.new.self s.kept new.kept s.pieces bytes front c.args.spot c.args.left is c.requires.more g
    (c.pass.ensures.read m bytes front g.read refl) c.pass.ensures.due c.pass.ensures.start holds)

pub returns-in-Ok-clause-keeps : goal.returns-in-Ok-clause-keeps
returns-in-Ok-clause-keeps c = λ k. keeping_as c.args.model.now c.hold.new.self _ refl (levels_same c.hold.new.self.decoder c.hold.new.self.decoder c.pass.new.self refl c.pass.ensures.levels) (omega arith) (λ bytes h. h) (grows_same c.hold.new.self.pieces) (c.hold.ensures.keeps k)

pub returns-in-Err-clause-memory : goal.returns-in-Err-clause-memory
returns-in-Err-clause-memory c = λ bytes h e is.
    let few = kept_enough c.args.model.now c.args.self.now c.args.spot c.args.left bytes c.args.front.now c.requires.due (let more = c.requires.more in omega (arith, more)) (h.read, h.keeps) h.shows e in
    let room = e.keeping.reserved.octets in
    not_ok (c.in-Err.ensures.within e.keeping.region e.keeping.is (omega (arith, few, room)))
