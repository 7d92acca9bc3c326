use Rattle.std.proofs.Common.{◌≡◌, ◌+◌, ◌++◌, arith, ap, sym, subst, refl, length}
use Rattle.std.specs.Prelude.{Err}
use Rattle.der_model.specs.DerMessage.{der_message}
use Rattle.der_codec.specs.Judging.{HoldsContents, IsVerdictFor}
use Rattle.der_codec.specs.KeptPieces.{HoldsLeafAt, GoesOnByLeaf}
use Rattle.der_codec.proofs.ContentsSteps.{none_kept}
use Rattle.der_codec.proofs.Fed.{come_short, fresh_keeps, last_has, last_ends, refused_within}
use Rattle.der_codec.proofs.Keeping.{keeping_as, levels_same, enough_then}
use Rattle.der_codec.proofs.RoomSteps.{whole_enough, refused_memory}
use Rattle.der_codec.specs.Levels.{inwards}
use Rattle.der_codec.specs.declared.decoder.Stop.TheVariants as stop
use Rattle.der_codec.specs.declared.checker.DerChecker.{DerChecker}
use Rattle.der_codec.proofs.checker.DerChecker.take_here.Goals as goal

pub tell-requires-clause-short : goal.tell-requires-clause-short
tell-requires-clause-short c =
    let g = c.requires.given in
    let few = come_short c.args.model.now c.args.self.now.decoder g.0 c.args.spot c.args.left c.requires.due g.1 in
    let room = c.requires.room in
    omega (arith, few, room)

pub end_leaf-requires-clause-given : goal.end_leaf-requires-clause-given
end_leaf-requires-clause-given c =
    let m = der_message c.args.model.now in
    let s = c.args.self.now in
    let g = c.requires.given in
    let d = s.decoder in
    let front = c.args.front.now in
    let h = c.in-Ok.ensures in
    let e = c.end_contents.ensures in
    let none = sym (none_kept m (inwards d.levels.items) d.due d.start d.place g.0 g.1 c.requires.begun) in (
      g.0 ++ front,
      last_ends c.args.model.now d d c.end_contents.new.self s.pieces c.tell.new.pieces g.0 front c.args.spot c.args.left refl c.requires.due g.1 g.2 c.requires.last
          (subst (λ z. HoldsContents m c.args.spot (z ++ front)) none h.judged) (subst (λ z. GoesOnByLeaf m c.args.spot (z ++ front) s.pieces c.tell.new.pieces) none h.shown) e.fresh e.levels e.read,
    )

pub returns-in-Ok-clause-ok : goal.returns-in-Ok-clause-ok
returns-in-Ok-clause-ok c = λ bytes r shows.
    let m = der_message c.args.model.now in
    let s = c.args.self.now in
    let d = s.decoder in
    let front = c.args.front.now in
    let h = c.in-Ok.ensures in
    let e = c.end_contents.ensures in
    let none = sym (none_kept m (inwards d.levels.items) d.due d.start d.place bytes r c.requires.begun) in
    c.end_leaf.ensures.ok (bytes ++ front)
    (last_ends c.args.model.now d d c.end_contents.new.self s.pieces c.tell.new.pieces bytes front c.args.spot c.args.left refl c.requires.due r shows c.requires.last
    (subst (λ z. HoldsContents m c.args.spot (z ++ front)) none h.judged) (subst (λ z. GoesOnByLeaf m c.args.spot (z ++ front) s.pieces c.tell.new.pieces) none h.shown) e.fresh e.levels e.read)

pub returns-in-Ok-clause-err : goal.returns-in-Ok-clause-err
returns-in-Ok-clause-err c = λ bytes r.
    let m = der_message c.args.model.now in
    let d = c.args.self.now.decoder in
    let front = c.args.front.now in
    let none = sym (none_kept m (inwards d.levels.items) d.due d.start d.place bytes r c.requires.begun) in
    c.end_leaf.ensures.err (bytes ++ front) (last_has c.args.model.now d d c.end_contents.new.self bytes front c.args.spot c.args.left refl r c.requires.last (subst (λ z. HoldsContents m c.args.spot (z ++ front)) none c.in-Ok.ensures.judged) c.end_contents.ensures.read)

pub returns-in-Err-clause-err : goal.returns-in-Err-clause-err
returns-in-Err-clause-err c = λ bytes r.
    let m = der_message c.args.model.now in
    let d = c.args.self.now.decoder in
    let front = c.args.front.now in
    let none = sym (none_kept m (inwards d.levels.items) d.due d.start d.place bytes r c.requires.begun) in
    refused_within c.args.model.now d d bytes front c.args.spot c.args.left c.in-Err.refusal c.refused.result refl c.requires.due r c.requires.last (subst (λ z. IsVerdictFor {T = Unit {0}} m c.args.spot (z ++ front) (Err c.in-Err.refusal)) none c.in-Err.ensures.judged) c.refused.ensures

pub returns-in-Ok-clause-keeps : goal.returns-in-Ok-clause-keeps
returns-in-Ok-clause-keeps c = λ k. (let s = c.args.self.now in c.end_leaf.ensures.keeps (keeping_as c.args.model.now s _ refl (levels_same s.decoder s.decoder c.end_contents.new.self refl c.end_contents.ensures.levels) (omega arith) c.tell.ensures.room c.tell.ensures.grows k))

pub returns-in-Err-clause-keeps : goal.returns-in-Err-clause-keeps
returns-in-Err-clause-keeps c = λ k. keeping_as c.args.model.now c.args.self.now _ refl (omega arith) (omega arith) c.tell.ensures.room c.tell.ensures.grows k

pub returns-in-Ok-clause-memory : goal.returns-in-Ok-clause-memory
returns-in-Ok-clause-memory c = λ bytes r shows e is.
    let m = der_message c.args.model.now in
    let s = c.args.self.now in
    let d = s.decoder in
    let front = c.args.front.now in
    let h = c.in-Ok.ensures in
    let f = c.end_contents.ensures in
    let none = sym (none_kept m (inwards d.levels.items) d.due d.start d.place bytes r c.requires.begun) in
    let mid : DerChecker = record s { checks = c.tell.new.checks; pieces = c.tell.new.pieces; decoder = c.end_contents.new.self } in
    c.end_leaf.ensures.memory (bytes ++ front)
    (last_ends c.args.model.now d d c.end_contents.new.self s.pieces c.tell.new.pieces bytes front c.args.spot c.args.left refl c.requires.due r shows c.requires.last
    (subst (λ z. HoldsContents m c.args.spot (z ++ front)) none h.judged) (subst (λ z. GoesOnByLeaf m c.args.spot (z ++ front) s.pieces c.tell.new.pieces) none h.shown) f.fresh f.levels f.read)
    (enough_then c.args.model.now s mid (bytes ++ front) (bytes ++ front) refl (λ k. keeping_as c.args.model.now s mid refl (levels_same d d c.end_contents.new.self refl f.levels) (omega arith) c.tell.ensures.room c.tell.ensures.grows k) refl e) is

pub returns-in-Err-clause-memory : goal.returns-in-Err-clause-memory
returns-in-Err-clause-memory c = λ bytes r shows e is.
    let T = c.args.model.now in
    let s = c.args.self.now in
    let front = c.args.front.now in
    let stops : c.refused.result ≡ stop.Memory = cc in
    let keeps = fresh_keeps T s.decoder s.kept s.pieces bytes c.args.spot c.args.left c.requires.due c.requires.begun c.requires.kept r in
    let w = whole_enough T s c.args.spot c.args.left bytes front c.requires.due c.requires.last (r, keeps) shows e in
    let none = c.requires.kept.0 in
    c.in-Err.ensures.within (length s.kept.octets.items + length front) w.checks w.plain (omega arith) w.primitive (λ leaf at. w.leaf leaf (subst (λ z. HoldsLeafAt (der_message T) c.args.spot (z ++ front) leaf) (sym none) at)) (ap Err (refused_memory _ c.in-Err.refusal c.refused.result c.refused.ensures stops))
