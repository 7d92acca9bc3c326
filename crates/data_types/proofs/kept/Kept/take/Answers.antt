use Rattle.std.proofs.Common.{◌≡◌, false, true, length, refl}
use Rattle.data_types.proofs.KeptLemmas.{held_more, room_enough}
use Rattle.data_types.proofs.kept.Kept.take.Goals as goal

pub returns-clause-ok : goal.returns-clause-ok
returns-clause-ok c =
    held_more c.args.self.now _ c.in-Some.left c.args.size c.args.bytes.now c.in-Some.is c.if-left-size.false c.if-self.false c.requires c.in_ok-extend.ensures.ok refl refl c.if-self.false

pub returns-in_err-extend-clause-within : goal.returns-in_err-extend-clause-within
returns-in_err-extend-clause-within c = λ enough.
    let s = c.args.self.now in
    let no = room_enough s.most s.left s.bytes.room (length s.bytes.held) (length c.args.bytes.now) c.in-Some.left c.args.size (false ≡ true) s.none c.in-Some.is c.if-left-size.false c.requires
    c.in_err-extend.ensures.within c.in_err-extend.ensures.none enough in
    absurd cc
