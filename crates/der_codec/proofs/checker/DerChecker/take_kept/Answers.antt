use Rattle.std.proofs.Common.{◌+◌, ◌≤◌, ◌^◌, length, sym, subst, refl}
use Rattle.der_codec.specs.Decoding.{IsHeaderDue}
use Rattle.der_codec.specs.declared.decoder.Decoder.{Decoder}
use Rattle.der_codec.proofs.UsualFed.{front_as, none_fed, some_taken}
use Rattle.der_codec.proofs.Keeping.{enough_then}
use Rattle.der_codec.proofs.checker.DerChecker.take_kept.Goals as goal

pub take_first-requires-clause-room : goal.take_first-requires-clause-room
take_first-requires-clause-room c = subst (λ (z : Decoder). z.place + length c.args.piece.now ≤ 2 ^ 40) (sym (c.in-Ok.ensures.unchanged c.if-taken-eq0.true)) c.requires.room

pub take_first-requires-clause-due : goal.take_first-requires-clause-due
take_first-requires-clause-due c = subst (λ (z : Decoder). IsHeaderDue z.due) (sym (c.in-Ok.ensures.unchanged c.if-taken-eq0.true)) c.requires.due

pub take_first-requires-clause-given : goal.take_first-requires-clause-given
take_first-requires-clause-given c =
    let g = c.requires.given in
    (g.0, none_fed c.args.model.now c.args.self.now c.take_shown.new.self g.0 c.args.piece.now c.in-Ok.taken c.if-taken-eq0.true c.in-Ok.ensures.front g.1)

pub returns-then-taken-eq0-clause-front : goal.returns-then-taken-eq0-clause-front
returns-then-taken-eq0-clause-front c =
    let mid = c.take_shown.new.self in
    front_as c.args.model.now c.args.self.now mid c.take_first.new.self c.args.piece.now c.take_first.result (λ bytes h. none_fed c.args.model.now c.args.self.now mid bytes c.args.piece.now c.in-Ok.taken c.if-taken-eq0.true c.in-Ok.ensures.front h) c.take_first.ensures.front

pub returns-clause-some : goal.returns-clause-some
returns-clause-some c = some_taken c.in-Ok.taken c.if-taken-eq0.false

pub returns-then-taken-eq0-clause-memory : goal.returns-then-taken-eq0-clause-memory
returns-then-taken-eq0-clause-memory c = λ bytes h e is.
    let s = c.args.self.now in
    let mid = c.take_shown.new.self in
    c.take_first.ensures.memory bytes (none_fed c.args.model.now s mid bytes c.args.piece.now c.in-Ok.taken c.if-taken-eq0.true c.in-Ok.ensures.front h) (enough_then c.args.model.now s mid _ _ refl c.in-Ok.ensures.keeps c.in-Ok.ensures.same e) is
