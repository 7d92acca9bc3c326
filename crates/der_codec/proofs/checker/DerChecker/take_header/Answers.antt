use Rattle.std.proofs.Common.{◌+◌, ◌≤◌, ◌^◌, ◌++◌, ◌∙◌, length, take, sym, subst}
use Rattle.der_model.specs.DerMessage.{der_message}
use Rattle.der_codec.specs.Decoding.{IsHeaderDue}
use Rattle.der_codec.specs.declared.decoder.Decoder.{Decoder}
use Rattle.der_codec.proofs.TextLengths.{none_there}
use Rattle.der_codec.proofs.UsualFed.{none_shown, fed_as, front_as, usual_taken, usual_stopped, some_taken}
use Rattle.der_codec.proofs.Keeping.{none_keeping}
use Rattle.der_codec.proofs.checker.DerChecker.take_header.Goals as goal

pub take_run-taken-requires-clause-alone : goal.take_run-taken-requires-clause-alone
take_run-taken-requires-clause-alone c = none_there c.args.self.now.pieces (sym c.is_some.ensures ∙ c.if-is_some.false)

pub take_first-requires-clause-room : goal.take_first-requires-clause-room
take_first-requires-clause-room c = subst (λ (z : Decoder). z.place + length c.args.piece.now ≤ 2 ^ 40) (sym (c.take_run-taken.ensures.unchanged c.if-taken-eq0.true)) c.requires.room

pub take_first-requires-clause-due : goal.take_first-requires-clause-due
take_first-requires-clause-due c = subst (λ (z : Decoder). IsHeaderDue z.due) (sym (c.take_run-taken.ensures.unchanged c.if-taken-eq0.true)) c.requires.due

pub take_first-requires-clause-given : goal.take_first-requires-clause-given
take_first-requires-clause-given c =
    let g = c.requires.given in
    let h = c.take_run-taken.ensures in
    (g.0, fed_as c.args.model.now c.args.self.now c.take_run-taken.new.self g.0 (h.unchanged c.if-taken-eq0.true) h.kept h.pieces h.sound g.1)

pub returns-then-taken-eq0-clause-front : goal.returns-then-taken-eq0-clause-front
returns-then-taken-eq0-clause-front c =
    let h = c.take_run-taken.ensures in
    let mid = c.take_run-taken.new.self in
    let same = h.unchanged c.if-taken-eq0.true in
    front_as c.args.model.now c.args.self.now mid c.take_first.new.self c.args.piece.now c.take_first.result (λ bytes k. fed_as c.args.model.now c.args.self.now mid bytes same h.kept h.pieces h.sound k) c.take_first.ensures.front

pub end_here-requires-clause-fresh : goal.end_here-requires-clause-fresh
end_here-requires-clause-fresh c = c.take_run-taken.ensures.fresh (some_taken c.take_run-taken.result c.if-taken-eq0.false)

pub end_here-requires-clause-given : goal.end_here-requires-clause-given
end_here-requires-clause-given c =
    let g = c.requires.given in
    let h = c.take_run-taken.ensures in
    let t = c.take_run-taken.new.self in
    let bytes = g.0 ++ take c.take_run-taken.result c.args.piece.now in
    (bytes, h.ok g.0 g.1.reading.read, none_shown (der_message c.args.model.now) t.decoder t.pieces bytes (h.none (some_taken c.take_run-taken.result c.if-taken-eq0.false)))

pub returns-in-Ok-clause-front : goal.returns-in-Ok-clause-front
returns-in-Ok-clause-front c =
    let h = c.take_run-taken.ensures in
    usual_taken c.args.model.now c.args.self.now c.take_run-taken.new.self c.end_here.new.self c.args.piece.now c.take_run-taken.result h.within c.requires.room h.sound c.in-Ok.ensures.sound h.ok (h.none (some_taken c.take_run-taken.result c.if-taken-eq0.false)) c.in-Ok.ensures.ok

pub returns-in-Err-clause-front : goal.returns-in-Err-clause-front
returns-in-Err-clause-front c =
    usual_stopped c.args.model.now c.args.self.now c.take_run-taken.new.self c.end_here.new.self c.args.piece.now c.take_run-taken.result c.in-Err.stop c.take_run-taken.ensures.ok c.in-Err.ensures.err

pub returns-then-taken-eq0-clause-keeps : goal.returns-then-taken-eq0-clause-keeps
returns-then-taken-eq0-clause-keeps c = λ k. absurd (none_keeping c.args.model.now c.args.self.now (none_there c.args.self.now.pieces (sym c.is_some.ensures ∙ c.if-is_some.false)) k)

pub returns-in-Ok-clause-keeps : goal.returns-in-Ok-clause-keeps
returns-in-Ok-clause-keeps c = λ k. absurd (none_keeping c.args.model.now c.args.self.now (none_there c.args.self.now.pieces (sym c.is_some.ensures ∙ c.if-is_some.false)) k)

pub returns-in-Err-clause-keeps : goal.returns-in-Err-clause-keeps
returns-in-Err-clause-keeps c = λ k. absurd (none_keeping c.args.model.now c.args.self.now (none_there c.args.self.now.pieces (sym c.is_some.ensures ∙ c.if-is_some.false)) k)

pub returns-then-taken-eq0-clause-memory : goal.returns-then-taken-eq0-clause-memory
returns-then-taken-eq0-clause-memory c = λ bytes h e is. none_keeping c.args.model.now c.args.self.now (none_there c.args.self.now.pieces (sym c.is_some.ensures ∙ c.if-is_some.false)) e.keeping

pub returns-in-Err-clause-memory : goal.returns-in-Err-clause-memory
returns-in-Err-clause-memory c = λ bytes h e is. none_keeping c.args.model.now c.args.self.now (none_there c.args.self.now.pieces (sym c.is_some.ensures ∙ c.if-is_some.false)) e.keeping
