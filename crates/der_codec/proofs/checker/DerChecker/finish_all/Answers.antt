use Rattle.std.proofs.Common.{refl}
use Rattle.der_model.specs.DerMessage.{der_message}
use Rattle.der_model.proofs.SoundMessages.{tables_are_sound}
use Rattle.der_codec.proofs.Fed.{spelled}
use Rattle.der_codec.proofs.Moved.{ends_from, whole_from}
use Rattle.der_codec.proofs.checker.DerChecker.finish_all.Goals as goal

pub returns-then-is_over-clause-ok : goal.returns-then-is_over-clause-ok
returns-then-is_over-clause-ok c = λ bytes h.
    let T = c.args.model.now in
    let t = c.type_count.ensures in
    spelled T c.args.self.now bytes (tables_are_sound T t.sound t.codes t.sorted t.root c.fragments_apart.ensures) h (c.if-is_over.ensures.yes refl)

pub returns-clause-err : goal.returns-clause-err
returns-clause-err c = λ bytes h.
    c.told.ensures.end bytes (c.truncated-stop.ensures (der_message c.args.model.now) bytes h.reading.read h.reading.waits (c.if-is_over.ensures.open refl))

pub returns-then-is_over-clause-ok_from : goal.returns-then-is_over-clause-ok_from
returns-then-is_over-clause-ok_from c = λ base bytes h. whole_from c.args.model.now base c.args.self.now bytes h (c.if-is_over.ensures.yes refl)

pub returns-clause-err_from : goal.returns-clause-err_from
returns-clause-err_from c = λ base bytes h.
    ends_from c.args.model.now base bytes c.told.result (c.told.ensures.end bytes (c.truncated-stop.ensures (der_message c.args.model.now) bytes h.reading.read h.reading.waits (c.if-is_over.ensures.open refl)))
