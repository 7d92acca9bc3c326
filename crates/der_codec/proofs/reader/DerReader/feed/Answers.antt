use Rattle.std.proofs.Common.{◌++◌}
use Rattle.der_codec.proofs.StepTies.{ok_when}
use Rattle.der_codec.specs.ReadInstances.{reserved_room}
use Rattle.der_codec.proofs.Keeping.{made_keeps, begins_fit}
use Rattle.der_codec.proofs.RoomFronts.{begins_show}
use Rattle.der_codec.proofs.reader.DerReader.feed.Goals as goal

pub returns-clause-ok : goal.returns-clause-ok
returns-clause-ok c = λ bytes h. ok_when c.feed.result _ _ (c.feed.ensures.ok bytes h.given) (λ given. record { given = given })

pub returns-clause-err : goal.returns-clause-err
returns-clause-err c = λ bytes h. c.feed.ensures.err bytes h.given

pub returns-clause-ok_from : goal.returns-clause-ok_from
returns-clause-ok_from c = λ base bytes h. c.feed.ensures.ok_from base bytes h.given

pub returns-clause-err_from : goal.returns-clause-err_from
returns-clause-err_from c = λ base bytes h. c.feed.ensures.err_from base bytes h.given

pub returns-clause-made : goal.returns-clause-made
returns-clause-made c = (c.feed.ensures.made, λ none. made_keeps c.args.model.now c.feed.result c.args.self.now.checker c.feed.new.self none c.requires.made.1 c.feed.ensures.keeps c.feed.ensures.failed c.feed.ensures.again)

pub returns-clause-memory : goal.returns-clause-memory
returns-clause-memory c = λ bytes h s. c.feed.ensures.memory bytes h.given (record { keeping = c.requires.made.1 h.given.sound; sound = c.is_sound.ensures.sound; linked = c.is_sound.ensures.linked; shows = s })

pub returns-clause-fits : goal.returns-clause-fits
returns-clause-fits c = λ bytes h b.
    let T = c.args.model.now in
    let s = c.args.self.now in
    let all = bytes ++ c.args.piece.now in
    let sound = c.is_sound.ensures.sound in
    begins_fit T (reserved_room s) all c.feed.result sound b (c.feed.ensures.err bytes h.given)
    (c.feed.ensures.memory bytes h.given (record { keeping = c.requires.made.1 h.given.sound; sound = sound; linked = c.is_sound.ensures.linked; shows = begins_show T (reserved_room s) all sound b }))
