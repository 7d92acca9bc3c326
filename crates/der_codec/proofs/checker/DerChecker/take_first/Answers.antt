use Rattle.std.proofs.Common.{[], ◌∷◌, ◌++◌, sym, append-nil, ◌∙◌}
use Rattle.der_codec.proofs.Fed.{taken_behind, stopped_behind, stopped_front, stop_within}
use Rattle.der_codec.proofs.Keeping.{enough_less, enough_then, behind_is, err_as}
use Rattle.der_codec.proofs.checker.DerChecker.take_first.Goals as goal

pub take_behind-requires-clause-given : goal.take_behind-requires-clause-given
take_behind-requires-clause-given c =
    let g = c.requires.given in
    let h = g.1.reading in
    (g.0 ++ c.in-Some.byte.now ∷ [], c.in-Ok.ensures.ok g.0 h.read, c.in-Ok.ensures.shown g.0 h.read h.shows)

pub returns-in-Ok-take_behind-clause-front : goal.returns-in-Ok-take_behind-clause-front
returns-in-Ok-take_behind-clause-front c =
    let octet = c.in-Some.byte.now in
    taken_behind c.args.model.now c.args.self.now c.take_behind.new.self c.args.piece.now c.in-Some.behind.now octet c.in-Ok-take_behind.count c.in-Some.ensures.cases.0 c.in-Ok-take_behind.ensures.within c.requires.room (c.take_behind.ensures.sound ∙ c.in-Ok.ensures.sound)
    (λ bytes h. c.in-Ok-take_behind.ensures.ok (bytes ++ octet ∷ []) (c.in-Ok.ensures.ok bytes h.reading.read) (c.in-Ok.ensures.shown bytes h.reading.read h.reading.shows))

pub returns-in-Err-take_behind-clause-front : goal.returns-in-Err-take_behind-clause-front
returns-in-Err-take_behind-clause-front c =
    let octet = c.in-Some.byte.now in
    stopped_behind c.args.model.now c.args.self.now c.take_behind.new.self c.args.piece.now c.in-Some.behind.now octet c.in-Err-take_behind.stop c.in-Some.ensures.cases.0
    (λ bytes h. c.in-Err-take_behind.ensures.err (bytes ++ octet ∷ []) (c.in-Ok.ensures.ok bytes h.reading.read))

pub returns-in-Err-clause-front : goal.returns-in-Err-clause-front
returns-in-Err-clause-front c =
    let octet = c.in-Some.byte.now in
    let d = c.take_octet.new.self.decoder in
    stopped_front c.args.model.now c.args.self.now c.take_octet.new.self c.args.piece.now (octet ∷ []) c.in-Some.behind.now c.in-Err.stop c.in-Some.ensures.cases.0
    (λ bytes h. stop_within c.args.model.now d (bytes ++ octet ∷ []) [] (bytes ++ octet ∷ []) c.in-Err.stop (sym (append-nil (bytes ++ octet ∷ []))) (c.in-Err.ensures.err bytes h.reading.read) (c.in-Err.ensures.stays bytes h.reading.read))

pub returns-in-Err-clause-memory : goal.returns-in-Err-clause-memory
returns-in-Err-clause-memory c = λ bytes h e is.
    let s = c.args.self.now in
    let octet = c.in-Some.byte.now in
    c.in-Err.ensures.memory bytes h.reading.read h.reading.shows (enough_less c.args.model.now s (bytes ++ octet ∷ []) c.in-Some.behind.now (bytes ++ c.args.piece.now) (behind_is bytes c.args.piece.now (octet ∷ []) c.in-Some.behind.now c.in-Some.ensures.cases.0) e) (err_as _ _ is)

pub returns-in-Err-take_behind-clause-memory : goal.returns-in-Err-take_behind-clause-memory
returns-in-Err-take_behind-clause-memory c = λ bytes h e is.
    let s = c.args.self.now in
    let octet = c.in-Some.byte.now in
    c.in-Err-take_behind.ensures.memory (bytes ++ octet ∷ []) (c.in-Ok.ensures.ok bytes h.reading.read) (c.in-Ok.ensures.shown bytes h.reading.read h.reading.shows)
    (enough_then c.args.model.now s c.take_octet.new.self ((bytes ++ octet ∷ []) ++ c.in-Some.behind.now) (bytes ++ c.args.piece.now) (behind_is bytes c.args.piece.now (octet ∷ []) c.in-Some.behind.now c.in-Some.ensures.cases.0) c.in-Ok.ensures.keeps c.in-Ok.ensures.same e) (err_as _ _ is)
