use Rattle.std.proofs.Common.{◌≡◌, ◌++◌, ◌∙◌, sym, ap, take}
use Rattle.der_codec.proofs.Fed.{taken_front, stopped_front, joined}
use Rattle.der_codec.proofs.Keeping.{enough_less, behind_is, err_as}
use Rattle.der_codec.proofs.checker.DerChecker.take_contents.Goals as goal

pub returns-in-Ok-clause-front : goal.returns-in-Ok-clause-front
returns-in-Ok-clause-front c =
    taken_front c.args.model.now c.args.self.now c.keep.new.self c.args.piece.now c.split_at.result.0.now c.fewer-count.result c.split_at.ensures.front c.fewer-count.ensures.have c.requires.room c.keep.ensures.sound
    (λ bytes h. c.in-Ok.ensures.ok bytes h.reading)

pub returns-in-Ok-take_last-clause-front : goal.returns-in-Ok-take_last-clause-front
returns-in-Ok-take_last-clause-front c =
    taken_front c.args.model.now c.args.self.now c.take_last.new.self c.args.piece.now c.split_at.result.0.now c.fewer-count.result c.split_at.ensures.front c.fewer-count.ensures.have c.requires.room c.take_last.ensures.sound
    (λ bytes h. c.in-Ok-take_last.ensures.ok bytes (h.reading.read, h.reading.keeps) h.reading.shows)

pub returns-in-Err-take_last-clause-front : goal.returns-in-Err-take_last-clause-front
returns-in-Err-take_last-clause-front c =
    let front = c.split_at.result.0.now in
    let behind = c.split_at.result.1.now in
    let whole : c.args.piece.now ≡ front ++ behind = joined c.fewer-count.result c.args.piece.now ∙ (ap (λ z. take c.fewer-count.result c.args.piece.now ++ z) (sym c.split_at.ensures.back) ∙ ap (λ z. z ++ behind) (sym c.split_at.ensures.front)) in
    stopped_front c.args.model.now c.args.self.now c.take_last.new.self c.args.piece.now front behind c.in-Err-take_last.stop whole
    (λ bytes h. c.in-Err-take_last.ensures.err bytes (h.reading.read, h.reading.keeps))

pub returns-in-Err-take_last-clause-memory : goal.returns-in-Err-take_last-clause-memory
returns-in-Err-take_last-clause-memory c = λ bytes h e is.
    let front = c.split_at.result.0.now in
    let behind = c.split_at.result.1.now in
    let whole : c.args.piece.now ≡ front ++ behind = joined c.fewer-count.result c.args.piece.now ∙ (ap (λ z. take c.fewer-count.result c.args.piece.now ++ z) (sym c.split_at.ensures.back) ∙ ap (λ z. z ++ behind) (sym c.split_at.ensures.front)) in
    c.in-Err-take_last.ensures.memory bytes (h.reading.read, h.reading.keeps) h.reading.shows (enough_less c.args.model.now c.args.self.now (bytes ++ front) behind (bytes ++ c.args.piece.now) (behind_is bytes c.args.piece.now front behind whole) e) (err_as _ _ is)

pub returns-in-Err-clause-memory : goal.returns-in-Err-clause-memory
returns-in-Err-clause-memory c = λ bytes h e is.
    let front = c.split_at.result.0.now in
    let behind = c.split_at.result.1.now in
    let whole : c.args.piece.now ≡ front ++ behind = joined c.fewer-count.result c.args.piece.now ∙ (ap (λ z. take c.fewer-count.result c.args.piece.now ++ z) (sym c.split_at.ensures.back) ∙ ap (λ z. z ++ behind) (sym c.split_at.ensures.front)) in
    c.in-Err.ensures.memory bytes h.reading (enough_less c.args.model.now c.args.self.now (bytes ++ front) behind (bytes ++ c.args.piece.now) (behind_is bytes c.args.piece.now front behind whole) e) (err_as _ _ is)
