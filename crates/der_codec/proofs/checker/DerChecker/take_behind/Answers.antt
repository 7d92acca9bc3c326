use Rattle.std.proofs.Common.{◌++◌, take, ◌∙◌, drop, sym, ap, refl, arith, append_assoc}
use Rattle.der_model.specs.DerMessage.{der_message}
use Rattle.der_codec.proofs.Fed.{taken_further, stopped_further, stopped_early, joined}
use Rattle.der_codec.proofs.ShownFed.{short_shown}
use Rattle.der_codec.proofs.Keeping.{enough_then, keeping_as, grows_same, length_enough, err_as}
use Rattle.der_codec.specs.declared.checker.DerChecker.{DerChecker}
use Rattle.der_codec.proofs.checker.DerChecker.take_behind.Goals as goal

pub settle-requires-clause-given : goal.settle-requires-clause-given
settle-requires-clause-given c =
    let g = c.requires.given in
    let m = der_message c.args.model.now in
    let s = c.args.self.now in
    let h = c.in-Ok.ensures in (
      g.0 ++ take c.in-Ok.count c.args.behind.now,
      h.ok m g.0 g.1,
      short_shown m s.decoder c.take_short.new.self s.pieces g.0 c.args.behind.now c.in-Ok.count h.few h.within h.none h.due g.1 g.2 h.low h.begun h.depth,
    )

pub returns-in-Ok-settle-clause-ok : goal.returns-in-Ok-settle-clause-ok
returns-in-Ok-settle-clause-ok c = λ bytes r shows.
    let T = c.args.model.now in
    let m = der_message T in
    let s = c.args.self.now in
    let behind = c.args.behind.now in
    let count = c.in-Ok.count in
    let h = c.in-Ok.ensures in
    taken_further T c.settle.new.self.decoder c.settle.new.self.kept c.settle.new.self.pieces bytes behind c.split_at.result.1.now count c.in-Ok-settle.more c.split_at.ensures.back
    (c.in-Ok-settle.ensures.ok (bytes ++ take count behind) (h.ok m bytes r)
    (short_shown m s.decoder c.take_short.new.self s.pieces bytes behind count h.few h.within h.none h.due r shows h.low h.begun h.depth))

pub returns-in-Err-settle-clause-err : goal.returns-in-Err-settle-clause-err
returns-in-Err-settle-clause-err c = λ bytes r.
    let T = c.args.model.now in
    let behind = c.args.behind.now in
    let count = c.in-Ok.count in
    stopped_further T c.settle.new.self.decoder bytes behind c.split_at.result.1.now count c.in-Err-settle.stop c.split_at.ensures.back
    (c.in-Err-settle.ensures.err (bytes ++ take count behind) (c.in-Ok.ensures.ok (der_message T) bytes r))

pub returns-in-Err-clause-err : goal.returns-in-Err-clause-err
returns-in-Err-clause-err c = λ bytes r.
    let T = c.args.model.now in
    stopped_early T c.take_short.new.self bytes c.args.behind.now 1 c.in-Err.stop (c.in-Err.ensures.err (der_message T) bytes r) c.in-Err.ensures.stays

pub returns-in-Ok-settle-clause-keeps : goal.returns-in-Ok-settle-clause-keeps
returns-in-Ok-settle-clause-keeps c = λ k. c.in-Ok-settle.ensures.keeps (keeping_as c.args.model.now c.args.self.now _ refl c.in-Ok.ensures.room (omega arith) (λ bytes h. h) (grows_same c.args.self.now.pieces) k)

pub returns-in-Err-settle-clause-keeps : goal.returns-in-Err-settle-clause-keeps
returns-in-Err-settle-clause-keeps c = λ k. c.in-Err-settle.ensures.keeps (keeping_as c.args.model.now c.args.self.now _ refl c.in-Ok.ensures.room (omega arith) (λ bytes h. h) (grows_same c.args.self.now.pieces) k)

pub returns-in-Err-clause-keeps : goal.returns-in-Err-clause-keeps
returns-in-Err-clause-keeps c = λ k. keeping_as c.args.model.now c.args.self.now _ refl c.in-Err.ensures.room (omega arith) (λ bytes h. h) (grows_same c.args.self.now.pieces) k

pub returns-in-Err-settle-clause-memory : goal.returns-in-Err-settle-clause-memory
returns-in-Err-settle-clause-memory c = λ bytes r shows e is.
    let m = der_message c.args.model.now in
    let s = c.args.self.now in
    let behind = c.args.behind.now in
    let count = c.in-Ok.count in
    let h = c.in-Ok.ensures in
    let mid : DerChecker = record s { decoder = c.take_short.new.self } in
    let all = (ap (λ z. bytes ++ z) (joined count behind) ∙ (sym (append_assoc bytes (take count behind) (drop count behind)) ∙ ap (λ z. (bytes ++ take count behind) ++ z) (sym c.split_at.ensures.back))) in
    c.in-Err-settle.ensures.memory (bytes ++ take count behind) (h.ok m bytes r) (short_shown m s.decoder c.take_short.new.self s.pieces bytes behind count h.few h.within h.none h.due r shows h.low h.begun h.depth)
    (enough_then c.args.model.now s mid ((bytes ++ take count behind) ++ c.split_at.result.1.now) (bytes ++ behind) all (λ k. keeping_as c.args.model.now s mid refl c.in-Ok.ensures.room (omega arith) (λ bytes h. h) (grows_same c.args.self.now.pieces) k) refl e) (err_as _ _ is)

pub returns-in-Err-clause-memory : goal.returns-in-Err-clause-memory
returns-in-Err-clause-memory c = λ bytes r shows e is. length_enough c.args.model.now c.args.self.now bytes c.args.behind.now r shows e (c.in-Err.ensures.long (err_as _ _ is)) (c.in-Err.ensures.full (err_as _ _ is))
