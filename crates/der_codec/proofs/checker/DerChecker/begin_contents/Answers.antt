use Rattle.std.proofs.Common.{◌≡◌, ◌++◌, ◌∙◌, take, ap, sym, subst, arith}
use Rattle.der_codec.specs.Checking.{IsReading}
use Rattle.der_codec.proofs.Fed.{fresh_reading, none_more, further_stops, joined}
use Rattle.der_codec.proofs.Keeping.{enough_less, behind_is, err_as}
use Rattle.der_codec.proofs.checker.DerChecker.begin_contents.Goals as goal

pub returns-then-behind-left-clause-ok : goal.returns-then-behind-left-clause-ok
returns-then-behind-left-clause-ok c = λ bytes r shows.
    let s = c.args.self.now in
    let T = c.args.model.now in
    let fewer = c.if-behind-left.true in
    none_more T s.decoder s.kept s.pieces bytes c.args.behind.now (fresh_reading T s.decoder s.kept s.pieces bytes c.args.spot c.args.left c.requires.due (omega (arith, fewer)) c.requires.begun c.requires.kept r shows)

pub returns-in-Ok-clause-ok : goal.returns-in-Ok-clause-ok
returns-in-Ok-clause-ok c = λ bytes r shows.
    let s = c.args.self.now in
    let T = c.args.model.now in
    subst (λ z. IsReading T c.take_here.new.self.decoder c.take_here.new.self.kept c.take_here.new.self.pieces (bytes ++ z)) c.split_at.ensures.front (c.in-Ok.ensures.ok bytes r shows)

pub returns-in-Err-clause-err : goal.returns-in-Err-clause-err
returns-in-Err-clause-err c = λ bytes r.
    let s = c.args.self.now in
    let T = c.args.model.now in
    let front = c.split_at.result.0.now in
    let behind = c.split_at.result.1.now in
    let whole : c.args.behind.now ≡ front ++ behind = joined c.args.left c.args.behind.now ∙ (ap (λ z. take c.args.left c.args.behind.now ++ z) (sym c.split_at.ensures.back) ∙ ap (λ z. z ++ behind) (sym c.split_at.ensures.front)) in
    further_stops T c.take_here.new.self.decoder bytes front behind c.args.behind.now c.in-Err.stop whole (c.in-Err.ensures.err bytes r)

pub returns-in-Err-clause-memory : goal.returns-in-Err-clause-memory
returns-in-Err-clause-memory c = λ bytes r shows e is.
    let s = c.args.self.now in
    let T = c.args.model.now in
    let front = c.split_at.result.0.now in
    let behind = c.split_at.result.1.now in
    let whole : c.args.behind.now ≡ front ++ behind = joined c.args.left c.args.behind.now ∙ (ap (λ z. take c.args.left c.args.behind.now ++ z) (sym c.split_at.ensures.back) ∙ ap (λ z. z ++ behind) (sym c.split_at.ensures.front)) in
    c.in-Err.ensures.memory bytes r shows (enough_less T s (bytes ++ front) behind (bytes ++ c.args.behind.now) (behind_is bytes c.args.behind.now front behind whole) e) (err_as _ _ is)
