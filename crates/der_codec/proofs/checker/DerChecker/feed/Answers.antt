use Rattle.std.proofs.Common.{rules, ◌≡◌, ◌++◌, None, ap}
use Rattle.std.specs.Prelude.{Err}
use Rattle.der_codec.specs.Checking.{der_failure}
use Rattle.der_codec.proofs.Fed.{count_is, stops_same}
use Rattle.der_codec.proofs.Keeping.{stop_shows}
use Rattle.der_codec.proofs.Moved.{fed_from, stops_from}
use Rattle.der_codec.proofs.checker.DerChecker.feed.Goals as goal

pub returns-in-Ok-feed_all-clause-count : goal.returns-in-Ok-feed_all-clause-count
returns-in-Ok-feed_all-clause-count c =
    let none : der_failure c.args.self.now ≡ None = search rules in
    let g = c.requires.made.given none in
    count_is c.args.model.now c.args.self.now c.feed_all.new.self g.0 c.args.piece.now g.1 (c.in-Ok-feed_all.ensures.ok g.0 g.1)

pub returns-in-Err-feed_all-clause-err : goal.returns-in-Err-feed_all-clause-err
returns-in-Err-feed_all-clause-err c = λ bytes h.
    stops_same c.args.model.now (bytes ++ c.args.piece.now) c.told-error.result c.stop.result c.stop.ensures.same (c.told-error.ensures.within (bytes ++ c.args.piece.now) (c.in-Err-feed_all.ensures.err bytes h))

pub returns-in-Ok-feed_all-clause-ok_from : goal.returns-in-Ok-feed_all-clause-ok_from
returns-in-Ok-feed_all-clause-ok_from c = λ base bytes h. fed_from c.args.model.now base c.feed_all.new.self (bytes ++ c.args.piece.now) (c.in-Ok-feed_all.ensures.ok bytes h)

pub returns-in-Err-feed_all-clause-err_from : goal.returns-in-Err-feed_all-clause-err_from
returns-in-Err-feed_all-clause-err_from c = λ base bytes h.
    stops_from c.args.model.now base (bytes ++ c.args.piece.now) c.stop.result
    (stops_same c.args.model.now (bytes ++ c.args.piece.now) c.told-error.result c.stop.result c.stop.ensures.same (c.told-error.ensures.within (bytes ++ c.args.piece.now) (c.in-Err-feed_all.ensures.err bytes h)))

pub returns-in-Err-feed_all-clause-memory : goal.returns-in-Err-feed_all-clause-memory
returns-in-Err-feed_all-clause-memory c = λ bytes h e is.
    let h2 = c.in-Err-feed_all.ensures in
    stop_shows c.args.model.now c.feed_all.new.self.decoder (bytes ++ c.args.piece.now) c.in-Err-feed_all.stop (h2.err bytes h) (λ none. h2.memory bytes h e (ap Err none))
