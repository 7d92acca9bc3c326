use Rattle.std.proofs.Common.{rules, ◌++◌, arith}
use Rattle.xml_instances.proofs.QuickFed.{fronts_fed, fronts_stop}
use Rattle.xml_instances.proofs.checker.XmlChecker.feed_all.Goals as goal

pub loop-rest-preserved : goal.loop-rest-preserved
loop-rest-preserved c = (
  c.take_front.ensures.made,
  (λ bytes h.
      let s = c.loop-rest.invariant.1 bytes h in
      fronts_fed c.args.model.now c.loop-rest.self c.take_front.new.self bytes c.args.piece.now c.loop-rest.rest.now c.split_at.result.1.now c.in-Ok.count s (search rules) (c.in-Ok.ensures.front.ok (bytes ++ s.seen) s.fed_are)),
  omega (arith, c.in-Ok.ensures.front.count, c.in-Ok.ensures.front.within, c.split_at.ensures.back_len, c.loop-rest.invariant.2),
  (λ h. c.take_front.ensures.lean (c.loop-rest.invariant.3 h)),
  c.in-Ok.ensures.none,
)

pub returns-in-Err-clause-err : goal.returns-in-Err-clause-err
returns-in-Err-clause-err c bytes h =
    let s = c.loop-rest.invariant.1 bytes h in
    fronts_stop c.args.model.now c.loop-rest.self bytes c.args.piece.now c.loop-rest.rest.now c.take_front.new.stop s (c.in-Err.ensures.front.err (bytes ++ s.seen) s.fed_are)
