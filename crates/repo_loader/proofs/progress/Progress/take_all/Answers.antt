-- What stands at the front of the rest, as far as the first that shows a fault.
use Rattle.std.proofs.Common.{rules, ◌++◌, refl, subst, arith}
use Rattle.std.proofs.lemmas.List.{nil_from_length}
use Rattle.repo_loader.specs.inner.ProgressSteps.{ReadsFront, TakesSome}
use Rattle.repo_loader.proofs.ReadSteps.{ReadSoFar, nothing_seen, run_seen, fault_seen, all_seen}
use Rattle.repo_loader.proofs.progress.Progress.take_all.Goals as goal

pub loop-rest-init : goal.loop-rest-init
loop-rest-init c = record { some = c.requires.read; read = λ bytes h. nothing_seen c.args.self.now bytes c.args.piece.now h; counted = refl }

pub returns-clause-read : goal.returns-clause-read
returns-clause-read c bytes h =
    let none = nil_from_length c.loop-rest.rest.now (search rules) in
    all_seen c.loop-rest.self bytes c.args.piece.now (subst (ReadSoFar c.loop-rest.self bytes c.args.piece.now) none (c.loop-rest.invariant.read bytes h))

pub returns-in-Breaks-clause-read : goal.returns-in-Breaks-clause-read
returns-in-Breaks-clause-read c bytes h =
    let s = c.loop-rest.invariant.read bytes h in
    fault_seen c.loop-rest.self bytes c.args.piece.now c.loop-rest.rest.now c.in-Breaks.fault s
    (subst (ReadsFront c.take_front.new.self (bytes ++ s.seen) c.loop-rest.rest.now) c.in-Breaks.is (c.in_ok-count.ensures.read (bytes ++ s.seen) s.read))

pub loop-rest-preserved : goal.loop-rest-preserved
loop-rest-preserved c =
    let rest = c.loop-rest.rest.now in
    let some = c.loop-rest.invariant.some in
    let took = subst (TakesSome c.loop-rest.self c.take_front.new.self rest) c.in-Read.is c.in_ok-count.ensures.some in
    record {
      some = (_, subst (ReadsFront c.take_front.new.self some.0 rest) c.in-Read.is (c.in_ok-count.ensures.read some.0 some.1));
      read = λ bytes h.
          let s = c.loop-rest.invariant.read bytes h in
          run_seen c.loop-rest.self c.take_front.new.self bytes c.args.piece.now rest c.split_at.result.1.now c.in-Read.count s c.split_at.ensures.back
          (subst (ReadsFront c.take_front.new.self (bytes ++ s.seen) rest) c.in-Read.is (c.in_ok-count.ensures.read (bytes ++ s.seen) s.read));
      counted = omega (arith, took.2, took.1, c.split_at.ensures.back_len, c.loop-rest.invariant.counted);
    }
