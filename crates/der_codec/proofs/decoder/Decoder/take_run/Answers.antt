use Rattle.std.proofs.Common.{sym, subst, arith, append-nil}
use Rattle.der_model.specs.DerMessage.{der_message}
use Rattle.der_codec.specs.Decoding.{HasReadParts}
use Rattle.der_codec.proofs.Runs.{run_begins, run_low, run_some, run_result}
use Rattle.der_codec.proofs.decoder.Decoder.take_run.Goals as goal

pub returns-in-None-clause-ok : goal.returns-in-None-clause-ok
returns-in-None-clause-ok c = λ bytes r. subst (HasReadParts (der_message c.args.model.now) c.args.self.now) (sym (append-nil bytes)) r

pub run_on-requires-clause-room : goal.run_on-requires-clause-room
run_on-requires-clause-room c = (let at = c.in-Some.ensures.place in let room = c.requires.room in omega (arith, at, room))

pub run_on-requires-clause-some : goal.run_on-requires-clause-some
run_on-requires-clause-some c = run_some c.args.self.now.levels.items c.in-Some.begun.level c.in-Some.ensures.level

pub run_on-requires-clause-low : goal.run_on-requires-clause-low
run_on-requires-clause-low c = (let h = c.in-Some.ensures in run_low c.args.self.now c.in-Some.begun h.fresh c.requires.waits h.level h.place)

pub run_on-requires-clause-read : goal.run_on-requires-clause-read
run_on-requires-clause-read c =
    let h = c.in-Some.ensures in
    let g = c.requires.read in
    (g.0, run_begins (der_message c.args.model.now) c.args.self.now c.in-Some.begun g.0 h.fresh h.level h.place g.1)

pub returns-in-Some-clause-ok : goal.returns-in-Some-clause-ok
returns-in-Some-clause-ok c = λ bytes r.
    let h = c.in-Some.ensures in
    let m = der_message c.args.model.now in
    run_result m c.args.self.now c.run_on.new.self bytes c.args.piece.now c.run_on.result r c.run_on.ensures.none
    (λ some. c.run_on.ensures.ok some bytes (run_begins m c.args.self.now c.in-Some.begun bytes h.fresh h.level h.place r))
