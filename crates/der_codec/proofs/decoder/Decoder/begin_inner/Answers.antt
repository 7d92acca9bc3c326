use Rattle.std.proofs.Common.{arith}
use Rattle.fragments.specs.Fragment.{fragment}
use Rattle.der_model.specs.DerMessage.{der_message}
use Rattle.der_codec.specs.inner.Runs.{EntersRun}
use Rattle.der_codec.proofs.Runs.{few_in_run, run_enters, entered_run}
use Rattle.der_codec.proofs.decoder.Decoder.begin_inner.Goals as goal

pub enter-requires-clause-few : goal.enter-requires-clause-few
enter-requires-clause-few c =
    let r = c.requires.read in
    let room = c.requires.room in
    few_in_run (der_message c.args.model.now) c.args.self.now c.args.run.now r.0 (omega (arith, room)) r.1

pub enter-requires-in-Begins-clause-few : goal.enter-requires-in-Begins-clause-few
enter-requires-in-Begins-clause-few c =
    let r = c.requires.read in
    let room = c.requires.room in
    few_in_run (der_message c.args.model.now) c.args.self.now c.args.run.now r.0 (omega (arith, room)) r.1

pub returns-in-Some-clause-ok : goal.returns-in-Some-clause-ok
returns-in-Some-clause-ok c = λ bytes behind r.
    let m = der_message c.args.model.now in
    let s = c.args.self.now in
    let new = c.enter.new.self in
    let run = c.args.run.now in
    let after = c.enter.new.run in
    let h = c.enter.ensures in
    let number = c.in-Some.field.number in
    let spot = c.in-Some.field.spot in
    entered_run m new after bytes behind c.args.first c.args.second (EntersRun s new run after number spot 2 c.args.second) c.enter.result h.none h.entered (λ e.
    run_enters m s new run after bytes c.args.first c.args.second number c.args.id spot r c.requires.fresh c.requires.id c.requires.low (c.in-Some.ensures fragment) c.requires.short c.requires.constructed h.due e)

pub returns-in-Begins-clause-ok : goal.returns-in-Begins-clause-ok
returns-in-Begins-clause-ok c = λ bytes behind r.
    let m = der_message c.args.model.now in
    let s = c.args.self.now in
    let new = c.enter-in-Begins.new.self in
    let run = c.args.run.now in
    let after = c.enter-in-Begins.new.run in
    let h = c.enter-in-Begins.ensures in
    let number = c.in-Begins.number in
    let spot = c.in-Begins.spot in
    entered_run m new after bytes behind c.args.first c.args.second (EntersRun s new run after number spot 2 c.args.second) c.enter-in-Begins.result h.none h.entered (λ e.
    run_enters m s new run after bytes c.args.first c.args.second number c.args.id spot r c.requires.fresh c.requires.id c.requires.low (c.in-Begins.ensures fragment) c.requires.short c.requires.constructed h.due e)
