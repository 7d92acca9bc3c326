use Rattle.std.proofs.Common.{arith}
use Rattle.fragments.specs.Fragment.{fragment}
use Rattle.der_model.specs.DerMessage.{der_message}
use Rattle.der_codec.proofs.Runs.{few_in_run, run_passes, passed_run}
use Rattle.der_codec.proofs.decoder.Decoder.begin_leaf.Goals as goal

pub pass_leaf-requires-clause-few : goal.pass_leaf-requires-clause-few
pass_leaf-requires-clause-few c =
    let r = c.requires.read in
    let room = c.requires.room in
    few_in_run (der_message c.args.model.now) c.args.self.now c.args.run.now r.0 (omega (arith, room)) r.1

pub pass_leaf-requires-in-Begins-clause-few : goal.pass_leaf-requires-in-Begins-clause-few
pass_leaf-requires-in-Begins-clause-few c =
    let r = c.requires.read in
    let room = c.requires.room in
    few_in_run (der_message c.args.model.now) c.args.self.now c.args.run.now r.0 (omega (arith, room)) r.1

pub returns-in-Some-clause-ok : goal.returns-in-Some-clause-ok
returns-in-Some-clause-ok c = λ bytes r.
    let m = der_message c.args.model.now in
    let s = c.args.self.now in
    let run = c.args.run.now in
    let after = c.pass_leaf.new.run in
    let h = c.pass_leaf.ensures in
    let number = c.in-Some.field.number in
    let spot = c.in-Some.field.spot in
    passed_run m s run after spot bytes c.args.behind.now c.args.first c.args.second number c.pass_leaf.result h.count h.within h.passed (λ contents size p.
    run_passes m s run after bytes contents c.args.first c.args.second number c.args.id spot r c.requires.fresh c.requires.id c.requires.low (c.in-Some.ensures fragment) c.requires.short c.requires.primitive size p)

pub returns-in-Begins-clause-ok : goal.returns-in-Begins-clause-ok
returns-in-Begins-clause-ok c = λ bytes r.
    let m = der_message c.args.model.now in
    let s = c.args.self.now in
    let run = c.args.run.now in
    let after = c.pass_leaf-in-Begins.new.run in
    let h = c.pass_leaf-in-Begins.ensures in
    let number = c.in-Begins.number in
    let spot = c.in-Begins.spot in
    passed_run m s run after spot bytes c.args.behind.now c.args.first c.args.second number c.pass_leaf-in-Begins.result h.count h.within h.passed (λ contents size p.
    run_passes m s run after bytes contents c.args.first c.args.second number c.args.id spot r c.requires.fresh c.requires.id c.requires.low (c.in-Begins.ensures fragment) c.requires.short c.requires.primitive size p)
