use Rattle.std.proofs.Common.{◌≡◌, ◌+◌, length, take, sym, subst, arith}
use Rattle.std.proofs.lemmas.List.{length-take-le}
use Rattle.fragments.specs.Fragment.{fragment}
use Rattle.der_model.specs.DerMessage.{der_message}
use Rattle.der_codec.specs.inner.Runs.{EntersRun}
use Rattle.der_codec.proofs.Runs.{few_in_run, wide_enters}
use Rattle.der_codec.proofs.decoder.Decoder.enter_wide.Goals as goal

pub enter_behind-requires-clause-few : goal.enter_behind-requires-clause-few
enter_behind-requires-clause-few c =
    let r = c.requires.read in
    let room = c.requires.room in
    few_in_run (der_message c.args.model.now) c.args.self.now c.args.run.now r.0 (omega (arith, room)) r.1

pub returns-then-enter_behind-clause-ok : goal.returns-then-enter_behind-clause-ok
returns-then-enter_behind-clause-ok c = λ bytes r.
    let m = der_message c.args.model.now in
    let s = c.args.self.now in
    let new = c.enter_behind.new.self in
    let run = c.args.run.now in
    let after = c.enter_behind.new.run in
    let number = c.in-Begins.number in
    let spot = c.in-Begins.spot in
    let wide = c.in-Some.wide in
    let more = take wide.more c.args.behind.now in
    let size : length more ≡ wide.more = length-take-le wide.more c.args.behind.now c.in-Some.ensures.within in
    wide_enters m s new run after bytes more c.args.first c.args.second wide.length number c.in-Some-one_octet.id spot r c.requires.fresh c.in-Some-one_octet.ensures c.requires.low (c.in-Begins.ensures fragment)
    c.in-Some.ensures.length c.if-id.true c.enter_behind.ensures.due (subst (λ z. EntersRun s new run after number spot (2 + z) wide.length) (sym size) (c.enter_behind.ensures.entered c.if-enter_behind.true))
