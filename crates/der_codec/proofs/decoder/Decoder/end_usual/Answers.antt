use Rattle.std.proofs.Common.{sym, subst}
use Rattle.der_model.specs.DerMessage.{der_message}
use Rattle.der_codec.specs.Decoding.{IsFresh}
use Rattle.der_codec.proofs.Runs.{run_below}
use Rattle.der_codec.proofs.decoder.Decoder.end_usual.Goals as goal

pub returns-then-not-ends-clause-low : goal.returns-then-not-ends-clause-low
returns-then-not-ends-clause-low c = λ is bytes r.
    let i = c.loop-ends.invariant in
    let other = c.if-not-ends.true in
    run_below (der_message c.args.model.now) c.loop-ends.self c.loop-ends.run bytes (i.1 bytes r) (subst IsFresh (sym i.0) c.requires.fresh) other
