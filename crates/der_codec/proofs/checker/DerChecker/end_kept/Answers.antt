use Rattle.std.proofs.Common.{refl, sym, subst, ◌∙◌}
use Rattle.der_model.specs.DerMessage.{der_message}
use Rattle.der_codec.specs.Decoding.{IsFresh}
use Rattle.der_codec.proofs.Keeping.{enough_then}
use Rattle.der_codec.proofs.KeptRuns.{run_reads, stays_same, stays_then}
use Rattle.der_codec.proofs.Runs.{run_below}
use Rattle.der_codec.proofs.checker.DerChecker.end_kept.Goals as goal

pub loop-ends-init : goal.loop-ends-init
loop-ends-init c = (λ bytes k. k, refl, c.requires.some, refl, stays_same c.args.model.now c.args.self.now)

pub end_within-requires-clause-fresh : goal.end_within-requires-clause-fresh
end_within-requires-clause-fresh c = subst IsFresh (sym c.loop-ends.invariant.4.due) c.requires.fresh

pub end_within-requires-clause-given : goal.end_within-requires-clause-given
end_within-requires-clause-given c = (let g = c.requires.given in (g.0, c.loop-ends.invariant.0 g.0 g.1))

pub returns-then-not-ends-clause-low : goal.returns-then-not-ends-clause-low
returns-then-not-ends-clause-low c = λ awaited.
    let g = c.requires.given in
    let i = c.loop-ends.invariant in
    let m = der_message c.args.model.now in
    let s = c.loop-ends.self in
    run_below m s.decoder c.loop-ends.run g.0 (run_reads m s.decoder c.loop-ends.run g.0 i.2 (i.0 g.0 g.1).0) (subst IsFresh (sym i.4.due) c.requires.fresh) c.if-not-ends.true

pub returns-in-Err-clause-stays : goal.returns-in-Err-clause-stays
returns-in-Err-clause-stays c = stays_then c.args.model.now c.args.self.now c.loop-ends.self c.end_within.new.self c.loop-ends.invariant.4 c.in-Err.ensures.stays

pub returns-then-not-ended-clause-stays : goal.returns-then-not-ended-clause-stays
returns-then-not-ended-clause-stays c = stays_then c.args.model.now c.args.self.now c.loop-ends.self c.end_within.new.self c.loop-ends.invariant.4 c.in-Ok.ensures.stays

pub returns-in-Err-clause-memory : goal.returns-in-Err-clause-memory
returns-in-Err-clause-memory c = λ bytes k enough.
    let i = c.loop-ends.invariant in
    c.in-Err.ensures.memory bytes (i.0 bytes k) (enough_then c.args.model.now c.args.self.now c.loop-ends.self bytes bytes refl i.4.keeps i.4.room enough)

pub loop-ends-preserved : goal.loop-ends-preserved
loop-ends-preserved c =
    let i = c.loop-ends.invariant in
    let h = c.in-Ok.ensures in
    (λ bytes k. h.ok bytes (i.0 bytes k), h.place ∙ i.1, h.open, h.checks ∙ i.3, stays_then c.args.model.now c.args.self.now c.loop-ends.self c.end_within.new.self i.4 h.stays)
