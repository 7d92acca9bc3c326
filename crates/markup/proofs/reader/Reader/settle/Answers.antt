use Rattle.std.proofs.Common.{◌<◌, ◌^◌, sym, subst}
use Rattle.markup.specs.inner.Inputs.{settled_events}
use Rattle.markup.specs.EventItems.{Tells, TellsFront}
use Rattle.markup.proofs.ResultLemmas.{on_ok_both, on_err_if}
use Rattle.markup.proofs.ReaderLemmas.{start_below, settle_ok, settle_err}
use Rattle.markup.proofs.reader.Reader.settle.Goals as goal

pub returns-clause-ok : goal.returns-clause-ok
returns-clause-ok c limit bytes told h = on_ok_both c.settle.result _ _ _
    (λ i t _. settle_ok c.args.self.now bytes h.0 told c.settle-settled.new.self c.settle.new.self c.args.byte c.settle-settled.result c.args.out.now c.settle.new.out h.1 c.settle-settled.ensures.settles c.settle-settled.ensures.place i
    (subst (λ v. Tells c.args.out.now c.settle.new.out (settled_events v c.settle-settled.result)) c.start-place.ensures t))
    (c.settle.ensures.ok h.0 h.1.context)
    (c.settle.ensures.tells (subst (λ v. v < 2 ^ 40) (sym c.start-place.ensures) (start_below c.args.self.now bytes h.0 told h.1 c.requires)))

pub returns-clause-err : goal.returns-clause-err
returns-clause-err c limit bytes told h = on_err_if c.settle.result _ _
    (λ t _. settle_err c.args.self.now bytes h.0 told c.settle-settled.new.self c.settle.new.self c.args.byte c.settle-settled.result c.args.out.now c.settle.new.out h.1 c.settle-settled.ensures.settles
    (subst (λ v. TellsFront c.args.out.now c.settle.new.out (settled_events v c.settle-settled.result)) c.start-place.ensures t))
    (c.settle.ensures.err (subst (λ v. v < 2 ^ 40) (sym c.start-place.ensures) (start_below c.args.self.now bytes h.0 told h.1 c.requires)))
