-- Each step takes one trace from those that are left.
use Rattle.std.proofs.Common.{◌≡◌, ◌∙◌, sym, ap, Some, None, arith}
use Rattle.std.specs.Option.{option_map}
use Rattle.reference_check.specs.inner.Traces.{code_traced}
use Rattle.reference_check.proofs.Texts.{behind_own, behind_none, behind_trace, behind_last}
use Rattle.reference_check.proofs.code_texts.text_of.Goals as goal

pub returns-in-Some : goal.returns-in-Some
returns-in-Some c =
    sym (behind_own c.loop-trace._trace _ _ _ c.in-Some.text.now c.loop-trace-test.true (rw c.in-Some.is at c.own_text.ensures)) ∙ c.loop-trace.invariant

pub returns-in_err-traced_set : goal.returns-in_err-traced_set
returns-in_err-traced_set c =
    let own = rw c.in_default.is at c.own_text.ensures in
    let none : None ≡ code_traced c.args.repository.now.objects c.loop-trace.code.now.name c.loop-trace.set.now.trace = rw c.in_err-traced_set.was at c.traced.ensures in
    ap (option_map (λ t. t.now)) c.from_residual.ensures ∙ sym (behind_none c.loop-trace._trace _ _ _ c.loop-trace-test.true own none) ∙ c.loop-trace.invariant

pub loop-trace-preserved : goal.loop-trace-preserved
loop-trace-preserved c =
    let own = rw c.in_default.is at c.own_text.ensures in
    let on : Some (c.in_ok-traced_set.traced_set.now, c.in_ok-traced_set.namesake.now) ≡ code_traced c.args.repository.now.objects c.loop-trace.code.now.name c.loop-trace.set.now.trace = rw c.in_ok-traced_set.was at c.traced.ensures in
    sym (behind_trace c.loop-trace._trace _ _ _ c.in_ok-traced_set.traced_set.now c.in_ok-traced_set.namesake.now c.loop-trace-test.true own on) ∙ c.loop-trace.invariant

pub returns : goal.returns
returns c = c.own_text-2.ensures ∙ sym (behind_last c.loop-trace._trace _ _ _ (omega arith)) ∙ c.loop-trace.invariant
