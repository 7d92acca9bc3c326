-- Each step takes one trace from those that are left.
use Rattle.std.proofs.Common.{◌≡◌, ◌∙◌, sym, subst, Some, None, arith}
use Rattle.reference_check.specs.inner.Traces.{code_traced}
use Rattle.reference_check.proofs.Texts.{behind_own, behind_none, behind_trace, behind_last}
use Rattle.reference_check.proofs.code_texts.CodeTexts.text_of.Goals as goal

pub returns-in-Some-clause-text : goal.returns-in-Some-clause-text
returns-in-Some-clause-text c =
    sym (behind_own c.loop-trace._trace c.args.self.now.objects _ _ c.in-Some.text.now c.loop-trace-test.true (rw c.in-Some.is at c.own_text.ensures)) ∙ c.loop-trace.invariant.text

pub returns-in_default-2-clause-text : goal.returns-in_default-2-clause-text
returns-in_default-2-clause-text c =
    let own = rw c.in_default.is at c.own_text.ensures in
    let none : None ≡ code_traced c.loop-trace.self.objects c.loop-trace.code.now.name c.loop-trace.set.now.trace = rw c.in_default-2.is at c.in_ok-traced_set.ensures.traced in
    let same = subst (λ R. None ≡ code_traced R.objects c.loop-trace.code.now.name c.loop-trace.set.now.trace) c.loop-trace.invariant.stays none in
    sym (behind_none c.loop-trace._trace c.args.self.now.objects _ _ c.loop-trace-test.true own same) ∙ c.loop-trace.invariant.text

pub loop-trace-preserved : goal.loop-trace-preserved
loop-trace-preserved c =
    let own = rw c.in_default.is at c.own_text.ensures in
    let on : Some (c.in-Some-2.traced_set.now, c.in-Some-2.namesake.now) ≡ code_traced c.loop-trace.self.objects c.loop-trace.code.now.name c.loop-trace.set.now.trace =
    rw c.in-Some-2.is at c.in_ok-traced_set.ensures.traced in
    let same = subst (λ R. Some (c.in-Some-2.traced_set.now, c.in-Some-2.namesake.now) ≡ code_traced R.objects c.loop-trace.code.now.name c.loop-trace.set.now.trace) c.loop-trace.invariant.stays on in
    record {
      stays = c.in_ok-traced_set.ensures.stays ∙ c.loop-trace.invariant.stays;
      text = sym (behind_trace c.loop-trace._trace c.args.self.now.objects _ _ c.in-Some-2.traced_set.now c.in-Some-2.namesake.now c.loop-trace-test.true own same) ∙ c.loop-trace.invariant.text;
    }

pub returns-clause-text : goal.returns-clause-text
returns-clause-text c = c.own_text-2.ensures ∙ sym (behind_last c.loop-trace._trace c.args.self.now.objects _ _ (omega arith)) ∙ c.loop-trace.invariant.text
