use Rattle.std.proofs.Common.{◌≡◌, ◌++◌, [], sym, ap, ◌∙◌, append-nil}
use Rattle.lexical_core.proofs.Lists.{none_left}
use Rattle.respell.specs.inner.RunBytes.{run_bytes}
use Rattle.respell.proofs.run_spelling.push_run.Goals as goal

pub loop-left-preserved : goal.loop-left-preserved
loop-left-preserved c = ap (λ l. c.push_part.new.text ++ run_bytes l) c.split_at.ensures.back ∙ (c.in_ok-count.ensures.pushed ∙ c.loop-left.invariant)

pub returns : goal.returns
returns c =
    let none : c.loop-left.left.now ≡ [] = none_left c.loop-left.left.now (sym c.is_empty.ensures ∙ c.loop-left-test.false) in
    sym (append-nil c.loop-left.text) ∙ (ap (λ l. c.loop-left.text ++ run_bytes l) (sym none) ∙ c.loop-left.invariant)
