use Rattle.std.proofs.Common.{true, List, length, ℕ, sym, ap, ◌∙◌}
use Rattle.std.specs.Prelude.{◌==◌}
use Rattle.std.proofs.lemmas.Bool.{true≢false, not-true}
use Rattle.respell.proofs.TakenTags.{innermost_default}
use Rattle.respell.proofs.respell.Respell.is_in_default.Goals as goal

pub returns-then-not-self : goal.returns-then-not-self
returns-then-not-self c forgotten items h some =
    innermost_default c.args.self.now forgotten items h c.if-not-self.true
    (λ e. true≢false (sym (sym (not-true c.is_empty.result some) ∙ (c.is_empty.ensures ∙ ap (λ n. n == 0) (ap (λ (l : List (List ℕ)). length l) c.as_slice.ensures.value ∙ e)))))
