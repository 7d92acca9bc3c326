-- The bytes given are the front of those left, and those left then stand behind them.
use Rattle.std.proofs.Common.{ap, ◌∙◌, drop}
use Rattle.outside.proofs.Serving.{left_by_parts}
use Rattle.outside.proofs.steady.SteadySourceSource.pull.Goals as goal

pub returns-clause-bytes : goal.returns-clause-bytes
returns-clause-bytes c =
    left_by_parts _ _ _ _ _ _ (ap (λ v. v.left) c.self.view_is)
    (c.split_at.ensures.back ∙ ap (drop c.self.inside.given) c.as_slice.ensures.value)
    c.serve-count.ensures.bytes c.serve-count.ensures.end
