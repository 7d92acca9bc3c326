use Rattle.std.proofs.Common.{ℕ, Option, subst}
use Rattle.data_types.specs.Limits.{IsCount}
use Rattle.facets.proofs.lengths.check_count.Goals as goal

pub returns-in-None : goal.returns-in-None
returns-in-None c = λ n past. c.check_past.ensures n (subst (λ (o : Option ℕ). IsCount o n) c.in-None.is past)
