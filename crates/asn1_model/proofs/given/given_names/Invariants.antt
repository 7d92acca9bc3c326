-- The names so far were given, and those to come follow behind them.
use Rattle.std.proofs.Common.{◌≡◌, ◌++◌, ℕ, List, length, drop}
use Rattle.asn1_model.specs.Names.{given_names, given_after}
use Rattle.asn1_model.specs.inner.Given.{HasGivenNames}
use Rattle.asn1_model.proofs.given.given_names.Given as goal

abbrev pub invariant-loop-at : goal.invariant-loop-at
invariant-loop-at l = (taken : List (List ℕ)) × (HasGivenNames l.given taken × (l.at ≡ length taken) × (given_names l.names ≡ l.all ++ given_after taken (drop l.at l.names)))
