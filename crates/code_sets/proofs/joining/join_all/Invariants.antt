-- The entries so far have their codes, and the others are as they were.
use Rattle.std.proofs.Common.{◌≡◌}
use Rattle.code_sets.specs.inner.Given.{codes_in, given_entry}
use Rattle.code_sets.proofs.JoinLemmas.{joined_front}
use Rattle.code_sets.proofs.joining.join_all.Given as goal

abbrev pub invariant-loop-at : goal.invariant-loop-at
invariant-loop-at l = l.repository ≡ record l.fn.repository { objects = joined_front (given_entry (codes_in l.given)) l.fn.repository.objects l.at }
