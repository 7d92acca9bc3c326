-- The codes of the records so far are kept.
use Rattle.std.proofs.Common.{◌≡◌, ℕ, List, [], take}
use Rattle.code_sets.specs.Codes.{codes_for, once}
use Rattle.code_sets.specs.inner.Given.{codes_in}
use Rattle.code_sets.proofs.given.given_codes.Given as goal

abbrev pub invariant-loop-record : goal.invariant-loop-record
invariant-loop-record l = (name : List ℕ) → codes_in l.given name ≡ once [] (codes_for name (take l.record-index l.record-items))
