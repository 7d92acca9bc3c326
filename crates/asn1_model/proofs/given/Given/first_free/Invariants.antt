-- All endings that were tried were given.
use Rattle.std.proofs.Common.{◌≡◌, ◌≤◌, ◌-◌, ℕ, List}
use Rattle.asn1_model.specs.Names.{first_free}
use Rattle.asn1_model.specs.inner.Given.{AreAllGiven, HasGivenNames}
use Rattle.asn1_model.proofs.given.Given.first_free.Given as goal

abbrev pub invariant-loop-ending : goal.invariant-loop-ending
invariant-loop-ending l = record {
  passed : (taken : List (List ℕ)) → HasGivenNames l.self taken → l.from ≤ l.to → first_free (l.to - l.from) taken l.name l.from ≡ first_free (l.to - l.ending) taken l.name l.ending;
  all : (taken : List (List ℕ)) → HasGivenNames l.self taken → AreAllGiven taken l.name l.from → AreAllGiven taken l.name l.ending;
}
