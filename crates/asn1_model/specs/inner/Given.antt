-- What is kept of the names that were given.
use Rattle.std.specs.Prelude.{◌≡◌, ℕ, ◌<◌, ◌≤◌, true, List, Option, Some, is_some, length}
use Rattle.std.specs.Global.{Vec}
use Rattle.std.specs.BTreeMap.{BTreeMap, get_by}
use Rattle.std.specs.Cmp.Lexicographic.{slice_cmp}
use Rattle.std.specs.Ordering.{nat_cmp}
use Rattle.asn1_model.specs.declared.given.Given.{Given}
use Rattle.asn1_model.specs.Names.{is_name_among, candidate}

-- the next ending to try with the name
abbrev pub ending_of : BTreeMap (Vec ℕ) ℕ → List ℕ → Option ℕ
ending_of endings name = get_by (λ k. slice_cmp nat_cmp name k.items) endings

-- the name with each ending below this one was given
abbrev pub AreAllGiven : List (List ℕ) → List ℕ → ℕ → Type 0
AreAllGiven taken name k = (j : ℕ) → j < k → is_name_among taken (candidate name j) ≡ true

-- These names were given, the latest first.
pub record HasGivenNames (given : Given) (taken : List (List ℕ)) : Type 0 where
  pub kept : (name : List ℕ) → is_some (ending_of given.endings name) ≡ is_name_among taken name
  pub short : (name : List ℕ) (k : ℕ) → ending_of given.endings name ≡ Some k → k ≤ length taken
  pub below : (name : List ℕ) (k : ℕ) → ending_of given.endings name ≡ Some k → AreAllGiven taken name k
