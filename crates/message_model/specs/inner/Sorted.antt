-- The texts of a set in memory.
use Rattle.std.specs.Prelude.{ℕ, List, map, Vec}
use Rattle.std.specs.BTreeSet.{BTreeSet}
use Rattle.std.specs.declared.alloc.Global.{Global}

-- the texts of the set, in its order
abbrev pub texts_in : BTreeSet (Vec ℕ Global) → List (List ℕ)
texts_in s = map (λ (v : Vec ℕ Global). v.items) s.keys
