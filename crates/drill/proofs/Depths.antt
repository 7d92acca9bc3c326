-- How many nodes are open at most.
use Rattle.std.proofs.Common.{ℕ, zero, suc, ◌+◌, ◌%◌, ◌≤◌, List, [], ◌∷◌, length, arith}
use Rattle.rand_pcg.specs.Lcg.{Lcg}
use Rattle.rand_pcg.specs.Pcg.{pcg32}
use Rattle.drill.specs.Growing.{OpenNode, Path, path_outside_from, path_outside, path_after, path_depth, growth_of}
use Rattle.drill.specs.inner.PathPieces.{HasPath, HasGrown}
use Rattle.drill.specs.declared.stem.Stem.{Stem}
use Rattle.drill.specs.declared.growing.Sprout.{Sprout}

left_outers : (inner : OpenNode) (outers : List OpenNode) → length (path_outside_from inner outers).outers ≤ length outers
left_outers inner [] = omega arith
left_outers inner (outer ∷ outers) = omega arith

left_depth : (n : ℕ) (p : Path) → path_depth (path_after n p) ≤ path_depth p
left_depth zero p = omega arith
left_depth (suc n) p = let one = left_outers p.inner p.outers in let more = left_depth n (path_outside p) in omega (arith, one, more)

-- after so many are left no more are open than before
pub stem_shorter : (n : ℕ) (p : Path) (s t : Stem) → HasPath p s → HasPath (path_after n p) t → t.depth ≤ s.depth
stem_shorter n p s t h g = let less = left_depth n p in let d = h.depth in let e = g.depth in omega (arith, less, d, e)

grown_depth : (n : ℕ) (generator : Lcg) → path_depth (growth_of n generator).path ≤ n + 1
grown_depth zero generator = omega arith
grown_depth (suc n) generator =
    let before = grown_depth n generator in
    let less = left_depth ((pcg32 (growth_of n generator).generator).0 % 3) (growth_of n generator).path in
    omega (arith, before, less)

pub sprout_depth : (n : ℕ) (generator : Lcg) (s : Sprout) → HasGrown (growth_of n generator) s → s.stem.depth ≤ n + 1
sprout_depth n generator s h = let d = h.path.depth in let most = grown_depth n generator in omega (arith, d, most)
