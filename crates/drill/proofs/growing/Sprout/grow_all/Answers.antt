use Rattle.std.proofs.Common.{◌≡◌, ◌+◌, suc, arith, subst, sym}
use Rattle.drill.specs.Growing.{growth_of, next_growth}
use Rattle.drill.specs.inner.PathPieces.{HasGrown}
use Rattle.drill.proofs.Depths.{sprout_depth}
use Rattle.drill.proofs.growing.Sprout.grow_all.Goals as goal

pub grow_one-requires-clause-grown : goal.grow_one-requires-clause-grown
grow_one-requires-clause-grown c = (growth_of c.loop-i.i c.requires.sown.0, c.loop-i.invariant c.requires.sown.0 c.requires.sown.1)

pub grow_one-requires-clause-room : goal.grow_one-requires-clause-room
grow_one-requires-clause-room c =
    let generator = c.requires.sown.0 in
    let most = sprout_depth c.loop-i.i generator c.loop-i.self (c.loop-i.invariant generator c.requires.sown.1) in
    omega (arith, most)

pub loop-i-preserved : goal.loop-i-preserved
loop-i-preserved c = λ generator h.
    let one : c.loop-i.i + 1 ≡ suc c.loop-i.i = omega arith in
    let g = growth_of c.loop-i.i generator in
    let next : HasGrown (next_growth (c.loop-i.i + 1) g) c.grow_one.new.self = c.in_default.ensures g (c.loop-i.invariant generator h) in
    subst (λ n. HasGrown (growth_of n generator) c.grow_one.new.self) (sym one) (subst (λ n. HasGrown (next_growth n g) c.grow_one.new.self) one next)
