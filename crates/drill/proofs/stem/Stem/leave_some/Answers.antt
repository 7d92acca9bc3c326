use Rattle.std.proofs.Common.{ap, sym, subst, ◌∙◌, ◌≡◌, suc, ◌+◌, arith}
use Rattle.drill.specs.Growing.{path_after}
use Rattle.drill.specs.inner.PathPieces.{HasPath}
use Rattle.drill.proofs.PathLemmas.{left_last}
use Rattle.drill.proofs.stem.Stem.leave_some.Goals as goal

pub loop-i-preserved : goal.loop-i-preserved
loop-i-preserved c = λ p h.
    let one : c.loop-i.i + 1 ≡ suc c.loop-i.i = omega arith in
    subst (λ q. HasPath q c.leave.new.self) (sym (ap (λ n. path_after n p) one ∙ left_last c.loop-i.i p)) (c.in_default.ensures (path_after c.loop-i.i p) (c.loop-i.invariant p h))
