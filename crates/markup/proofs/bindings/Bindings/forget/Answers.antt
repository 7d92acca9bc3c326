-- One more declaration is closed.
use Rattle.std.proofs.Common.{drop, subst}
use Rattle.markup.specs.inner.Bindings.{Binds}
use Rattle.markup.proofs.BindingLemmas.{drop_more}
use Rattle.markup.proofs.bindings.Bindings.forget.Goals as goal

pub loop-closed-preserved : goal.loop-closed-preserved
loop-closed-preserved c declared is =
    subst (Binds c.forget_latest.new.self) (drop_more c.loop-closed._closed declared) (c.forget_latest.ensures (drop c.loop-closed._closed declared) (c.loop-closed.invariant declared is))
