-- Two ranks stand as the namespaces do.
use Rattle.markup.proofs.RankLemmas.{ranks_tell}
use Rattle.markup.proofs.open_bindings.OpenBindings.ranked_cmp.Goals as goal

pub returns : goal.returns
returns c =
    ranks_tell c.self.inside.kept.items c.self.inside.order.items c.args.self.now c.self.invariant c.self.view_is c.args.left c.args.right c.in_ok-lower.lower c.in_ok-upper.upper c.cmp.result
    (rw (c.deref.ensures.value, c.deref-2.ensures.value) at c.in_ok-lower.ensures) (rw (c.deref-4.ensures.value, c.deref-5.ensures.value) at c.in_ok-upper.ensures) c.cmp.ensures
