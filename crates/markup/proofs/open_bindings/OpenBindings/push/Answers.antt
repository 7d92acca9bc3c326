-- A short namespace is not put into the order.
use Rattle.std.proofs.Common.{None, refl}
use Rattle.markup.specs.declared.open_bindings.Kept.{Kept}
use Rattle.markup.proofs.RankLemmas.{ranked_short}
use Rattle.markup.proofs.open_bindings.OpenBindings.push.Goals as goal

pub invariant_of-self-then-not-is_long : goal.invariant_of-self-then-not-is_long
invariant_of-self-then-not-is_long c =
    let last : Kept = record { binding = c.args.binding; like = None } in
    ranked_short c.self.inside.kept.items c.push.new.self.items last c.self.inside.order.items c.self.invariant c.in_ok-push.ensures.items refl
