-- The last declaration is no more in the order.
use Rattle.std.proofs.Common.{◌≡◌, true, false, rules}
use Rattle.markup.proofs.RankLemmas.{ranked_less, ranked_unlike}
use Rattle.markup.proofs.open_bindings.OpenBindings.pop.Goals as goal

pub invariant_of-self-then-is_at : goal.invariant_of-self-then-is_at
invariant_of-self-then-is_at c =
    ranked_less c.pop.new.self.items c.self.inside.kept.items c.in-Some.last c.take_out.new.order.items c.len-place.result (c.take_out.ensures c.self.inside.kept.items c.self.invariant) c.in-Some.ensures.items (search rules)

pub invariant_of-self-else-is_at : goal.invariant_of-self-else-is_at
invariant_of-self-else-is_at c =
    ranked_unlike c.pop.new.self.items c.self.inside.kept.items c.in-Some.last c.self.inside.order.items c.len-place.result c.self.invariant c.in-Some.ensures.items (search rules) (λ said. let at : c.is_at.result ≡ true = c.is_at.ensures.1 said in let off : c.is_at.result ≡ false = c.if-is_at.false in absurd cc)
