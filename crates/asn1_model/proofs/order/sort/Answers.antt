-- The sort is stable, and compares by names.
use Rattle.std.proofs.Common.{rules}
use Rattle.asn1_model.proofs.SortedTypes.{sorted_names}
use Rattle.asn1_model.proofs.order.sort.Goals as goal

pub returns : goal.returns
returns c = sorted_names c.args.types.now.items c.sort_by.new.self.items c.in_ok-sort_by.ensures.sorted c.in_ok-sort_by.ensures.stable (λ a r q k. search rules)
