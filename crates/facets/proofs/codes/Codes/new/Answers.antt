use Rattle.std.proofs.Common.{◌≡◌, [], rules, refl}
use Rattle.facets.proofs.CodeLemmas.{sorted_none}
use Rattle.facets.proofs.codes.Codes.new.Goals as goal

pub invariant_of-result : goal.invariant_of-result
invariant_of-result c =
    let none : c.new.result.items ≡ [] = search rules in
    rw none (sorted_none, refl)
