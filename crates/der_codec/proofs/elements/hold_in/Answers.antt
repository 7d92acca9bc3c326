use Rattle.std.proofs.Common.{◌++◌, ◌∷◌, [], subst}
use Rattle.data_types.specs.LeafAnswers.{leaf_of}
use Rattle.data_types.specs.Value.{Holds}
use Rattle.inst_pool.specs.Pieces.{edge_of}
use Rattle.der_model.specs.ShownPieces.{begin_each, end_each}
use Rattle.der_codec.specs.Reserved.{HoldsMore}
use Rattle.der_codec.specs.inner.Elements.{edge_if}
use Rattle.der_codec.proofs.Growing.{within_spare, within_leaf_spare}
use Rattle.der_codec.proofs.elements.hold_in.Goals as goal

pub returns-in-Some-clause-within : goal.returns-in-Some-clause-within
returns-in-Some-clause-within c = λ h.
    let b = c.args.builder.now in
    let leaf = leaf_of c.args.leaf.now in
    let more = subst (λ z. HoldsMore b (begin_each (edge_if z) ++ Holds leaf ∷ end_each (edge_if z))) c.in-Some.is h in
    c.leaf_within.ensures.within (within_spare b (edge_of c.in-Some.edge) leaf more) (within_leaf_spare b (edge_of c.in-Some.edge) leaf more)
