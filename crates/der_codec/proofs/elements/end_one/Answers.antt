use Rattle.std.proofs.Common.{ap, ◌∙◌, ◌++◌, subst}
use Rattle.data_types.specs.Value.{Ends}
use Rattle.inst_pool.specs.Pieces.{edge_of, open_in}
use Rattle.der_model.specs.ShownPieces.{end_each}
use Rattle.der_codec.specs.inner.Elements.{edge_if}
use Rattle.der_codec.proofs.PiecesOpen.{on_ok_when, closed_open}
use Rattle.der_codec.specs.Reserved.{HoldsMore}
use Rattle.der_codec.proofs.Growing.{one_spare}
use Rattle.der_codec.proofs.elements.end_one.Goals as goal

pub returns-in-Some-clause-open : goal.returns-in-Some-clause-open
returns-in-Some-clause-open c = λ around e.
    let first = e ∙ ap (λ z. edge_if z ++ around) c.in-Some.is in
    let edge = edge_of c.in-Some.field-0 in
    on_ok_when c.close.result _ _ (c.close.ensures.ok edge around first) (λ is. ap open_in is ∙ closed_open c.args.builder.now.pieces edge around first)

pub returns-in-Some-clause-within : goal.returns-in-Some-clause-within
returns-in-Some-clause-within c = λ h. c.close.ensures.within (one_spare c.args.builder.now (Ends (edge_of c.in-Some.field-0)) (subst (λ z. HoldsMore c.args.builder.now (end_each (edge_if z))) c.in-Some.is h))
