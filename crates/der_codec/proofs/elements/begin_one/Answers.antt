use Rattle.std.proofs.Common.{subst}
use Rattle.data_types.specs.Value.{Begins}
use Rattle.inst_pool.specs.Pieces.{edge_of}
use Rattle.der_model.specs.ShownPieces.{begin_each}
use Rattle.der_codec.specs.Reserved.{HoldsMore}
use Rattle.der_codec.specs.inner.Elements.{edge_if}
use Rattle.der_codec.proofs.Growing.{one_spare}
use Rattle.der_codec.proofs.elements.begin_one.Goals as goal

pub returns-in-Some-clause-within : goal.returns-in-Some-clause-within
returns-in-Some-clause-within c = λ h. c.begin.ensures.within (one_spare c.args.builder.now (Begins (edge_of c.in-Some.edge)) (subst (λ z. HoldsMore c.args.builder.now (begin_each (edge_if z))) c.in-Some.is h))
