use Rattle.std.proofs.Common.{subst}
use Rattle.der_model.specs.ShownPieces.{begin_each}
use Rattle.der_codec.specs.Reserved.{HoldsMore}
use Rattle.der_codec.specs.inner.Elements.{edge_if}
use Rattle.der_codec.proofs.Growing.{holds_first, begun_each}
use Rattle.der_codec.proofs.elements.begin_elements.Goals as goal

pub returns-in-Err-clause-within : goal.returns-in-Err-clause-within
returns-in-Err-clause-within c = λ h. c.in-Err.ensures.within (holds_first c.args.builder.now (begin_each (edge_if c.args.begun.now.outer)) (begin_each (edge_if c.args.begun.now.inner)) (subst (HoldsMore c.args.builder.now) (begun_each c.args.begun.now.outer c.args.begun.now.inner) h))
