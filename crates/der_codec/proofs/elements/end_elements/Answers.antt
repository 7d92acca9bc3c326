use Rattle.std.proofs.Common.{subst}
use Rattle.der_model.specs.ShownPieces.{end_each}
use Rattle.der_codec.specs.Reserved.{HoldsMore}
use Rattle.der_codec.specs.inner.Elements.{edge_if}
use Rattle.der_codec.proofs.Growing.{holds_first, ended_each}
use Rattle.der_codec.proofs.elements.end_elements.Goals as goal

pub returns-in-Err-clause-within : goal.returns-in-Err-clause-within
returns-in-Err-clause-within c = λ h. c.in-Err.ensures.within (holds_first c.args.builder.now (end_each (edge_if c.args.ended.now.inner)) (end_each (edge_if c.args.ended.now.outer)) (subst (HoldsMore c.args.builder.now) (ended_each c.args.ended.now.outer c.args.ended.now.inner) h))
