use Rattle.der_codec.proofs.Growing.{one_spare, leaf_spare}
use Rattle.der_codec.proofs.elements.append.Goals as goal

pub returns-clause-within : goal.returns-clause-within
returns-clause-within c = λ h. c.leaf_from.ensures.within (one_spare c.args.builder.now _ h) (leaf_spare c.args.builder.now _ h)
