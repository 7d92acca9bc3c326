use Rattle.der_model.specs.DerMessage.{der_message}
use Rattle.der_codec.proofs.CutSpots.{leaf_held}
use Rattle.der_codec.proofs.limits.shorten.Goals as goal

pub returns-in-Some-clause-kept : goal.returns-in-Some-clause-kept
returns-in-Some-clause-kept c =
    leaf_held (der_message c.args.model.now) c.args.spot c.in-Some.simple.now c.shorten_leaf.new.kept.items c.args.kept.now.items c.in-Some.ensures.some c.shorten_leaf.ensures.kept
