use Rattle.der_codec.proofs.envelopes.fragments_apart.Goals as goal

pub returns : goal.returns
returns c = c.one_tree.ensures
