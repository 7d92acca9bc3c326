use Rattle.data_types.specs.LeafAnswers.{leaf_of}
use Rattle.der_codec.proofs.Keeping.{grows_same, not_ok}
use Rattle.der_codec.proofs.contents.tell.Goals as goal

pub returns-in-Err-hold-clause-within : goal.returns-in-Err-hold-clause-within
returns-in-Err-hold-clause-within c = λ bytes h plain few prim leaf is. not_ok (c.in-Err-hold.ensures.within (leaf (leaf_of c.in-Ok.leaf) c.in-Ok.ensures.judged))

pub returns-in-Err-clause-grows : goal.returns-in-Err-clause-grows
returns-in-Err-clause-grows c = grows_same c.args.pieces.now
