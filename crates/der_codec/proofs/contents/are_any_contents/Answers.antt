use Rattle.data_types.specs.LeafAnswers.{leaf_of}
use Rattle.der_model.specs.DerMessage.{der_message}
use Rattle.der_model.specs.Structures.{structure}
use Rattle.der_codec.proofs.ContentsJudged.{holds}
use Rattle.der_codec.proofs.contents.are_any_contents.Goals as goal

pub returns-in-Ok-clause-held : goal.returns-in-Ok-clause-held
returns-in-Ok-clause-held c = λ e of at.
    let m = der_message c.args.model.now in
    holds m (structure m of) c.args.octets.now (leaf_of c.in-Ok._leaf) (c.in-Ok.ensures.judged of at)
