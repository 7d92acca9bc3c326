use Rattle.data_types.specs.LeafAnswers.{leaf_of}
use Rattle.der_model.specs.DerMessage.{der_message}
use Rattle.der_model.specs.Structures.{structure}
use Rattle.der_codec.proofs.ContentsJudged.{holds}
use Rattle.der_codec.proofs.Keeping.{grows_same}
use Rattle.der_codec.proofs.contents.tell_any_last.Goals as goal

pub returns-in-Ok-hold_last-clause-held : goal.returns-in-Ok-hold_last-clause-held
returns-in-Ok-hold_last-clause-held c = λ e of at.
    let m = der_message c.args.model.now in
    holds m (structure m of) c.args.octets.now (leaf_of c.in-Ok.leaf) (c.in-Ok.ensures.judged of at)

pub returns-in-Ok-hold_last-clause-shown : goal.returns-in-Ok-hold_last-clause-shown
returns-in-Ok-hold_last-clause-shown c = λ e. (leaf_of c.in-Ok.leaf, c.in-Ok.ensures.judged, c.in-Ok-hold_last.ensures.held)

pub returns-in-Err-hold_last-clause-within : goal.returns-in-Err-hold_last-clause-within
returns-in-Err-hold_last-clause-within c = λ h. c.in-Err-hold_last.ensures.within (h (leaf_of c.in-Ok.leaf) c.in-Ok.ensures.judged)

pub returns-in-Err-clause-grows : goal.returns-in-Err-clause-grows
returns-in-Err-clause-grows c = grows_same c.args.pieces.now
