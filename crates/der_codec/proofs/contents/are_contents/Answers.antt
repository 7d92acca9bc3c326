use Rattle.data_types.specs.Leaf.{Bytes, Code}
use Rattle.der_model.specs.DerMessage.{der_message}
use Rattle.der_model.specs.Structures.{structure}
use Rattle.der_codec.proofs.ContentsJudged.{holds}
use Rattle.der_codec.proofs.contents.are_contents.Goals as goal

pub returns-in-Octets-clause-held : goal.returns-in-Octets-clause-held
returns-in-Octets-clause-held c = λ e of at.
    let m = der_message c.args.model.now in
    holds m (structure m of) c.args.octets.now (Bytes c.args.octets.now) (c.in-Octets.ensures of at)

pub returns-in-Code-clause-held : goal.returns-in-Code-clause-held
returns-in-Code-clause-held c = λ e of at.
    let m = der_message c.args.model.now in
    holds m (structure m of) c.args.octets.now (Code c.in-Code._place) (c.in-Code.ensures of at)
