use Rattle.der_model.proofs.SomeContents.{some_contents}
use Rattle.der_model.proofs.laws.some_contents.Goals as goal

pub returns : goal.returns
returns c = some_contents
