use Rattle.markup.proofs.TokenLaw.{one_token}
use Rattle.markup.proofs.laws.one_token.Goals as goal

pub returns : goal.returns
returns c = one_token
