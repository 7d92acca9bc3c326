use Rattle.markup.proofs.Stays.{no_token_behind_all}
use Rattle.markup.proofs.laws.no_token_behind_all.Goals as goal

pub returns : goal.returns
returns c = no_token_behind_all
