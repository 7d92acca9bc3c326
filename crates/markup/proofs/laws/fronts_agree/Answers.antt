use Rattle.std.proofs.Common.{[]}
use Rattle.markup.proofs.TokenLaw.{fronts_agree}
use Rattle.markup.proofs.laws.fronts_agree.Goals as goal

pub returns : goal.returns
returns c = λ limit bytes ts us x y f g. fronts_agree limit [] bytes ts us x y f g
