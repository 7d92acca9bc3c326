use Rattle.markup.proofs.CharLemmas.{classes}
use Rattle.markup.proofs.laws.characters.Goals as goal

pub returns : goal.returns
returns c = classes
