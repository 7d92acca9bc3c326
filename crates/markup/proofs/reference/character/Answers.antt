use Rattle.markup.proofs.CharLemmas.{not_scalar}
use Rattle.markup.proofs.reference.character.Goals as goal

pub returns-in-None : goal.returns-in-None
returns-in-None c = not_scalar c.args.number c.in-None.ensures.value
