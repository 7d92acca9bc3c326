use Rattle.markup.proofs.CharLemmas.{classes, same_test}
use Rattle.markup.proofs.characters.continues_name.Goals as goal

pub returns : goal.returns
returns c = same_test _ _ _ c.is_name_char.ensures (classes.name c.args.c)
