use Rattle.markup.proofs.CharLemmas.{classes, same_test}
use Rattle.markup.proofs.characters.is_allowed.Goals as goal

pub returns : goal.returns
returns c = same_test _ _ _ c.is_xml_char.ensures (classes.xml c.args.c)
