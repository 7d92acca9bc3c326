use Rattle.xml_instances.proofs.ShownTrees.{pieces_are_shown}
use Rattle.xml_instances.proofs.laws.pieces_are_shown.Goals as goal

pub returns : goal.returns
returns c = pieces_are_shown c.characters_have_one_answer.ensures c.steps_are_words.ensures
