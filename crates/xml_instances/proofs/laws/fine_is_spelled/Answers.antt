use Rattle.xml_instances.proofs.Whole.{fine_is_spelled}
use Rattle.xml_instances.proofs.laws.fine_is_spelled.Goals as goal

pub returns : goal.returns
returns c = fine_is_spelled c.what_is_spelled_fits.ensures c.steps_are_words.ensures c.whole_is_plain.ensures
