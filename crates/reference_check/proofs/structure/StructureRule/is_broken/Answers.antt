-- Each rule is asked by its own test.
use Rattle.reference_check.proofs.structure.StructureRule.is_broken.Goals as goal

pub returns-in-TagTwice : goal.returns-in-TagTwice
returns-in-TagTwice c = rw (c.in-TagTwice.is, ← c.elements-in-TagTwice.ensures) c.has_tag_twice.ensures
