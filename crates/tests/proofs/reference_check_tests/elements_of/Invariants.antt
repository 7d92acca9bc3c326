-- The texts of the elements so far are UTF-8 of characters of XML.
use Rattle.std.proofs.Common.{All}
use Rattle.repo_objects.specs.Objects.{HasElementTexts}
use Rattle.tests.proofs.reference_check_tests.elements_of.Given as goal

abbrev pub invariant-loop-part : goal.invariant-loop-part
invariant-loop-part l = All HasElementTexts l.elements
