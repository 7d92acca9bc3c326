-- The texts of the text are texts of XML.
use Rattle.std.proofs.Common.{sym, subst}
use Rattle.repo_objects.specs.Objects.{HasObjectTexts}
use Rattle.drill.proofs.RepositoryTexts.{text_texts}
use Rattle.drill.proofs.built_in.add_text.Goals as goal

pub put-requires-clause-texts : goal.put-requires-clause-texts
put-requires-clause-texts c = subst HasObjectTexts (sym c.in_ok-object.ensures) text_texts
