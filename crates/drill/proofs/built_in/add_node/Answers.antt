-- The texts of the node are texts of XML.
use Rattle.std.proofs.Common.{sym, subst}
use Rattle.repo_objects.specs.Objects.{HasObjectTexts}
use Rattle.drill.proofs.RepositoryTexts.{node_texts}
use Rattle.drill.proofs.built_in.add_node.Goals as goal

pub put-requires-clause-texts : goal.put-requires-clause-texts
put-requires-clause-texts c = subst HasObjectTexts (sym c.in_ok-object.ensures) node_texts
