use Rattle.data_types.specs.LeafAnswers.{leaf_of}
use Rattle.xml_instances.proofs.KeptPieces.{leaf_ok, kept_as}
use Rattle.xml_instances.proofs.pieces.Pieces.leaf.Goals as goal

pub returns : goal.returns
returns c = rw (← c.self.view_is) (λ s h. leaf_ok (kept_as c.self.inside.builder.pieces c.self.inside.element) s (leaf_of c.args.leaf.now) c.leaf_from.new.self.pieces c.leaf_from.result h c.leaf_from.ensures.ok)
