use Rattle.std.proofs.Common.{map}
use Rattle.lexical_core.specs.Tree.{Char}
use Rattle.xml_instances.proofs.KeptPieces.{inside_ok, kept_as}
use Rattle.xml_instances.proofs.pieces.Pieces.inside_run.Goals as goal

pub returns : goal.returns
returns c = rw (← c.self.view_is) (λ s count r h. inside_ok (kept_as c.self.inside.builder.pieces c.self.inside.element) s (map (λ c. Char c) r.characters) c.take_run.new.self c.take_run.result h (c.take_run.ensures.ok s.inside count r h.inside_are))
