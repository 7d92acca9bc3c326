use Rattle.std.proofs.Common.{[]}
use Rattle.xml_instances.proofs.pieces.Pieces.is_in_default.Goals as goal

pub returns : goal.returns
returns c = rw (← c.self.view_is) (λ met s h. c.is_in_default.ensures [] s.inside h.inside_are met)
