use Rattle.inst_pool.specs.Pieces.{edge_of, open_in}
use Rattle.xml_instances.proofs.KeptPieces.{some_open, none_open}
use Rattle.xml_instances.proofs.pieces.Pieces.is_closed.Goals as goal

pub returns-in-Some-clause-open : goal.returns-in-Some-clause-open
returns-in-Some-clause-open c = rw (← c.self.view_is) (λ e. some_open (edge_of c.in-Some.field-0) (open_in c.self.inside.builder.pieces) c.in-Some.ensures)

pub returns-in-None-clause-closed : goal.returns-in-None-clause-closed
returns-in-None-clause-closed c = rw (← c.self.view_is) (λ e. none_open (open_in c.self.inside.builder.pieces) c.in-None.ensures)
