use Rattle.std.proofs.Common.{sym, ap}
use Rattle.inst_pool.specs.Pieces.{open_in}
use Rattle.xml_instances.specs.Built.{type_at}
use Rattle.xml_instances.proofs.KeptPieces.{innermost_type, none_open}
use Rattle.xml_instances.proofs.pieces.Pieces.innermost.Goals as goal

pub returns-in-Some : goal.returns-in-Some
returns-in-Some c = rw (← c.self.view_is) (innermost_type c.in-Some.edge (open_in c.self.inside.builder.pieces) c.in-Some.ensures)

pub returns-in-None : goal.returns-in-None
returns-in-None c = rw (← c.self.view_is) (sym (ap type_at (none_open (open_in c.self.inside.builder.pieces) c.in-None.ensures)))
