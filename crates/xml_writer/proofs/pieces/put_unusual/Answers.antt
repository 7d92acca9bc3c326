-- The piece is the one at the place.
use Rattle.std.proofs.Common.{sym}
use Rattle.inst_pool.specs.Pieces.{piece_of}
use Rattle.message_model.specs.Tables.{types_of}
use Rattle.xml_writer.proofs.Putting.{found_writes, found_puts}
use Rattle.xml_writer.proofs.pieces.put_unusual.Goals as goal

pub put_piece-requires-clause-text : goal.put_piece-requires-clause-text
put_piece-requires-clause-text c =
    found_writes (types_of c.args.model.now) c.args.innermost c.args.instance.now.region.pieces c.args.at (piece_of c.in-Some.piece) (sym c.in-Some.ensures) c.requires

pub returns-clause-put : goal.returns-clause-put
returns-clause-put c = λ yes.
    found_puts (types_of c.args.model.now) c.args.innermost c.args.instance.now.region.pieces c.args.at (piece_of c.in-Some.piece) (sym c.in-Some.ensures)
    c.args.buffer.now c.put_piece.new.buffer (c.put_piece.ensures.put yes)
