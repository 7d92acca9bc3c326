-- What is not usual is put after all.
use Rattle.std.proofs.Common.{◌++◌, ap, ◌∙◌}
use Rattle.inst_pool.specs.Pieces.{piece_of}
use Rattle.xml_writer.proofs.pieces.put_at.Goals as goal

pub put_unusual-requires : goal.put_unusual-requires
put_unusual-requires c = (piece_of c.args.piece.now, c.requires.text.0, c.requires.piece, c.requires.text.1)

pub returns-clause-put : goal.returns-clause-put
returns-clause-put c = λ yes bytes w.
    c.put_unusual.ensures.put yes (piece_of c.args.piece.now) bytes c.requires.piece w ∙ ap (λ t. t ++ bytes) (c.put_usual.ensures.kept c.if-put_usual.false)

pub returns-clause-kept : goal.returns-clause-kept
returns-clause-kept c = λ no. c.put_unusual.ensures.kept no ∙ c.put_usual.ensures.kept c.if-put_usual.false
