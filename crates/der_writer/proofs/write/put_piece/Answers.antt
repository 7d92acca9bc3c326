-- What is written there went into the buffer.
use Rattle.message_model.specs.Tables.{types_of}
use Rattle.der_writer.proofs.Putting.{put_one}
use Rattle.der_writer.proofs.write.put_piece.Goals as goal

pub returns-in-Ok-clause-put : goal.returns-in-Ok-clause-put
returns-in-Ok-clause-put c = put_one (types_of c.args.model.now) c.args.instance.now c.args.place c.in-Ok.behind c.args.buffer.now c.push_piece.new.sink c.requires.at c.in-Ok.ensures.behind c.in-Ok.ensures.pushed.appends
