use Rattle.der_codec.proofs.reader.DerReader.finish.Goals as goal

pub returns-clause-ok : goal.returns-clause-ok
returns-clause-ok c = λ bytes h. c.finish_pieces.ensures.ok bytes h.given

pub returns-clause-err : goal.returns-clause-err
returns-clause-err c = λ bytes h. c.finish_pieces.ensures.err bytes h.given

pub returns-clause-ok_from : goal.returns-clause-ok_from
returns-clause-ok_from c = λ base bytes h. c.finish_pieces.ensures.ok_from base bytes h.given

pub returns-clause-err_from : goal.returns-clause-err_from
returns-clause-err_from c = λ base bytes h. c.finish_pieces.ensures.err_from base bytes h.given
