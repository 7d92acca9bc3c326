use Rattle.std.proofs.Common.{rules}
use Rattle.der_codec.proofs.checker.DerChecker.finish.Goals as goal

pub returns-clause-ok_from : goal.returns-clause-ok_from
returns-clause-ok_from c = λ base bytes h. c.finish_all.ensures.ok_from base bytes (record { reading = h.reading; short = h.short; sound = search rules })

pub returns-clause-err_from : goal.returns-clause-err_from
returns-clause-err_from c = λ base bytes h. c.finish_all.ensures.err_from base bytes (record { reading = h.reading; short = h.short; sound = search rules })
