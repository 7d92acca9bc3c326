use Rattle.std.proofs.Common.{rules}
use Rattle.der_codec.specs.Moved.{IsWholeFrom}
use Rattle.der_codec.proofs.StepTies.{ok_always}
use Rattle.der_codec.proofs.checker.DerChecker.finish_pieces.Goals as goal

pub returns-in-Ok-clause-ok_from : goal.returns-in-Ok-clause-ok_from
returns-in-Ok-clause-ok_from c = λ base bytes h.
    ok_always c.instance.result (IsWholeFrom c.args.model.now base bytes) (c.in-Ok.ensures.ok_from base bytes (record { reading = h.reading; short = h.short; sound = search rules }))

pub returns-in-Err-clause-err_from : goal.returns-in-Err-clause-err_from
returns-in-Err-clause-err_from c = λ base bytes h. c.in-Err.ensures.err_from base bytes (record { reading = h.reading; short = h.short; sound = search rules })
