use Rattle.std.proofs.Common.{[], arith}
use Rattle.der_codec.proofs.Keeping.{not_ok}
use Rattle.der_codec.proofs.checks.told_by.Goals as goal

pub finish-requires : goal.finish-requires
finish-requires c = (c.requires.run.chars, c.in-Ok.ensures.ok c.requires.run [] c.restart.ensures.taken)

pub returns-in-Ok-finish-clause-made : goal.returns-in-Ok-finish-clause-made
returns-in-Ok-finish-clause-made c = (c.requires.run.chars, c.in-Ok.ensures.ok c.requires.run [] c.restart.ensures.taken)

pub returns-in-Ok-finish-clause-told : goal.returns-in-Ok-finish-clause-told
returns-in-Ok-finish-clause-told c = λ r. c.in-Ok-finish.ensures r.chars (c.in-Ok.ensures.ok r [] c.restart.ensures.taken)

pub returns-in-Err-finish-clause-made : goal.returns-in-Err-finish-clause-made
returns-in-Err-finish-clause-made c = (c.requires.run.chars, c.in-Ok.ensures.ok c.requires.run [] c.restart.ensures.taken)

pub returns-in-Err-finish-clause-told : goal.returns-in-Err-finish-clause-told
returns-in-Err-finish-clause-told c = λ r. c.in-Err-finish.ensures r.chars (c.in-Ok.ensures.ok r [] c.restart.ensures.taken)

pub returns-in-Err-clause-within : goal.returns-in-Err-clause-within
returns-in-Err-clause-within c = λ few e. not_ok (c.in-Err.ensures.within (let same = c.restart.ensures.spare in omega (arith, few, same)))
