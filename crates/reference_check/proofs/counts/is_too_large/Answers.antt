-- Its codes decide where nothing else is too large.
use Rattle.std.proofs.Common.{true≢false, sym}
use Rattle.reference_check.proofs.Sizes.{result_decides}
use Rattle.reference_check.proofs.counts.is_too_large.Goals as goal

pub returns-clause-large : goal.returns-clause-large
returns-clause-large c = result_decides c.args.texts.now c.args.object.now c.has_long_code.result (λ long. true≢false (sym (c.if-is_too_long.ensures.1 long))) c.has_long_code.ensures.long
