use Rattle.std.proofs.Common.{ap, arith}
use Rattle.pattern_match.specs.Positions.{positions}
use Rattle.pattern_match.specs.Reading.{HasMorePositions}
use Rattle.message_model.proofs.patterns.is_refusal.Goals as goal

pub returns-in-TooLarge : goal.returns-in-TooLarge
returns-in-TooLarge c text refuses within =
    let more : HasMorePositions text 65536 = rw c.in-TooLarge.is at refuses in
    let one = c.one_tree.ensures text more.0 within.0 more.1 within.1 in
    omega (arith, more.2, within.2, ap positions one)
