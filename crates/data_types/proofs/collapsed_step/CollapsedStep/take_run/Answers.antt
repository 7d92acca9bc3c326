use Rattle.std.proofs.Common.{◌<◌, ◌++◌, length, ap, subst, sym, arith}
use Rattle.std.specs.List.{AllByRecursion}
use Rattle.data_types.specs.LeafSteps.{HasGiven}
use Rattle.data_types.proofs.collapsed_step.CollapsedStep.take_run.Goals as goal

pub take_codes-requires-clause-room : goal.take_codes-requires-clause-room
take_codes-requires-clause-room c = omega (arith, c.in_ok-reserve_for.ensures.ok, ap length c.in-Codes.ensures.bytes)

pub take_codes-requires-clause-ascii : goal.take_codes-requires-clause-ascii
take_codes-requires-clause-ascii c = let own = c.in-Codes.ensures.chars c.requires in subst (AllByRecursion (λ x. x < 128)) (sym own.0) own.1

pub take_text-requires : goal.take_text-requires
take_text-requires c = omega (arith, c.in_ok-reserve_for.ensures.ok, ap length c.in-Text.ensures.bytes)

pub returns-in-Codes-clause-ok : goal.returns-in-Codes-clause-ok
returns-in-Codes-clause-ok c = λ r kind most before (collapsed, has, value).
    subst (λ t. HasGiven c.take_codes.new.self kind most (before ++ t)) (c.in-Codes.ensures.chars r).0
    (c.take_codes.ensures.taken kind most before (collapsed, has, c.reserve_for.ensures.taken kind most before collapsed value))

pub returns-in-Codes-clause-count : goal.returns-in-Codes-clause-count
returns-in-Codes-clause-count c = omega (arith, c.take_codes.ensures.count, c.reserve_for.ensures.held, ap length c.in-Codes.ensures.bytes)

pub returns-in-Text-clause-ok : goal.returns-in-Text-clause-ok
returns-in-Text-clause-ok c = λ r kind most before (collapsed, has, value).
    subst (λ t. HasGiven c.take_text.new.self kind most (before ++ t)) (c.in-Text.ensures.chars r)
    (c.take_text.ensures.taken kind most before (collapsed, has, c.reserve_for.ensures.taken kind most before collapsed value))

pub returns-in-Text-clause-count : goal.returns-in-Text-clause-count
returns-in-Text-clause-count c = omega (arith, c.take_text.ensures.count, c.reserve_for.ensures.held, ap length c.in-Text.ensures.bytes)
