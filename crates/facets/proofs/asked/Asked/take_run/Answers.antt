use Rattle.std.proofs.Common.{◌++◌, subst}
use Rattle.facets.specs.PatternChecks.{HasAsked}
use Rattle.facets.proofs.asked.Asked.take_run.Goals as goal

pub returns-in-Codes : goal.returns-in-Codes
returns-in-Codes c = λ r text h.
    subst (λ t. HasAsked c.take_codes.new.self c.args.simple.now (text ++ t)) (c.in-Codes.ensures.chars r).0 (c.take_codes.ensures text h)

pub returns-in-Text : goal.returns-in-Text
returns-in-Text c = λ r text h.
    subst (λ t. HasAsked c.take_text.new.self c.args.simple.now (text ++ t)) (c.in-Text.ensures.chars r) (c.take_text.ensures text h)
