use Rattle.std.proofs.Common.{◌∷◌, ap, ◌∙◌}
use Rattle.lexical_core.proofs.RealLemmas.{IfNone-map, body_of_negative}
use Rattle.lexical_core.proofs.real.read_nr3.Goals as goal

pub returns-in-Some-after-clause-none : goal.returns-in-Some-after-clause-none
returns-in-Some-after-clause-none c =
    IfNone-map c.read_body.result _ _
    (λ none n d real. none n d (body_of_negative c.args.contents.now c.in-Some-after.body.now n (c.in-Some.ensures ∙ ap (λ x. 3 ∷ x) c.in-Some-after.ensures) real))
    c.read_body.ensures.none
