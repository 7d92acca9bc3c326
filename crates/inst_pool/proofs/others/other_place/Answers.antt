use Rattle.std.proofs.Common.{◌≡◌, ◌∙◌, get_or, ap}
use Rattle.std.proofs.lemmas.List.{get_or_default}
use Rattle.inst_pool.specs.declared.others.Other.{Other}
use Rattle.inst_pool.proofs.OtherLemmas.{other_there}
use Rattle.inst_pool.proofs.others.other_place.Goals as goal

pub returns-then-others-hint-clause-content : goal.returns-then-others-hint-clause-content
returns-then-others-hint-clause-content c = λ d.
    let others = c.args.others.now in
    let read = c.index-others-hint.result in
    let is : (get_or others c.args.hint d).at ≡ c.args.at = ap (λ (o : Other). o.at) (get_or_default others c.args.hint d read c.if-hint-others.true) ∙ c.if-others-hint.true in
    other_there 0 c.requires.order.0 others c.args.hint c.args.at d c.requires.order.1 c.if-hint-others.true is
