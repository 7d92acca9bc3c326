use Rattle.std.proofs.Common.{Err, sym, ◌∙◌, subst}
use Rattle.facets.specs.Checks.{IsLengthAnswer}
use Rattle.facets.specs.Facets.{HasLength}
use Rattle.der_codec.proofs.TextLengths.{none_there, length_fits, length_refused}
use Rattle.der_codec.proofs.leaves.tell_text.Goals as goal

pub returns-in-Ok-clause-told : goal.returns-in-Ok-clause-told
returns-in-Ok-clause-told c = λ r.
    let none = none_there c.args.simple.now.pattern (sym c.is_some.ensures ∙ c.if-is_some.false) in
    length_fits c.args.simple.now r.chars c.requires.kind c.requires.codes none r.are (subst (HasLength c.args.simple.now) (sym r.count_is) c.in-Ok.ensures.length)

pub returns-in-Err-clause-told : goal.returns-in-Err-clause-told
returns-in-Err-clause-told c = λ r.
    length_refused c.args.simple.now r.chars c.in-Err.rule c.requires.kind c.requires.codes r.are
    (subst (λ n. IsLengthAnswer {T = Unit {0}} c.args.simple.now n (Err c.in-Err.rule)) (sym r.count_is) c.in-Err.ensures.length)
