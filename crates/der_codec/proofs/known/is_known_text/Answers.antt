use Rattle.std.proofs.Common.{sym, ◌∙◌, subst}
use Rattle.facets.specs.Facets.{HasLength}
use Rattle.der_codec.proofs.TextLengths.{none_there, length_fits}
use Rattle.der_codec.proofs.known.is_known_text.Goals as goal

pub returns-in-Ok : goal.returns-in-Ok
returns-in-Ok c = λ r yes.
    let none = none_there c.args.simple.now.pattern (sym c.is_some.ensures ∙ c.if-is_some.false) in
    length_fits c.args.simple.now r.chars c.requires.free.0 c.requires.free.1 none r.are (subst (HasLength c.args.simple.now) (sym r.count_is) c.in-Ok.ensures.length)
