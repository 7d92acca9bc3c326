use Rattle.std.proofs.Common.{refl, sym, ◌∙◌}
use Rattle.der_codec.proofs.TextLengths.{none_there, date_alone}
use Rattle.der_codec.proofs.known.known_date.Goals as goal

pub returns : goal.returns
returns c = date_alone c.args.simple.now c.args.octets.now c.requires (c.if-not-is_date_text.ensures.0 refl) (none_there c.args.simple.now.pattern (sym c.is_some.ensures ∙ c.if-is_some.false))
