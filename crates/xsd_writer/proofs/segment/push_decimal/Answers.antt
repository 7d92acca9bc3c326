-- The canonical text is the one that its parts spell.
use Rattle.std.proofs.Common.{subst}
use Rattle.lexical_core.proofs.DecimalLaws.{canonical_text}
use Rattle.lexical_core.proofs.Written.{canonical_is}
use Rattle.lexical_core.specs.CanonicalDecimals.{canonical_parts}
use Rattle.lexical_core.specs.Decimals.{decimal_spelling}
use Rattle.outside.specs.Pushes.{Pushes}
use Rattle.xsd_writer.proofs.segment.push_decimal.Goals as goal

pub returns : goal.returns
returns g c =
    let number = c.args.number.now in
    let same = canonical_text _ (decimal_spelling (canonical_parts number)) number c.scale-scale.ensures.decimal c.text_into-length.ensures.text (canonical_is number c.scale-scale.ensures.decimal) in
    subst (λ t. Pushes g.O.Sink.held g.O.Sink.faults g.O.Sink.room c.args.sink.now c.push_bytes.new.sink c.push_bytes.result t) same c.push_bytes.ensures.push
