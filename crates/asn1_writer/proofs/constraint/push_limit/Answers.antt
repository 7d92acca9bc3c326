use Rattle.std.proofs.Common.{[], ◌∷◌, subst}
use Rattle.lexical_core.specs.Decimals.{decimal_spelling}
use Rattle.lexical_core.specs.CanonicalDecimals.{canonical_parts}
use Rattle.lexical_core.proofs.DecimalLaws.{canonical_text}
use Rattle.lexical_core.proofs.Written.{canonical_is}
use Rattle.outside.specs.Pushes.{Pushes}
use Rattle.asn1_model.specs.ModuleText.{constraint_text}
use Rattle.asn1_writer.proofs.constraint.push_limit.Goals as goal

pub returns : goal.returns
returns g c =
    let value = c.args.value.now in
    let is = c.scale-scale.ensures.decimal in
    subst (λ t. Pushes g.O.Sink.held g.O.Sink.faults g.O.Sink.room c.args.sink.now c.push_words.new.sink c.push_words.result (constraint_text (c.args.side.now ∷ c.args.word.now ∷ t ∷ [])))
    (canonical_text _ (decimal_spelling (canonical_parts value)) value is c.text_into-length.ensures.text (canonical_is value is)) c.push_words.ensures
