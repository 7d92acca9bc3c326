use Rattle.std.proofs.Common.{◌*◌, ◌^◌, inl, inr, ap, subst, ◌∙◌}
use Rattle.std.specs.Int.{is_negative}
use Rattle.std.specs.Int.RustNames.{unsigned_abs}
use Rattle.std.proofs.lemmas.Int.{to_z-of_z}
use mir.Syntax.{w64}
use Rattle.lexical_core.specs.Decimals.{IsNumber}
use Rattle.lexical_core.proofs.Scales.{no_decimal, IsNumber-same}
use Rattle.lexical_core.proofs.decimal.Decimal.make.Goals as goal

pub returns-then-size-ge-LIMIT-clause-none : goal.returns-then-size-ge-LIMIT-clause-none
returns-then-size-ge-LIMIT-clause-none c =
    let size_is = c.unsigned_abs.ensures.value ∙ ap unsigned_abs (to_z-of_z w64 c.args.whole c.ranges.whole) in
    let same = c.least-size.ensures.same ∙ ap (λ n. n * 10 ^ c.least-size.result.1) size_is in
    no_decimal (is_negative c.args.whole) (unsigned_abs c.args.whole) c.args.scale c.least-size.result.0 c.least-size.result.1 same c.least-size.ensures.least
    (elim c.then-size-ge-LIMIT.either [ inl h ↦ inl h | inr h ↦ inr h.1 ])

pub returns-clause-number : goal.returns-clause-number
returns-clause-number c =
    let size_is = c.unsigned_abs.ensures.value ∙ ap unsigned_abs (to_z-of_z w64 c.args.whole c.ranges.whole) in
    let same = c.least-size.ensures.same ∙ ap (λ n. n * 10 ^ c.least-size.result.1) size_is in
    IsNumber-same (is_negative c.args.whole) c.least-size.result.0 c.least-size.result.1 (unsigned_abs c.args.whole) c.args.scale c.of.result same
    (subst (λ z. IsNumber (is_negative z) c.least-size.result.0 c.least-size.result.1 c.of.result) (to_z-of_z w64 c.args.whole c.ranges.whole) c.of.ensures.number)
