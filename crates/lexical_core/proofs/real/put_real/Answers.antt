use Rattle.std.proofs.Common.{◌≡◌, ◌∷◌, ◌++◌, ap, sym, ◌∙◌}
use Rattle.std.proofs.lemmas.Int.{to_z-of_z}
use mir.Syntax.{w64}
use Rattle.std.specs.Fmt.{decimal}
use Rattle.std.specs.Int.{is_negative}
use Rattle.std.specs.Int.RustNames.{unsigned_abs}
use Rattle.lexical_core.specs.Reals.{minus_text, exponent_text}
use Rattle.lexical_core.specs.Exponents.{exponent_for}
use Rattle.lexical_core.proofs.Written.{joined, contents_are}
use Rattle.lexical_core.proofs.real.put_real.Goals as goal

pub returns-clause-contents : goal.returns-clause-contents
returns-clause-contents c =
    let n = c.args.number.now in
    let size : c.unsigned_abs.result ≡ unsigned_abs n.whole =
    c.unsigned_abs.ensures.value ∙ (ap unsigned_abs (to_z-of_z w64 c.whole.result (record { sfits = c.whole.type_inv })) ∙ ap unsigned_abs c.whole.ensures.value) in
    let negative = ap is_negative (to_z-of_z w64 c.whole-2.result (record { sfits = c.whole-2.type_inv }) ∙ c.whole-2.ensures.value) in
    let text = joined _ (decimal c.without_zeros-digits.result.0) (exponent_text (exponent_for c.scale.result c.without_zeros-digits.result.1))
    c.put_exponent.ensures.text c.put_byte-mark.ensures.bytes c.put_byte-point.ensures.bytes c.put_number-end.ensures.bytes c.put_minus-sign.ensures.bytes
    c.put_byte-form.ensures.bytes in
    contents_are n c.without_zeros-digits.result.0 c.without_zeros-digits.result.1 _ c.whole.ensures.decimal (sym size ∙ c.without_zeros-digits.ensures.same)
    c.without_zeros-digits.ensures.ends
    (text
    ∙ (ap (λ b. 3 ∷ (minus_text b ++ (decimal c.without_zeros-digits.result.0 ++ (46 ∷ 69 ∷ exponent_text (exponent_for c.scale.result c.without_zeros-digits.result.1))))) negative
    ∙ ap (λ s. 3 ∷ (minus_text (is_negative n.whole) ++ (decimal c.without_zeros-digits.result.0 ++ (46 ∷ 69 ∷ exponent_text (exponent_for s c.without_zeros-digits.result.1)))))
    c.scale.ensures.value))
