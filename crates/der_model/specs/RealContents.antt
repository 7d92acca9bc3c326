-- The contents of the REAL of a number, written out (X.690 §11.3.2).
use Rattle.std.specs.Prelude.{ℕ, zero, suc, ◌/◌, ◌%◌, ◌==◌, List, [], ◌∷◌, ◌++◌, if◌then◌else◌}
use Rattle.std.specs.Fmt.{decimal}
use Rattle.std.specs.Int.{is_negative}
use Rattle.std.specs.Int.RustNames.{unsigned_abs}
use Rattle.lexical_core.specs.Decimals.{Number}
use Rattle.lexical_core.specs.Reals.{minus_text, real_body}
use Rattle.lexical_core.specs.Exponents.{exponent_for}

-- a size without the zeros at its end, and how many these are, of at most so many
pub record Stripped : Type 0 where
  pub size : ℕ
  pub zeros : ℕ

abbrev pub strip_zeros : ℕ → ℕ → ℕ → Stripped
strip_zeros zero size zeros = record { size = size; zeros = zeros }
strip_zeros (suc most) size zeros = let more = strip_zeros most (size / 10) (suc zeros) in if size % 10 == 0 then more else record { size = size; zeros = zeros }

-- none for zero, and else the form, a minus, the digits without zeros at their end, and the exponent
unfoldable pub real_contents : Number → List ℕ
real_contents n =
    let part = strip_zeros 18 (unsigned_abs n.whole) 0 in
    let body = real_body (decimal part.size) (exponent_for n.scale part.zeros) in
    if unsigned_abs n.whole == 0 then [] else 3 ∷ (minus_text (is_negative n.whole) ++ body)
