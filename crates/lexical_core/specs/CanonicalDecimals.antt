-- The parts of the canonical text of a decimal, as they are written.
use Rattle.std.specs.Prelude.{ℕ, ◌/◌, ◌%◌, ◌^◌, ◌==◌, List, Option, Some, None, if◌then◌else◌}
use Rattle.std.specs.Int.{is_negative}
use Rattle.std.specs.Int.RustNames.{unsigned_abs}
use Rattle.std.specs.Fmt.{decimal}
use Rattle.lexical_core.specs.Decimals.{Number, DecimalParts}
use Rattle.lexical_core.specs.Reals.{minus_text}
use Rattle.lexical_core.specs.FixedDigits.{fixed_digits}

-- the digits after the point, where there are any
abbrev pub fraction_of : ℕ → ℕ → Option (List ℕ)
fraction_of scale rest = if scale == 0 then None else Some (fixed_digits scale rest)

abbrev pub canonical_parts : Number → DecimalParts
canonical_parts n = record {
  sign = minus_text (is_negative n.whole);
  whole = decimal (unsigned_abs n.whole / 10 ^ n.scale);
  fraction = fraction_of n.scale (unsigned_abs n.whole % 10 ^ n.scale);
}
