-- A number written with a fixed count of digits.
use Rattle.std.specs.Prelude.{ℕ, zero, suc, ◌+◌, ◌/◌, ◌%◌, List, [], ◌∷◌, ◌++◌}

-- the last digits of the number, this many
abbrev pub fixed_digits : ℕ → ℕ → List ℕ
fixed_digits zero n = []
fixed_digits (suc count) n = fixed_digits count (n / 10) ++ (48 + n % 10) ∷ []
