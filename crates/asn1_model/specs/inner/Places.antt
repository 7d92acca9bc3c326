-- The places of types among the names that they are given.
use Rattle.std.specs.Prelude.{ℕ, List, [], length, slice_index_or}

-- the name of the type of this number
abbrev pub name_at : List ℕ → List (List ℕ) → ℕ → List ℕ
name_at places given number = slice_index_or given (slice_index_or places number (length given)) []
