-- A name as it grows.
use Rattle.std.specs.Prelude.{ℕ, Bool, false, List, [], ◌∷◌, if◌then◌else◌}
use Rattle.asn1_model.specs.Names.{hyphen, without_gap, with_hyphens}

-- what a byte that stands in names adds to the name so far; the test says that bytes that do not have come behind it
abbrev pub joined_byte : List ℕ → Bool → ℕ → List ℕ
joined_byte [] gap c = c ∷ []
joined_byte (n ∷ ns) gap c = if gap then hyphen ∷ c ∷ [] else c ∷ []

-- what the bytes to come add
abbrev pub to_come : List ℕ → Bool → List ℕ → List ℕ
to_come [] gap cs = with_hyphens false (without_gap cs)
to_come (n ∷ ns) gap cs = with_hyphens gap cs
