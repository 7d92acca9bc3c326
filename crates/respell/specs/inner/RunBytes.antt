-- How a fragment spells a run of characters, byte by byte.
use Rattle.std.specs.Prelude.{ℕ, Bool, ◌==◌, not, List, [], ◌∷◌, codes, flat_map, if◌then◌else◌}

-- a byte of a run that stands for itself: all do but `>` (XML 1.0 §2.4)
abbrev pub stands_so : ℕ → Bool
stands_so byte = not (byte == 62)

-- the spelling of a byte
abbrev pub run_byte : ℕ → List ℕ
run_byte byte = if byte == 62 then codes "&gt;" else byte ∷ []

abbrev pub run_bytes : List ℕ → List ℕ
run_bytes bytes = flat_map run_byte bytes
