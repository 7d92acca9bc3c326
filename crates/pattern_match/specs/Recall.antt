-- What a matcher remembers of the marks that it has met: the state of a machine, which the contracts of private functions alone cite.
use Rattle.std.specs.Prelude.{ℕ, zero, suc, ◌≡◌, ◌+◌, ◌*◌, ◌<◌, Bool, Option, Some, None, List, [], ◌∷◌, length, take, drop, slice_index_or}
use Rattle.pattern_match.specs.Marks.{Walk}

-- the marks that were met, and a table: for a number of these and an ASCII character one more than the number of those that follow, or 0
pub record Known : Type 0 where
  pub rows : List (List Bool)
  pub table : List ℕ

-- so many rows of this width, one after another
abbrev pub rows_of : ℕ → ℕ → List Bool → List (List Bool)
rows_of zero width cells = []
rows_of (suc n) width cells = take width cells ∷ rows_of n width (drop width cells)

-- the marks of this number
abbrev pub row : Known → ℕ → List Bool
row k s = slice_index_or k.rows s []

-- what the table has for marks of this number and a character
abbrev pub cell : Known → ℕ → ℕ → ℕ
cell k s c = slice_index_or k.table (128 * s + c) 0

-- the table is right where this follows marks and a character
abbrev pub IsRightTable : (ℕ → List Bool → List Bool) → Known → Type 0
IsRightTable next k = (s c t : ℕ) → c < 128 → cell k s c ≡ suc t → (s < length k.rows) × (t < length k.rows) × (row k t ≡ next c (row k s))

-- the number, where there is one, is that of the marks
abbrev pub IsRow : Known → Option ℕ → List Bool → Type 0
IsRow k at marks = (s : ℕ) → at ≡ Some s → (s < length k.rows) × (row k s ≡ marks)

-- the marks behind these characters, where this follows marks and a character
abbrev pub marks_behind : (ℕ → List Bool → List Bool) → List Bool → List ℕ → List Bool
marks_behind next marks [] = marks
marks_behind next marks (c ∷ w) = marks_behind next (next c marks) w

-- a matcher: the marks before the first character, its marks, as long as those that it has reached have no number, and that number, the number of the first, and what it remembers
pub record Matching : Type 0 where
  pub start : Walk
  pub walk : Walk
  pub at : Option ℕ
  pub first : Option ℕ
  pub known : Known

-- the marks of a number, or else these
abbrev pub marks_at : Option ℕ → Known → List Bool → List Bool
marks_at None known cells = cells
marks_at (Some s) known cells = row known s

-- the marks that a matcher has reached
abbrev pub reached_marks : Matching → List Bool
reached_marks m = marks_at m.at m.known m.walk.cells
