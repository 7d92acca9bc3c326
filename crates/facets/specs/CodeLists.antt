-- Lists of codes: sorted by bytes, each once.
use Rattle.std.specs.Prelude.{◌≡◌, ℕ, ◌-◌, max, Bool, not, ◌&&◌, nat_le, nat_lt, count_by, List, [], ◌∷◌, length, slice_get, Some}
use Rattle.std.specs.Cmp.Lexicographic.{slice_cmp}
use Rattle.std.specs.Ordering.{nat_cmp}
use Rattle.std.specs.declared.cmp.Ordering.TheVariants.{Less}
use Rattle.std.specs.List.Sorted.{IsStrictlySortedBy}

-- the first text comes before the second one by bytes
abbrev pub ComesBefore : List ℕ → List ℕ → Type 0
ComesBefore text other = slice_cmp nat_cmp text other ≡ Less

-- each code is below those after it
abbrev pub AreSorted : List (List ℕ) → Type 0
AreSorted codes = IsStrictlySortedBy (slice_cmp nat_cmp) codes

-- the text is above the last code, where there is one
abbrev pub IsAboveLast : List (List ℕ) → List ℕ → Type 0
IsAboveLast codes text = (last : List ℕ) → slice_get codes (length codes - 1) ≡ Some last → ComesBefore last text

-- whether a byte begins a character in UTF-8: RFC 3629 §3
abbrev pub is_lead : ℕ → Bool
is_lead byte = not (nat_le 128 byte && nat_lt byte 192)

-- how many characters a code has
abbrev pub char_count : List ℕ → ℕ
char_count code = count_by is_lead code

-- the characters of the longest code
abbrev pub longest_of : List (List ℕ) → ℕ
longest_of [] = 0
longest_of (code ∷ codes) = max (char_count code) (longest_of codes)
