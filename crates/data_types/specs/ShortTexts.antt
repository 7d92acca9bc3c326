-- What is kept of the characters of a short text.
use Rattle.std.specs.Prelude.{◌≡◌, ℕ, ◌<◌, ◌≤◌, Bool, true, false, List, length, take}
use Rattle.std.specs.List.{AllByRecursion}
use Rattle.data_types.specs.declared.short.ShortText.{ShortText}

-- ASCII characters, at most 35
pub record IsShort (text : List ℕ) : Type 0 where
  pub ascii : AllByRecursion (λ c. c < 128) text
  pub few : length text ≤ 35

abbrev pub HasKeptIn : Bool → List ℕ → List ℕ → Type 0
HasKeptIn true kept text = IsShort text → ⊥
HasKeptIn false kept text = kept ≡ text

-- the characters since it was made are these
abbrev pub HasKept : ShortText → List ℕ → Type 0
HasKept s text = HasKeptIn s.failed (take s.count s.bytes) text
