-- The longest list of tokens at the front of bytes.
use Rattle.std.specs.Prelude.{◌≡◌, ℕ, List, [], ◌++◌}
use Rattle.markup.specs.Token.{Token}
use Rattle.markup.specs.Marks.{Front, tag_limit}

-- Every list of tokens from the front of the bytes, in which tags have at most so many bytes, is a front of this one.
pub record IsLongestUnder (limit : ℕ) (bytes : List ℕ) (tokens : List Token) : Type 0 where
  pub rest : List ℕ
  pub front : Front limit [] bytes tokens rest
  pub longest : (us : List Token) (y : List ℕ) → Front limit [] bytes us y → (more : List Token) × (tokens ≡ us ++ more)

-- in XML
abbrev pub IsLongest : List ℕ → List Token → Type 0
IsLongest bytes tokens = IsLongestUnder tag_limit bytes tokens
