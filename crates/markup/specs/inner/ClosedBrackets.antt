-- `]` in a CDATA section behind which a character shows that they do not end it.
use Rattle.std.specs.Prelude.{◌≡◌, ℕ, ◌<◌, true, List, [], ◌∷◌, ◌++◌, length}
use Rattle.std.specs.List.{AllByRecursion}
use Rattle.markup.specs.Literals.{is_literal, IsRun}

-- The bytes are so many characters, all of which are `]` but for the last one, which stands by itself.
pub record IsClosedRun (bytes : List ℕ) (count : ℕ) : Type 0 where
  pub run : IsRun bytes count
  pub brackets : List ℕ
  pub last : ℕ
  pub are : AllByRecursion (λ c. c ≡ 93) brackets
  pub some : 0 < length brackets
  pub literal : is_literal last ≡ true
  pub split : run.characters ≡ brackets ++ last ∷ []
