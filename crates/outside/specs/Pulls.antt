-- How far a source is pulled where what it gives is refused.
use Rattle.std.specs.Prelude.{ℕ, ◌≤◌, List, ◌++◌, length, Option}
use Rattle.std.specs.Io.KnownBytes.{Consumes}

-- how many bytes are asked of a source at once
abbrev pub pull_limit : ℕ
pull_limit = 65536

-- What was pulled, but for no more of its last bytes than one pull gives, shows nothing that ends the reading.
pub record StopsSoon (ShowsNone : List ℕ → Type 0) (old new : Option (List ℕ)) : Type 0 where
  pub before : List ℕ
  pub last : List ℕ
  pub pulled : Consumes old new (before ++ last)
  pub short : length last ≤ pull_limit
  pub shows_none : ShowsNone before
