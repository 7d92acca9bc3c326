-- How many positions a pattern has: one for each character, `.`, escape or class that is written, times the copies of each repetition that it stands in.
use Rattle.std.specs.Prelude.{ℕ, ◌+◌, ◌*◌, max}
use Rattle.pattern_match.specs.Expression.{Quantifier, Exactly, AtLeast, Between, Expression, Empty, Piece, Group, Choice}
use Rattle.pattern_match.specs.Valid.{digits_number}

-- how many copies of a piece are counted: n of `{n}`, m of `{n,m}`, n of `{n,}` but at least one, and one of any other
abbrev pub copies : Quantifier → ℕ
copies (Exactly n) = digits_number n
copies (AtLeast n) = max (digits_number n) 1
copies (Between n m) = digits_number m
copies q = 1

-- the positions of all pieces of all branches: a piece has those of its atom, times its copies, and an atom that is no group has one
abbrev pub positions : Expression → ℕ
positions Empty = 0
positions (Piece atom quantifier rest) = copies quantifier + positions rest
positions (Group inner quantifier rest) = positions inner * copies quantifier + positions rest
positions (Choice branch rest) = positions branch + positions rest
