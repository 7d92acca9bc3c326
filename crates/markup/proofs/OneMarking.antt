-- Bytes are at most one list of tokens.
use Rattle.std.proofs.Common.{◌≡◌, ℕ, List}
use Rattle.markup.specs.Token.{Token}
use Rattle.markup.specs.Marks.{Marks}
use Rattle.markup.proofs.InputEnds.{marks_longest, one_longest}

pub one_marking : (bytes : List ℕ) (ts us : List Token) → Marks bytes ts → Marks bytes us → ts ≡ us
one_marking bytes ts us f g = one_longest bytes ts us (marks_longest bytes ts f) (marks_longest bytes us g)
