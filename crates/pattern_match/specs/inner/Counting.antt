-- How a token goes on with the count of a pattern's positions: the state of a machine, which the contracts of private functions alone cite.
use Rattle.std.specs.Prelude.{ℕ, ◌+◌, ◌*◌, Option, List, [], ◌∷◌}
use Rattle.pattern_match.specs.Building.{cap_count, kept_copies}
use Rattle.pattern_match.specs.declared.token.Token.{Token}
use Rattle.pattern_match.specs.declared.token.Token.TheVariants.{Open, Close, Bar, Single, Dot, Spaces, ClassStart, Member, Times}

-- the positions before each group that is begun, the innermost first, those of the innermost but its last piece, and those of its last piece
pub record Counted : Type 0 where
  pub outer : List ℕ
  pub total : ℕ
  pub last : ℕ

-- the same, and for how many groups there is room
pub record Counting : Type 0 where
  pub counted : Counted
  pub room : ℕ

-- the positions of the innermost group
abbrev pub counted_sum : Counted → ℕ
counted_sum c = cap_count (c.total + c.last)

-- behind an atom
abbrev pub counted_atom : Counted → Counted
counted_atom c = record { outer = c.outer; total = counted_sum c; last = 1 }

-- behind the start of a group
abbrev pub counted_open : Counted → Counted
counted_open c = record { outer = counted_sum c ∷ c.outer; total = 0; last = 0 }

-- behind a bar
abbrev pub counted_bar : Counted → Counted
counted_bar c = record { outer = c.outer; total = counted_sum c; last = 0 }

-- behind the end of a group
abbrev pub counted_close_of : List ℕ → Counted → Counted
counted_close_of [] c = c
counted_close_of (total ∷ outer) c = record { outer = outer; total = total; last = counted_sum c }

-- behind the end of the innermost group
abbrev pub counted_close : Counted → Counted
counted_close c = counted_close_of c.outer c

-- behind a quantifier
abbrev pub counted_times : ℕ → Option ℕ → Counted → Counted
counted_times least most c = record { outer = c.outer; total = c.total; last = cap_count (c.last * kept_copies least most) }

-- behind a token
abbrev pub counted_after : Token → Counted → Counted
counted_after Open c = counted_open c
counted_after Close c = counted_close c
counted_after Bar c = counted_bar c
counted_after (Single x) c = counted_atom c
counted_after Dot c = counted_atom c
counted_after Spaces c = counted_atom c
counted_after (ClassStart negated) c = counted_atom c
counted_after (Member low high) c = c
counted_after (Times least most) c = counted_times least most c

-- behind tokens
abbrev pub counted_tokens : List Token → Counted → Counted
counted_tokens [] c = c
counted_tokens (token ∷ tokens) c = counted_tokens tokens (counted_after token c)

-- before the first token
abbrev pub nothing_counted : Counted
nothing_counted = record { outer = []; total = 0; last = 0 }

-- the positions of a whole pattern, up to one more than the limit: it is one group
abbrev pub counted_whole : List Token → ℕ
counted_whole tokens = (counted_close (counted_tokens tokens (counted_open nothing_counted))).last
