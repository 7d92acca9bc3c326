-- How a token goes on with the code of a pattern: the state of a machine, which the contracts of private functions alone cite.
use Rattle.std.specs.Prelude.{ℕ, zero, suc, ◌+◌, ◌-◌, ◌*◌, min, max, Bool, true, false, ◌||◌, ◌==◌, nat_lt, if◌then◌else◌, Option, Some, None, List, [], ◌∷◌, ◌++◌, length, take, drop, slice_set}
use Rattle.pattern_match.specs.declared.instruction.Instruction.{Instruction}
use Rattle.pattern_match.specs.declared.instruction.Instruction.TheVariants.{Take, Open, Bar, Close}
use Rattle.pattern_match.specs.declared.instruction.Begun.{Begun}
use Rattle.pattern_match.specs.declared.token.Token.{Token}
use Rattle.pattern_match.specs.declared.token.Token.TheVariants.{Open as OpenToken, Close as CloseToken, Bar as BarToken, Single as SingleToken, Dot as DotToken, Spaces as SpacesToken, ClassStart, Member, Times}

-- the most positions of a pattern
abbrev pub position_limit : ℕ
position_limit = 65536

-- positions are counted up to one more than the limit
abbrev pub cap_count : ℕ → ℕ
cap_count n = min n 65537

-- the code so far, the groups that are begun, the innermost first, the positions of the innermost but its last piece, those of its last piece, where that begins,
-- where the last branch begins that may still be empty, and whether an empty one was left out
pub record Built : Type 0 where
  pub code : List Instruction
  pub begun : List Begun
  pub total : ℕ
  pub last : ℕ
  pub start : ℕ
  pub branch : ℕ
  pub empty : Bool

-- an instruction with these flags too
abbrev pub add_flags : Bool → Bool → Instruction → Instruction
add_flags optional repeated (Take at o r) = Take at (optional || o) (repeated || r)
add_flags optional repeated (Open length o r) = Open length (optional || o) (repeated || r)
add_flags optional repeated Bar = Bar
add_flags optional repeated Close = Close

-- a fragment with these flags on its first instruction too
abbrev pub flagged_first : Bool → Bool → List Instruction → List Instruction
flagged_first optional repeated [] = []
flagged_first optional repeated (i ∷ code) = add_flags optional repeated i ∷ code

-- so many copies, one after the other
abbrev pub copies_code : ℕ → List Instruction → List Instruction
copies_code zero code = []
copies_code (suc n) code = code ++ copies_code n code

-- a fragment, repeated as the bounds say
abbrev pub repeated_code : ℕ → Option ℕ → List Instruction → List Instruction
repeated_code least (Some most) code = copies_code least (flagged_first false false code) ++ copies_code (most - least) (flagged_first true false code)
repeated_code least None code =
    if least == 0 then flagged_first true true code else copies_code (least - 1) (flagged_first false false code) ++ flagged_first false true code

-- how many copies of a piece are kept
abbrev pub kept_copies : ℕ → Option ℕ → ℕ
kept_copies least None = max least 1
kept_copies least (Some most) = most

-- a group that begins here, where this is built around it
abbrev pub begun_at : ℕ → ℕ → ℕ → Bool → Begun
begun_at start total branch empty = record { start = start; total = total; branch = branch; empty = empty }

-- the positions of the innermost group
abbrev pub sum_of : Built → ℕ
sum_of b = cap_count (b.total + b.last)

-- behind an atom
abbrev pub after_atom : ℕ → Built → Built
after_atom at b =
    record { code = b.code ++ Take at false false ∷ []; begun = b.begun; total = sum_of b; last = 1; start = length b.code; branch = b.branch; empty = b.empty }

-- behind the start of a group
abbrev pub after_open : Built → Built
after_open b = record {
  code = b.code ++ Open 0 false false ∷ [];
  begun = begun_at (length b.code) (sum_of b) b.branch b.empty ∷ b.begun;
  total = 0;
  last = 0;
  start = 0;
  branch = length b.code + 1;
  empty = false;
}

-- whether nothing is kept of the last branch
abbrev pub is_branch_empty : Built → Bool
is_branch_empty b = length b.code == b.branch

-- behind a bar: a branch of which nothing is kept is left out
abbrev pub after_bar : Built → Built
after_bar b =
    if is_branch_empty b then record { code = b.code; begun = b.begun; total = sum_of b; last = 0; start = 0; branch = b.branch; empty = true }
    else record { code = b.code ++ Bar ∷ []; begun = b.begun; total = sum_of b; last = 0; start = 0; branch = length b.code + 1; empty = b.empty }

-- the code is that of one atom or of one group
abbrev pub is_item : List Instruction → Bool
is_item [] = false
is_item (Take at o r ∷ code) = length code == 0
is_item (Open n o r ∷ code) = length code == suc n
is_item (Bar ∷ code) = false
is_item (Close ∷ code) = false

-- the code of a group that begins here and may be left out or not: without marks where one atom or one group stands in it
abbrev pub wrapped_group : ℕ → Bool → List Instruction → List Instruction
wrapped_group start empty code =
    if is_item (drop (start + 1) code) then take start code ++ flagged_first empty false (drop (start + 1) code)
    else slice_set code start (Open (length code - start - 1) empty false) ++ Close ∷ []

-- the code of a group that ends: dropped where it has no positions; else a last branch of which nothing is kept is left out, and so the group may be
abbrev pub closed_code : ℕ → ℕ → Bool → List Instruction → ℕ → List Instruction
closed_code start branch empty code positions =
    if positions == 0 then take start code
    else if length code == branch then wrapped_group start true (take (branch - 1) code)
    else wrapped_group start empty code

-- behind the end of a group
abbrev pub after_close_of : List Begun → Built → Built
after_close_of [] b = b
after_close_of (g ∷ begun) b = record {
  code = closed_code g.start b.branch b.empty b.code (sum_of b);
  begun = begun;
  total = g.total;
  last = sum_of b;
  start = g.start;
  branch = g.branch;
  empty = g.empty;
}

-- behind the end of the innermost group
abbrev pub after_close : Built → Built
after_close b = after_close_of b.begun b

-- the code of a piece of so many positions, repeated as the bounds say: dropped where nothing is kept of it, as it is where too much would be
abbrev pub piece_code : ℕ → List Instruction → ℕ → ℕ → Option ℕ → List Instruction
piece_code start code positions least most =
    if positions == 0 then take start code else if nat_lt position_limit positions then code else take start code ++ repeated_code least most (drop start code)

-- behind a quantifier
abbrev pub after_times : ℕ → Option ℕ → Built → Built
after_times least most b = record {
  code = piece_code b.start b.code (b.last * kept_copies least most) least most;
  begun = b.begun;
  total = b.total;
  last = cap_count (b.last * kept_copies least most);
  start = b.start;
  branch = b.branch;
  empty = b.empty;
}

-- behind a token of this number
abbrev pub after : Token → ℕ → Built → Built
after OpenToken at b = after_open b
after CloseToken at b = after_close b
after BarToken at b = after_bar b
after (SingleToken c) at b = after_atom at b
after DotToken at b = after_atom at b
after SpacesToken at b = after_atom at b
after (ClassStart negated) at b = after_atom at b
after (Member low high) at b = b
after (Times least most) at b = after_times least most b

-- behind tokens, the first of which has this number
abbrev pub build_behind : ℕ → List Token → Built → Built
build_behind at [] b = b
build_behind at (token ∷ tokens) b = build_behind (at + 1) tokens (after token at b)

-- before the first token
abbrev pub nothing_built : Built
nothing_built = record { code = []; begun = []; total = 0; last = 0; start = 0; branch = 0; empty = false }

-- a whole pattern: one group
abbrev pub built_whole : List Token → Built
built_whole tokens = after_close (build_behind 0 tokens (after_open nothing_built))
