-- The code of a pattern while it is made stands in cells, of which some are empty: the contracts of private functions alone cite it.
use Rattle.std.specs.Prelude.{ℕ, zero, suc, ◌≡◌, ◌+◌, ◌≤◌, ◌<◌, Bool, true, false, IsTrue, Option, Some, None, List, [], ◌∷◌, ◌++◌, map, length, take, drop}
use Rattle.pattern_match.specs.declared.instruction.Instruction.{Instruction}
use Rattle.pattern_match.specs.declared.instruction.Place.{Place}
use Rattle.pattern_match.specs.declared.instruction.Group.{Group}
use Rattle.pattern_match.specs.declared.token.Token.{Token}
use Rattle.pattern_match.specs.declared.token.Token.TheVariants.{Open, Close, Bar, Member, Times}
use Rattle.pattern_match.specs.Building.{Built, add_flags}

-- the instructions that the cells have
abbrev pub live : List (Option Instruction) → List Instruction
live [] = []
live (None ∷ cells) = live cells
live (Some i ∷ cells) = i ∷ live cells

-- each instruction in a cell
abbrev pub full_cells : List Instruction → List (Option Instruction)
full_cells code = map (λ i. Some i) code

-- the first cell, where there is one, is not empty
abbrev pub Leads : List (Option Instruction) → Type 0
Leads [] = Unit {0}
Leads (None ∷ cells) = ⊥
Leads (Some i ∷ cells) = Unit {0}

-- a cell with these flags too
abbrev pub flagged_cell : Bool → Bool → Option Instruction → Option Instruction
flagged_cell optional repeated None = None
flagged_cell optional repeated (Some i) = Some (add_flags optional repeated i)

-- cells with these flags on the first one too
abbrev pub flagged_cells : Bool → Bool → List (Option Instruction) → List (Option Instruction)
flagged_cells optional repeated [] = []
flagged_cells optional repeated (c ∷ cells) = flagged_cell optional repeated c ∷ cells

-- the item of a group, in the place of the `Open` and of the item: it may be left out where the group may
abbrev pub lift_group : Bool → List (Option Instruction) → List (Option Instruction)
lift_group empty [] = []
lift_group empty (c ∷ cells) = flagged_cell empty false c ∷ None ∷ cells

-- where the next instruction stands
abbrev pub next_cell_place : List (Option Instruction) → Place
next_cell_place cells = record { cell = length cells; count = length (live cells) }

-- the last instruction is gone, and the empty cells behind it
pub record Loses (old new : List (Option Instruction)) : Type 0 where
  pub last : Instruction
  pub empty : List (Option Instruction)
  pub old_is : old ≡ new ++ Some last ∷ empty
  pub none : live empty ≡ []

-- a piece begins at the place, or may begin there: it is the end
pub record IsPlace (cells : List (Option Instruction)) (place : Place) : Type 0 where
  pub within : place.cell ≤ length cells
  pub count : place.count ≡ length (live (take place.cell cells))
  pub leads : Leads (drop place.cell cells)

-- a group is begun at the place, or it is the end
pub record IsGroup (cells : List (Option Instruction)) (place : Place) : Type 0 where
  pub place_is : IsPlace cells place
  pub inside : Leads (drop (place.cell + 1) cells)

-- a group is begun at the place
pub record IsGroupBegun (cells : List (Option Instruction)) (place : Place) : Type 0 where
  pub group : IsGroup cells place
  pub here : place.cell < length cells

-- what stands before the place has stayed, and a piece may begin there
pub record KeepsFront (old new : List (Option Instruction)) (place : Place) : Type 0 where
  pub front : take place.cell new ≡ take place.cell old
  pub place_is : IsPlace new place

-- where a group begins
abbrev pub group_place : Group → Place
group_place g = record { cell = g.cell; count = g.around.start }

-- the groups are begun, the innermost first
abbrev pub AreBegun : List (Option Instruction) → List Group → Type 0
AreBegun cells [] = Leads cells
AreBegun cells (g ∷ groups) = IsGroupBegun cells (group_place g) × AreBegun (take g.cell cells) groups

-- what is built, and the cells, the groups and the cell that it stands in
pub record Drafted : Type 0 where
  pub built : Built
  pub cells : List (Option Instruction)
  pub groups : List Group
  pub cell : ℕ

-- where the last piece begins
abbrev pub last_place : Drafted → Place
last_place d = record { cell = d.cell; count = d.built.start }

-- the last piece may be repeated
pub record MayRepeatLast (d : Drafted) : Type 0 where
  pub place : IsPlace d.cells (last_place d)
  pub begun : AreBegun (take d.cell d.cells) d.groups

-- a token may come next
abbrev pub MayTakeToken : Token → Drafted → Type 0
MayTakeToken (Times least most) d = MayRepeatLast d
MayTakeToken token d = AreBegun d.cells d.groups

-- how many groups are begun behind a token
abbrev pub groups_begun : Token → ℕ → ℕ
groups_begun Open n = suc n
groups_begun Close zero = zero
groups_begun Close (suc n) = n
groups_begun token n = n

-- whether a piece stands directly before the next token
abbrev pub ready_after : Token → ℕ → Bool → Bool
ready_after Open n ready = false
ready_after Bar n ready = false
ready_after Close zero ready = ready
ready_after Close (suc n) ready = true
ready_after (Member low high) n ready = ready
ready_after token n ready = true

-- a quantifier wants a piece before it
abbrev pub MayFollow : Token → Bool → Type 0
MayFollow (Times least most) ready = IsTrue ready
MayFollow token ready = Unit {0}

-- each quantifier stands behind a piece, where so many groups are begun, and a piece stands before or not
abbrev pub AreFollowing : ℕ → Bool → List Token → Type 0
AreFollowing n ready [] = Unit {0}
AreFollowing n ready (token ∷ tokens) = MayFollow token ready × AreFollowing (groups_begun token n) (ready_after token n ready) tokens

-- what a token leaves
pub record Leaves (token : Token) (old new : Drafted) : Type 0 where
  pub begun : AreBegun new.cells new.groups
  pub depth : length new.groups ≡ groups_begun token (length old.groups)
  pub ready : (ready : Bool) → (IsTrue ready → MayRepeatLast old) → IsTrue (ready_after token (length old.groups) ready) → MayRepeatLast new

-- the tokens may come next
pub record IsFed (d : Drafted) (tokens : List Token) : Type 0 where
  pub ready : Bool
  pub begun : AreBegun d.cells d.groups
  pub is_ready : IsTrue ready → MayRepeatLast d
  pub follow : AreFollowing (length d.groups) ready tokens
