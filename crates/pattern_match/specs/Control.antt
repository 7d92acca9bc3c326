-- How a character leads the reading of a pattern on, XML Schema part 2, appendix F: the state of a machine, which the contracts of private functions alone cite.
use Rattle.std.specs.Prelude.{ℕ, ◌+◌, ◌*◌, ◌/◌, ◌≤◌, suc, zero, Bool, true, false, ◌&&◌, ◌==◌, nat_le, nat_lt, if◌then◌else◌, Option, Some, None, List, [], ◌∷◌}
use Rattle.pattern_match.specs.Valid.{escaped_letter}
use Rattle.pattern_match.specs.Character.{outside, within, in_number, behind_backslash}
use Rattle.pattern_match.specs.declared.character.Outside.{Outside}
use Rattle.pattern_match.specs.declared.character.Outside.TheVariants.{Ordinary, Dot, Backslash, OpenClass, OpenGroup, CloseGroup, Bar, Optional, AnyNumber, OneOrMore, OpenBounds, Stray}
use Rattle.pattern_match.specs.declared.character.Within.{Within}
use Rattle.pattern_match.specs.declared.character.Within.TheVariants.{Plain, Backslash as BackslashWithin, Hyphen, CloseClass, Stray as StrayWithin}
use Rattle.pattern_match.specs.declared.character.InNumber.{InNumber}
use Rattle.pattern_match.specs.declared.character.InNumber.TheVariants.{Digit, Comma, CloseBounds, Stray as StrayInNumber}
use Rattle.pattern_match.specs.declared.character.BehindBackslash.{BehindBackslash}
use Rattle.pattern_match.specs.declared.character.BehindBackslash.TheVariants.{Space, Letter, Stray as StrayBehind}
use Rattle.pattern_match.specs.declared.control.Control.{Control}
use Rattle.pattern_match.specs.declared.control.Control.TheVariants.{Start, Atom, Escape, Least, Most, ClassStart, ClassNegated, ClassItem, ClassSingle, ClassDash, ClassEscape, RangeEscape, ClassEnd}
use Rattle.pattern_match.specs.declared.control.Reading.{Reading}

-- what no digits of a bound weigh
abbrev pub whole_weight : ℕ
whole_weight = 1000000000

-- from the start of a piece
abbrev pub outside_next : Outside → Option Control
outside_next Ordinary = Some Atom
outside_next Dot = Some Atom
outside_next CloseGroup = Some Atom
outside_next Backslash = Some Escape
outside_next OpenClass = Some ClassStart
outside_next OpenGroup = Some Start
outside_next Bar = Some Start
outside_next Optional = None
outside_next AnyNumber = None
outside_next OneOrMore = None
outside_next OpenBounds = None
outside_next Stray = None

-- from behind an atom
abbrev pub atom_next : Outside → Option Control
atom_next Optional = Some Start
atom_next AnyNumber = Some Start
atom_next OneOrMore = Some Start
atom_next OpenBounds = Some (Least whole_weight 0)
atom_next Ordinary = Some Atom
atom_next Dot = Some Atom
atom_next CloseGroup = Some Atom
atom_next Backslash = Some Escape
atom_next OpenClass = Some ClassStart
atom_next OpenGroup = Some Start
atom_next Bar = Some Start
atom_next Stray = None

-- from behind a backslash outside a class
abbrev pub escape_next : BehindBackslash → Option Control
escape_next Space = Some Atom
escape_next Letter = Some Atom
escape_next StrayBehind = None

-- digits that stand for value leave room for those that the weight counts
abbrev pub HasRoomForDigits : ℕ → ℕ → Type 0
HasRoomForDigits weight value = (value + 1) * weight ≤ whole_weight

-- in the first bound
abbrev pub least_next : ℕ → ℕ → InNumber → Option Control
least_next weight value (Digit digit) = if nat_lt weight 10 then None else Some (Least (weight / 10) (10 * value + digit))
least_next weight value CloseBounds = if nat_lt weight whole_weight then Some Start else None
least_next weight value Comma = if nat_lt weight whole_weight then Some (Most value whole_weight 0) else None
least_next weight value StrayInNumber = None

-- in the second bound: some number of nine digits at most goes on so and is not below the first
abbrev pub most_next : ℕ → ℕ → ℕ → InNumber → Option Control
most_next least weight value (Digit digit) =
    if nat_lt weight 10 then None
    else if nat_lt least ((10 * value + digit + 1) * (weight / 10)) then Some (Most least (weight / 10) (10 * value + digit)) else None
most_next least weight value CloseBounds = if weight == whole_weight then Some Start else if nat_le least value then Some Start else None
most_next least weight value Comma = None
most_next least weight value StrayInNumber = None

-- from where an item of a class may begin
abbrev pub class_item_next : Within → ℕ → Option Control
class_item_next Plain c = Some (ClassSingle c)
class_item_next BackslashWithin c = Some ClassEscape
class_item_next Hyphen c = Some ClassEnd
class_item_next CloseClass c = Some Atom
class_item_next StrayWithin c = None

-- from where the first item of a class begins
abbrev pub class_first_next : Within → ℕ → Option Control
class_first_next Plain c = Some (ClassSingle c)
class_first_next BackslashWithin c = Some ClassEscape
class_first_next Hyphen c = Some ClassItem
class_first_next CloseClass c = None
class_first_next StrayWithin c = None

-- from behind a single of a class
abbrev pub class_single_next : ℕ → Within → ℕ → Option Control
class_single_next low Plain c = Some (ClassSingle c)
class_single_next low BackslashWithin c = Some ClassEscape
class_single_next low Hyphen c = Some (ClassDash low)
class_single_next low CloseClass c = Some Atom
class_single_next low StrayWithin c = None

-- from behind a single and a hyphen
abbrev pub class_dash_next : ℕ → Within → ℕ → Option Control
class_dash_next low Plain c = if nat_le low c then Some ClassItem else None
class_dash_next low BackslashWithin c = if nat_le low 125 then Some (RangeEscape low) else None
class_dash_next low Hyphen c = None
class_dash_next low CloseClass c = Some Atom
class_dash_next low StrayWithin c = None

-- from behind a hyphen that ends a class
abbrev pub class_end_next : Within → Option Control
class_end_next Plain = None
class_end_next BackslashWithin = None
class_end_next Hyphen = None
class_end_next CloseClass = Some Atom
class_end_next StrayWithin = None

-- from behind a backslash in a class
abbrev pub class_escape_next : BehindBackslash → ℕ → Option Control
class_escape_next Space c = Some ClassItem
class_escape_next Letter c = Some (ClassSingle (escaped_letter c))
class_escape_next StrayBehind c = None

-- from behind a backslash where a range ends
abbrev pub range_escape_next : ℕ → BehindBackslash → ℕ → Option Control
range_escape_next low Space c = None
range_escape_next low Letter c = if nat_le low (escaped_letter c) then Some ClassItem else None
range_escape_next low StrayBehind c = None

-- what stands before the character after c
abbrev pub next_control : Control → ℕ → Option Control
next_control Start c = outside_next (outside c)
next_control Atom c = atom_next (outside c)
next_control Escape c = escape_next (behind_backslash c)
next_control (Least weight value) c = least_next weight value (in_number c)
next_control (Most least weight value) c = most_next least weight value (in_number c)
next_control ClassStart c = if c == 94 then Some ClassNegated else class_first_next (within c) c
next_control ClassNegated c = class_first_next (within c) c
next_control ClassItem c = class_item_next (within c) c
next_control (ClassSingle low) c = class_single_next low (within c) c
next_control (ClassDash low) c = class_dash_next low (within c) c
next_control ClassEscape c = class_escape_next (behind_backslash c) c
next_control (RangeEscape low) c = range_escape_next low (behind_backslash c) c
next_control ClassEnd c = class_end_next (within c)

-- how many groups are open then
abbrev pub depth_outside : Outside → ℕ → Option ℕ
depth_outside OpenGroup depth = Some (suc depth)
depth_outside CloseGroup zero = None
depth_outside CloseGroup (suc depth) = Some depth
depth_outside meaning depth = Some depth

-- how many groups are open behind a character, or none where none is open to be closed
abbrev pub depth_after : Control → ℕ → ℕ → Option ℕ
depth_after Start c depth = depth_outside (outside c) depth
depth_after Atom c depth = depth_outside (outside c) depth
depth_after control c depth = Some depth

-- what stands before, and how many groups are open
abbrev pub reading : Control → ℕ → Reading
reading control depth = record { control = control; depth = depth }

-- both, where there are both
abbrev pub joined_reading : Option Control → Option ℕ → Option Reading
joined_reading None depth = None
joined_reading (Some control) None = None
joined_reading (Some control) (Some depth) = Some (reading control depth)

-- where the reading stands behind c
abbrev pub next_reading : Reading → ℕ → Option Reading
next_reading r c = joined_reading (next_control r.control c) (depth_after r.control c r.depth)

-- behind one more character, where there was a reading
abbrev pub step_from : Option Reading → ℕ → Option Reading
step_from None c = None
step_from (Some r) c = next_reading r c

-- where it stands behind characters
abbrev pub run_reading : Option Reading → List ℕ → Option Reading
run_reading r [] = r
run_reading r (c ∷ cs) = run_reading (step_from r c) cs

-- a pattern may end there
abbrev pub ends_piece : Control → Bool
ends_piece Start = true
ends_piece Atom = true
ends_piece control = false

-- whether a pattern may end here
abbrev pub may_end : Reading → Bool
may_end r = ends_piece r.control && (r.depth == 0)

-- the digits read leave room for those that may follow
abbrev pub IsSoundControl : Control → Type 0
IsSoundControl (Least weight value) = HasRoomForDigits weight value
IsSoundControl (Most least weight value) = HasRoomForDigits weight value
IsSoundControl control = Unit {0}
