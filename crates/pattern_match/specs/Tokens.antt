-- The tokens of a pattern's text, character by character: the state of a machine, which the contracts of private functions alone cite.
use Rattle.std.specs.Prelude.{ℕ, true, false, ◌==◌, if◌then◌else◌, Option, Some, None, List, [], ◌∷◌, ◌++◌}
use Rattle.pattern_match.specs.Valid.{escaped_letter}
use Rattle.pattern_match.specs.Character.{outside, within, in_number, behind_backslash}
use Rattle.pattern_match.specs.Control.{whole_weight, next_control}
use Rattle.pattern_match.specs.declared.character.Outside.{Outside}
use Rattle.pattern_match.specs.declared.character.Outside.TheVariants.{Ordinary, Dot, Backslash, OpenClass, OpenGroup, CloseGroup, Bar, Optional, AnyNumber, OneOrMore, OpenBounds, Stray}
use Rattle.pattern_match.specs.declared.character.Within.{Within}
use Rattle.pattern_match.specs.declared.character.Within.TheVariants.{Plain, Backslash as BackslashWithin, Hyphen, CloseClass, Stray as StrayWithin}
use Rattle.pattern_match.specs.declared.character.InNumber.{InNumber}
use Rattle.pattern_match.specs.declared.character.InNumber.TheVariants.{Digit, Comma, CloseBounds, Stray as StrayInNumber}
use Rattle.pattern_match.specs.declared.character.BehindBackslash.{BehindBackslash}
use Rattle.pattern_match.specs.declared.character.BehindBackslash.TheVariants.{Space, Letter, Stray as StrayBehind}
use Rattle.pattern_match.specs.declared.control.Control.{Control}
use Rattle.pattern_match.specs.declared.control.Control.TheVariants.{Start, Atom, Escape, Least, Most, ClassStart as InClassStart, ClassNegated, ClassItem, ClassSingle, ClassDash, ClassEscape, RangeEscape, ClassEnd}
use Rattle.pattern_match.specs.declared.token.Token.{Token}
use Rattle.pattern_match.specs.declared.token.Token.TheVariants.{Open as OpenToken, Close as CloseToken, Bar as BarToken, Single as SingleToken, Dot as DotToken, Spaces as SpacesToken, ClassStart, Member, Times}

-- at the start of a piece
abbrev pub outside_tokens : Outside → ℕ → List Token
outside_tokens Ordinary c = SingleToken c ∷ []
outside_tokens Dot c = DotToken ∷ []
outside_tokens OpenGroup c = OpenToken ∷ []
outside_tokens CloseGroup c = CloseToken ∷ []
outside_tokens Bar c = BarToken ∷ []
outside_tokens Backslash c = []
outside_tokens OpenClass c = []
outside_tokens Optional c = []
outside_tokens AnyNumber c = []
outside_tokens OneOrMore c = []
outside_tokens OpenBounds c = []
outside_tokens Stray c = []

-- behind an atom
abbrev pub behind_atom_tokens : Outside → ℕ → List Token
behind_atom_tokens Optional c = Times 0 (Some 1) ∷ []
behind_atom_tokens AnyNumber c = Times 0 None ∷ []
behind_atom_tokens OneOrMore c = Times 1 None ∷ []
behind_atom_tokens Ordinary c = SingleToken c ∷ []
behind_atom_tokens Dot c = DotToken ∷ []
behind_atom_tokens OpenGroup c = OpenToken ∷ []
behind_atom_tokens CloseGroup c = CloseToken ∷ []
behind_atom_tokens Bar c = BarToken ∷ []
behind_atom_tokens Backslash c = []
behind_atom_tokens OpenClass c = []
behind_atom_tokens OpenBounds c = []
behind_atom_tokens Stray c = []

-- behind a backslash outside a class
abbrev pub escape_tokens : BehindBackslash → ℕ → List Token
escape_tokens Space c = SpacesToken ∷ []
escape_tokens Letter c = SingleToken (escaped_letter c) ∷ []
escape_tokens StrayBehind c = []

-- in the first bound
abbrev pub least_tokens : ℕ → InNumber → List Token
least_tokens value (Digit digit) = []
least_tokens value Comma = []
least_tokens value CloseBounds = Times value (Some value) ∷ []
least_tokens value StrayInNumber = []

-- in the second bound
abbrev pub most_tokens : ℕ → ℕ → ℕ → InNumber → List Token
most_tokens least weight value (Digit digit) = []
most_tokens least weight value Comma = []
most_tokens least weight value CloseBounds = if weight == whole_weight then Times least None ∷ [] else Times least (Some value) ∷ []
most_tokens least weight value StrayInNumber = []

-- where an item of a class may begin
abbrev pub item_tokens : Within → ℕ → List Token
item_tokens Plain c = Member c c ∷ []
item_tokens Hyphen c = Member 45 45 ∷ []
item_tokens BackslashWithin c = []
item_tokens CloseClass c = []
item_tokens StrayWithin c = []

-- behind a single of a class, which may begin a range
abbrev pub single_tokens : Within → ℕ → List Token
single_tokens Plain c = Member c c ∷ []
single_tokens Hyphen c = []
single_tokens BackslashWithin c = []
single_tokens CloseClass c = []
single_tokens StrayWithin c = []

-- behind a single and a hyphen
abbrev pub dash_tokens : ℕ → Within → ℕ → List Token
dash_tokens low Plain c = Member low c ∷ []
dash_tokens low Hyphen c = []
dash_tokens low BackslashWithin c = []
dash_tokens low CloseClass c = Member 45 45 ∷ []
dash_tokens low StrayWithin c = []

-- behind a backslash in a class
abbrev pub class_escape_tokens : BehindBackslash → ℕ → List Token
class_escape_tokens Space c = Member 32 32 ∷ Member 9 10 ∷ Member 13 13 ∷ []
class_escape_tokens Letter c = Member (escaped_letter c) (escaped_letter c) ∷ []
class_escape_tokens StrayBehind c = []

-- behind a backslash where a range ends
abbrev pub range_escape_tokens : ℕ → BehindBackslash → ℕ → List Token
range_escape_tokens low Space c = []
range_escape_tokens low Letter c = Member low (escaped_letter c) ∷ []
range_escape_tokens low StrayBehind c = []

-- the tokens that a character ends
abbrev pub emits : Control → ℕ → List Token
emits Start c = outside_tokens (outside c) c
emits Atom c = behind_atom_tokens (outside c) c
emits Escape c = escape_tokens (behind_backslash c) c
emits (Least weight value) c = least_tokens value (in_number c)
emits (Most least weight value) c = most_tokens least weight value (in_number c)
emits InClassStart c = if c == 94 then ClassStart true ∷ [] else ClassStart false ∷ item_tokens (within c) c
emits ClassNegated c = item_tokens (within c) c
emits ClassItem c = item_tokens (within c) c
emits (ClassSingle low) c = single_tokens (within c) c
emits (ClassDash low) c = dash_tokens low (within c) c
emits ClassEscape c = class_escape_tokens (behind_backslash c) c
emits (RangeEscape low) c = range_escape_tokens low (behind_backslash c) c
emits ClassEnd c = []

-- the tokens of characters, up to one that no pattern has there
abbrev pub emit_tokens : Option Control → List ℕ → List Token
emit_tokens None cs = []
emit_tokens (Some control) [] = []
emit_tokens (Some control) (c ∷ cs) = emits control c ++ emit_tokens (next_control control c) cs
