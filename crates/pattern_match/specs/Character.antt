-- What a character of a pattern's text means where it stands, XML Schema part 2, appendix F: the state of a machine, which the contracts of private functions alone cite.
use Rattle.std.specs.Prelude.{ℕ, ◌-◌, Bool, ◌&&◌, ◌||◌, ◌==◌, nat_le, if◌then◌else◌, codes}
use Rattle.pattern_match.specs.Valid.{is_among}
use Rattle.pattern_match.specs.declared.character.Outside.{Outside}
use Rattle.pattern_match.specs.declared.character.Outside.TheVariants.{Ordinary, Dot, Backslash, OpenClass, OpenGroup, CloseGroup, Bar, Optional, AnyNumber, OneOrMore, OpenBounds, Stray}
use Rattle.pattern_match.specs.declared.character.Within.{Within}
use Rattle.pattern_match.specs.declared.character.Within.TheVariants.{Plain, Backslash as BackslashWithin, Hyphen, CloseClass, Stray as StrayWithin}
use Rattle.pattern_match.specs.declared.character.InNumber.{InNumber}
use Rattle.pattern_match.specs.declared.character.InNumber.TheVariants.{Digit, Comma, CloseBounds, Stray as StrayInNumber}
use Rattle.pattern_match.specs.declared.character.BehindBackslash.{BehindBackslash}
use Rattle.pattern_match.specs.declared.character.BehindBackslash.TheVariants.{Space, Letter, Stray as StrayBehind}

-- XML 1.0 §2.2, Char, as a test
abbrev pub is_xml_character : ℕ → Bool
is_xml_character c = (nat_le 0x20 c && nat_le c 0xD7FF) || (nat_le 0x9 c && nat_le c 0xA) || (c == 0xD) || (nat_le 0xE000 c && nat_le c 0xFFFD) || (nat_le 0x1_0000 c && nat_le c 0x10_FFFF)

-- outside a class
abbrev pub outside : ℕ → Outside
outside c =
    if c == 46 then Dot else if c == 92 then Backslash else if c == 91 then OpenClass else if c == 40 then OpenGroup else if c == 41 then CloseGroup
    else if c == 124 then Bar else if c == 63 then Optional else if c == 42 then AnyNumber else if c == 43 then OneOrMore else if c == 123 then OpenBounds
    else if c == 93 then Stray else if c == 125 then Stray else if is_xml_character c then Ordinary else Stray

-- in a class
abbrev pub within : ℕ → Within
within c =
    if c == 92 then BackslashWithin else if c == 45 then Hyphen else if c == 93 then CloseClass else if c == 91 then StrayWithin
    else if is_xml_character c then Plain else StrayWithin

-- in the bounds of a quantifier
abbrev pub in_number : ℕ → InNumber
in_number c =
    if nat_le 48 c && nat_le c 57 then Digit (c - 48) else if c == 44 then Comma else if c == 125 then CloseBounds else StrayInNumber

-- whether the letter makes an escape: SingleCharEsc [24]
abbrev pub is_escape_letter : ℕ → Bool
is_escape_letter c = is_among (codes "nrt\\|.-^?*+{}()[]") c

-- behind a backslash
abbrev pub behind_backslash : ℕ → BehindBackslash
behind_backslash c = if c == 115 then Space else if is_escape_letter c then Letter else StrayBehind
