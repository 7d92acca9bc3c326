-- Which syntax trees are a pattern: XML Schema part 2, appendix F, without `\d \w \i \c \p`, their negations and class subtraction.
use Rattle.std.specs.Prelude.{ℕ, ◌≡◌, ◌≤◌, ◌-◌, ◌+◌, ◌*◌, Bool, true, false, ◌||◌, ◌==◌, if◌then◌else◌, List, [], ◌∷◌, length, codes}
use Rattle.std.specs.List.{AllByRecursion}
use Rattle.lexical_core.specs.Characters.{IsXmlChar}
use Rattle.pattern_match.specs.Expression.{Single, Plain, Escaped, ClassMember, One, Range, Spaces, Hyphen, Atom, Character, Dot, Escape, Space, Class, Quantifier, Exactly, AtLeast, Between, Expression, Empty, Piece, Group, Choice}

-- whether the list has the character
abbrev pub is_among : List ℕ → ℕ → Bool
is_among [] c = false
is_among (x ∷ xs) c = (x == c) || is_among xs c

-- a character that stands for itself outside a class: Char [10]
abbrev pub IsOrdinary : ℕ → Type 0
IsOrdinary c = IsXmlChar c × (is_among (codes ".\\?*+()|[]{}") c ≡ false)

-- a letter that makes an escape after a backslash: SingleCharEsc [24]
abbrev pub IsEscapeLetter : ℕ → Type 0
IsEscapeLetter c = is_among (codes "nrt\\|.-^?*+{}()[]") c ≡ true

-- the character that an escape of this letter stands for: LF, CR, tab, or the letter itself [24]
abbrev pub escaped_letter : ℕ → ℕ
escaped_letter letter = if letter == 110 then 10 else if letter == 114 then 13 else if letter == 116 then 9 else letter

-- the character that a single stands for
abbrev pub meant : Single → ℕ
meant (Plain c) = c
meant (Escaped letter) = escaped_letter letter

-- XmlCharIncDash [22] without the hyphen, or an escape
abbrev pub IsSingle : Single → Type 0
IsSingle (Plain c) = IsXmlChar c × (is_among (codes "\\[]-") c ≡ false)
IsSingle (Escaped letter) = IsEscapeLetter letter

-- a range does not fall: seRange [18]
abbrev pub IsItem : ClassMember → Type 0
IsItem (One s) = IsSingle s
IsItem (Range low high) = IsSingle low × IsSingle high × (meant low ≤ meant high)
IsItem Spaces = Unit {0}
IsItem Hyphen = Unit {0}

-- items after others: a hyphen stands only at the end
abbrev pub AreLaterItems : List ClassMember → Type 0
AreLaterItems [] = Unit {0}
AreLaterItems (Hyphen ∷ items) = items ≡ []
AreLaterItems (i ∷ items) = IsItem i × AreLaterItems items

-- the item begins with a circumflex that is written as itself
abbrev pub begins_with_caret : ClassMember → Bool
begins_with_caret (One (Plain c)) = c == 94
begins_with_caret (Range (Plain c) high) = c == 94
begins_with_caret i = false

-- the items of a class: at least one, a hyphen only at the start or the end; where the class is not negated, no circumflex at the start
abbrev pub AreItems : Bool → List ClassMember → Type 0
AreItems negated [] = ⊥
AreItems negated (Hyphen ∷ items) = AreLaterItems items
AreItems negated (i ∷ items) = IsItem i × (negated ≡ false → begins_with_caret i ≡ false) × AreLaterItems items

-- atom [9]: an ordinary character, `.`, an escape, `\s` or a class; a group is judged with the expression
abbrev pub IsAtom : Atom → Type 0
IsAtom (Character c) = IsOrdinary c
IsAtom Dot = Unit {0}
IsAtom (Escape letter) = IsEscapeLetter letter
IsAtom Space = Unit {0}
IsAtom (Class negated items) = AreItems negated items

-- an ASCII digit: quantity [5] is written in them
abbrev pub IsDigit : ℕ → Type 0
IsDigit c = (48 ≤ c) × (c ≤ 57)

-- one to nine digits
pub record AreNumberDigits (digits : List ℕ) : Type 0 where
  pub each : AllByRecursion IsDigit digits
  pub least : 1 ≤ length digits
  pub most : length digits ≤ 9

-- what digits stand for, after digits that stand for n
abbrev pub number_after : ℕ → List ℕ → ℕ
number_after n [] = n
number_after n (d ∷ digits) = number_after (10 * n + (d - 48)) digits

-- what digits stand for
abbrev pub digits_number : List ℕ → ℕ
digits_number = number_after 0

-- bounds do not fall: quantRange [6]
abbrev pub IsQuantifier : Quantifier → Type 0
IsQuantifier (Exactly n) = AreNumberDigits n
IsQuantifier (AtLeast n) = AreNumberDigits n
IsQuantifier (Between n m) = AreNumberDigits n × AreNumberDigits m × (digits_number n ≤ digits_number m)
IsQuantifier q = Unit {0}

-- no bar outside parentheses: branch [2]
abbrev pub IsBranch : Expression → Type 0
IsBranch (Choice branch rest) = ⊥
IsBranch e = Unit {0}

-- regExp [1]
abbrev pub IsExpression : Expression → Type 0
IsExpression Empty = Unit {0}
IsExpression (Piece atom quantifier rest) = IsAtom atom × IsQuantifier quantifier × IsBranch rest × IsExpression rest
IsExpression (Group inner quantifier rest) = IsExpression inner × IsQuantifier quantifier × IsBranch rest × IsExpression rest
IsExpression (Choice branch rest) = IsBranch branch × IsExpression branch × IsExpression rest
