-- The syntax tree of a pattern: XML Schema part 2, appendix F, regExp [1] to SingleCharEsc [24].
use Rattle.std.specs.Prelude.{ℕ, Bool, List}

-- a character written as itself, or as a backslash and a letter: charOrEsc [20], SingleCharEsc [24]
pub data Single : Type 0 where
  Plain : ℕ → Single
  Escaped : ℕ → Single

-- what stands in a class: a single, a range of two singles [18], `\s` [37], or a hyphen that stands for itself [22]
pub data ClassMember : Type 0 where
  One : Single → ClassMember
  Range : Single → Single → ClassMember
  Spaces : ClassMember
  Hyphen : ClassMember

-- what matches one character: a character [10], `.` [37], an escape [24], `\s` [37], or a class [12] that may be negated [15]
pub data Atom : Type 0 where
  Character : ℕ → Atom
  Dot : Atom
  Escape : ℕ → Atom
  Space : Atom
  Class : (negated : Bool) → List ClassMember → Atom

-- how often a piece stands: no quantifier, `?`, `*`, `+`, `{n}`, `{n,}` and `{n,m}` with the digits that are written: quantifier [4] to QuantExact [8]
pub data Quantifier : Type 0 where
  Once : Quantifier
  Optional : Quantifier
  AnyNumber : Quantifier
  OneOrMore : Quantifier
  Exactly : List ℕ → Quantifier
  AtLeast : List ℕ → Quantifier
  Between : List ℕ → List ℕ → Quantifier

-- a pattern [1]: an empty branch [2]; a piece [3] whose atom matches one character, and the pieces after it;
-- a piece whose atom is a pattern in parentheses [9], and the pieces after it; a branch, and the branches after it
pub data Expression : Type 0 where
  Empty : Expression
  Piece : Atom → Quantifier → Expression → Expression
  Group : Expression → Quantifier → Expression → Expression
  Choice : Expression → Expression → Expression
