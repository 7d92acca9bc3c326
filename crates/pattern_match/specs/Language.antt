-- Which words a pattern matches, by recursion on its syntax tree: XML Schema part 2, appendix F.
use Rattle.std.specs.Prelude.{ℕ, zero, suc, ◌≡◌, ◌≢◌, ◌≤◌, ◌⊎◌, Bool, true, false, List, [], ◌∷◌, ◌++◌}
use Rattle.pattern_match.specs.Expression.{ClassMember, One, Range, Spaces, Hyphen, Atom, Character, Dot, Escape, Space, Class, Quantifier, Once, Optional, AnyNumber, OneOrMore, Exactly, AtLeast, Between, Expression, Empty, Piece, Group, Choice}
use Rattle.pattern_match.specs.Valid.{escaped_letter, meant, digits_number}

-- `\s`: space, tab, LF or CR [37]
abbrev pub IsPatternSpace : ℕ → Type 0
IsPatternSpace c = (c ≡ 32) ⊎ ((c ≡ 9) ⊎ ((c ≡ 10) ⊎ (c ≡ 13)))

-- the characters of an item of a class
abbrev pub ItemHas : ClassMember → ℕ → Type 0
ItemHas (One s) c = c ≡ meant s
ItemHas (Range low high) c = (meant low ≤ c) × (c ≤ meant high)
ItemHas Spaces c = IsPatternSpace c
ItemHas Hyphen c = c ≡ 45

-- the characters of some item: posCharGroup [14]
abbrev pub SomeHas : List ClassMember → ℕ → Type 0
SomeHas [] c = ⊥
SomeHas (i ∷ items) c = ItemHas i c ⊎ SomeHas items c

-- the characters of a class: those of some item, or where it is negated all others [15]
abbrev pub ClassHas : Bool → List ClassMember → ℕ → Type 0
ClassHas true items c = SomeHas items c → ⊥
ClassHas false items c = SomeHas items c

-- the characters that an atom matches; `.` is any but LF and CR [37]
abbrev pub AtomHas : Atom → ℕ → Type 0
AtomHas (Character x) c = c ≡ x
AtomHas Dot c = (c ≢ 10) × (c ≢ 13)
AtomHas (Escape letter) c = c ≡ escaped_letter letter
AtomHas Space c = IsPatternSpace c
AtomHas (Class negated items) c = ClassHas negated items c

-- the words of one character that the atom matches
abbrev pub IsOneOf : Atom → List ℕ → Type 0
IsOneOf atom w = (c : ℕ) × (w ≡ c ∷ []) × AtomHas atom c

-- the word is n parts, one after the other, each of which P has
abbrev pub Repeats : (List ℕ → Type 0) → ℕ → List ℕ → Type 0
Repeats P zero w = w ≡ []
Repeats P (suc n) w = (u : List ℕ) × (v : List ℕ) × (w ≡ u ++ v) × P u × Repeats P n v

-- how many parts a quantifier allows [4]
abbrev pub Allows : Quantifier → ℕ → Type 0
Allows Once k = k ≡ 1
Allows Optional k = k ≤ 1
Allows AnyNumber k = Unit {0}
Allows OneOrMore k = 1 ≤ k
Allows (Exactly n) k = k ≡ digits_number n
Allows (AtLeast n) k = digits_number n ≤ k
Allows (Between n m) k = (digits_number n ≤ k) × (k ≤ digits_number m)

-- some number of parts that the quantifier allows, each of which P has
abbrev pub IsQuantified : (List ℕ → Type 0) → Quantifier → List ℕ → Type 0
IsQuantified P quantifier w = (k : ℕ) × Allows quantifier k × Repeats P k w

-- a word of P and then one of Q
abbrev pub IsBoth : (List ℕ → Type 0) → (List ℕ → Type 0) → List ℕ → Type 0
IsBoth P Q w = (u : List ℕ) × (v : List ℕ) × (w ≡ u ++ v) × P u × Q v

-- the words of a pattern
abbrev pub Lang : Expression → List ℕ → Type 0
Lang Empty w = w ≡ []
Lang (Piece atom quantifier rest) w = IsBoth (IsQuantified (IsOneOf atom) quantifier) (Lang rest) w
Lang (Group inner quantifier rest) w = IsBoth (IsQuantified (Lang inner) quantifier) (Lang rest) w
Lang (Choice branch rest) w = Lang branch w ⊎ Lang rest w
