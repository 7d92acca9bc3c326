-- How the syntax tree of a pattern is spelled, as a list of characters: XML Schema part 2, appendix F.
use Rattle.std.specs.Prelude.{ℕ, Bool, true, false, List, [], ◌∷◌, ◌++◌}
use Rattle.pattern_match.specs.Expression.{Single, Plain, Escaped, ClassMember, One, Range, Spaces, Hyphen, Atom, Character, Dot, Escape, Space, Class, Quantifier, Once, Optional, AnyNumber, OneOrMore, Exactly, AtLeast, Between, Expression, Empty, Piece, Group, Choice}

-- charOrEsc [20]
abbrev pub single_spelling : Single → List ℕ
single_spelling (Plain c) = c ∷ []
single_spelling (Escaped letter) = 92 ∷ letter ∷ []

-- charRange [17] and seRange [18]
abbrev pub item_spelling : ClassMember → List ℕ
item_spelling (One s) = single_spelling s
item_spelling (Range low high) = single_spelling low ++ 45 ∷ single_spelling high
item_spelling Spaces = 92 ∷ 115 ∷ []
item_spelling Hyphen = 45 ∷ []

-- the items of a class, one after the other: posCharGroup [14]
abbrev pub items_spelling : List ClassMember → List ℕ
items_spelling [] = []
items_spelling (i ∷ items) = item_spelling i ++ items_spelling items

-- what stands after the opening bracket where a class is negated: negCharGroup [15]
abbrev pub negation_spelling : Bool → List ℕ
negation_spelling true = 94 ∷ []
negation_spelling false = []

-- atom [9]
abbrev pub atom_spelling : Atom → List ℕ
atom_spelling (Character c) = c ∷ []
atom_spelling Dot = 46 ∷ []
atom_spelling (Escape letter) = 92 ∷ letter ∷ []
atom_spelling Space = 92 ∷ 115 ∷ []
atom_spelling (Class negated items) = 91 ∷ (negation_spelling negated ++ (items_spelling items ++ 93 ∷ []))

-- quantifier [4]
abbrev pub quantifier_spelling : Quantifier → List ℕ
quantifier_spelling Once = []
quantifier_spelling Optional = 63 ∷ []
quantifier_spelling AnyNumber = 42 ∷ []
quantifier_spelling OneOrMore = 43 ∷ []
quantifier_spelling (Exactly n) = 123 ∷ (n ++ 125 ∷ [])
quantifier_spelling (AtLeast n) = 123 ∷ (n ++ 44 ∷ 125 ∷ [])
quantifier_spelling (Between n m) = 123 ∷ (n ++ 44 ∷ (m ++ 125 ∷ []))

-- regExp [1]
abbrev pub spelling : Expression → List ℕ
spelling Empty = []
spelling (Piece atom quantifier rest) = atom_spelling atom ++ (quantifier_spelling quantifier ++ spelling rest)
spelling (Group inner quantifier rest) = 40 ∷ (spelling inner ++ 41 ∷ (quantifier_spelling quantifier ++ spelling rest))
spelling (Choice branch rest) = spelling branch ++ 124 ∷ spelling rest
