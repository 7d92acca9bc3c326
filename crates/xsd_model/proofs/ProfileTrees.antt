-- The syntax trees of the profiles of dates and times.
use Rattle.std.proofs.Common.{◌≡◌, ℕ, zero, suc, ◌≤◌, inl, Bool, true, false, nat_lt, ◌&&◌, List, [], ◌∷◌, refl, sym, subst, ◌∙◌, arith, lit≤}
use Rattle.std.specs.Prelude.{codes}
use Rattle.std.specs.Str.{chars, IsAscii}
use Rattle.std.proofs.lemmas.Str.{chars-IsAscii}
use Rattle.std.proofs.lemmas.Bool.Decides.{nat_tests}
use Rattle.pattern_match.specs.Expression.{Plain, Escaped, One, Range, Atom, Character, Escape, Class, Once, Optional, Exactly, Between, Expression, Empty, Piece, Group, Choice}
use Rattle.pattern_match.specs.Valid.{IsExpression, IsBranch, IsAtom, IsOrdinary, AreNumberDigits}
use Rattle.pattern_match.specs.Spelling.{spelling}
use Rattle.pattern_match.specs.Language.{Lang}
use Rattle.pattern_match.specs.Reading.{Matches, IsTreeOf}
use Rattle.pattern_match.proofs.OneTree.{one_tree}
use Rattle.data_types.specs.declared.kind.Kind.{Kind}
use Rattle.data_types.specs.declared.kind.Kind.TheVariants as kind
use Rattle.xsd_model.specs.StepsOf.{profile_pattern}

-- ---- the trees

abbrev pub digit : Atom
digit = Class false (Range (Plain 48) (Plain 57) ∷ [])

abbrev pub digits : List ℕ → Expression → Expression
digits n rest = Piece digit (Exactly n) rest

abbrev pub sign : Atom
sign = Class false (One (Plain 43) ∷ One (Escaped 45) ∷ [])

abbrev pub zoned : Expression
zoned = Choice (Piece (Character 90) Once Empty) (Piece sign Once (digits (codes "2") (Piece (Character 58) Once (digits (codes "2") Empty))))

abbrev pub zone_tree : Expression
zone_tree = Group zoned Optional Empty

abbrev pub to_one : Atom
to_one = Class false (One (Plain 48) ∷ One (Plain 49) ∷ [])

abbrev pub to_three : Atom
to_three = Class false (Range (Plain 48) (Plain 51) ∷ [])

abbrev pub to_five : Atom
to_five = Class false (Range (Plain 48) (Plain 53) ∷ [])

abbrev pub hours : Expression
hours = Choice (Piece to_one Once (Piece digit Once Empty)) (Piece (Character 50) Once (Piece to_three Once Empty))

abbrev pub fraction_tree : Expression
fraction_tree = Piece (Escape 46) Once (Piece digit (Between (codes "1") (codes "9")) Empty)

abbrev pub time_tree : Expression
time_tree = Group hours Once (Piece (Character 58) Once (Piece to_five Once (Piece digit Once (Piece (Character 58) Once (Piece to_five Once (Piece digit Once
    (Group fraction_tree Optional zone_tree)))))))

abbrev pub month_tree : Expression → Expression
month_tree rest = Piece (Character 45) Once (digits (codes "2") rest)

abbrev pub day_tree : Expression → Expression
day_tree rest = digits (codes "4") (Piece (Character 45) Once (digits (codes "2") (Piece (Character 45) Once (digits (codes "2") rest))))

-- the tree of a kind's profile
abbrev pub tree_of : Kind → Expression
tree_of kind.Date = day_tree zone_tree
tree_of kind.DateTime = day_tree (Piece (Character 84) Once time_tree)
tree_of kind.Time = time_tree
tree_of kind.Year = digits (codes "4") zone_tree
tree_of kind.YearMonth = digits (codes "4") (month_tree zone_tree)
tree_of kind.MonthDay = Piece (Character 45) Once (month_tree (month_tree zone_tree))
tree_of kind.Month = Piece (Character 45) Once (month_tree zone_tree)
tree_of kind.Day = Piece (Character 45) Once (Piece (Character 45) Once (month_tree zone_tree))
tree_of k = Empty

-- ---- they are those of the texts

digit_atom : IsAtom digit
digit_atom = (((inl (lit≤ tt, lit≤ tt), refl), (inl (lit≤ tt, lit≤ tt), refl), lit≤ tt), (λ e. refl), tt)

three_atom : IsAtom to_three
three_atom = (((inl (lit≤ tt, lit≤ tt), refl), (inl (lit≤ tt, lit≤ tt), refl), lit≤ tt), (λ e. refl), tt)

five_atom : IsAtom to_five
five_atom = (((inl (lit≤ tt, lit≤ tt), refl), (inl (lit≤ tt, lit≤ tt), refl), lit≤ tt), (λ e. refl), tt)

one_atom : IsAtom to_one
one_atom = ((inl (lit≤ tt, lit≤ tt), refl), (λ e. refl), ((inl (lit≤ tt, lit≤ tt), refl), tt))

sign_atom : IsAtom sign
sign_atom = ((inl (lit≤ tt, lit≤ tt), refl), (λ e. refl), (refl, tt))

char_valid : (c : ℕ) (rest : Expression) → IsOrdinary c → IsBranch rest → IsExpression rest → IsExpression (Piece (Character c) Once rest)
char_valid c rest is branch valid = (is, tt, branch, valid)

atom_valid : (a : Atom) (rest : Expression) → IsAtom a → IsBranch rest → IsExpression rest → IsExpression (Piece a Once rest)
atom_valid a rest is branch valid = (is, tt, branch, valid)

digits_valid : (ds : List ℕ) (rest : Expression) → AreNumberDigits ds → IsBranch rest → IsExpression rest → IsExpression (digits ds rest)
digits_valid ds rest is branch valid = (digit_atom, is, branch, valid)

one_digit : (c : ℕ) → (48 ≤ c) × (c ≤ 57) → AreNumberDigits (c ∷ [])
one_digit c is = record { each = (is, tt); least = lit≤ tt; most = lit≤ tt }

two : AreNumberDigits (codes "2")
two = one_digit 50 (lit≤ tt, lit≤ tt)

four : AreNumberDigits (codes "4")
four = one_digit 52 (lit≤ tt, lit≤ tt)

hyphen_is : IsOrdinary 45
hyphen_is = (inl (lit≤ tt, lit≤ tt), refl)

colon_is : IsOrdinary 58
colon_is = (inl (lit≤ tt, lit≤ tt), refl)

zone_valid : IsExpression zone_tree
zone_valid = (
  (
    tt,
    char_valid 90 Empty (inl (lit≤ tt, lit≤ tt), refl) tt tt,
    atom_valid sign (digits (codes "2") (Piece (Character 58) Once (digits (codes "2") Empty))) sign_atom tt
        (digits_valid (codes "2") (Piece (Character 58) Once (digits (codes "2") Empty)) two tt (char_valid 58 (digits (codes "2") Empty) colon_is tt (digits_valid (codes "2") Empty two tt tt))),
  ),
  tt,
  tt,
  tt,
)

fraction_valid : IsExpression fraction_tree
fraction_valid = (refl, tt, tt, (digit_atom, (one_digit 49 (lit≤ tt, lit≤ tt), one_digit 57 (lit≤ tt, lit≤ tt), lit≤ tt), tt, tt))

hours_valid : IsExpression hours
hours_valid = (
  tt,
  atom_valid to_one (Piece digit Once Empty) one_atom tt (atom_valid digit Empty digit_atom tt tt),
  char_valid 50 (Piece to_three Once Empty) (inl (lit≤ tt, lit≤ tt), refl) tt (atom_valid to_three Empty three_atom tt tt),
)

sixty_valid : (rest : Expression) → IsBranch rest → IsExpression rest → IsExpression (Piece (Character 58) Once (Piece to_five Once (Piece digit Once rest)))
sixty_valid rest branch valid =
    char_valid 58 (Piece to_five Once (Piece digit Once rest)) colon_is tt (atom_valid to_five (Piece digit Once rest) five_atom tt (atom_valid digit rest digit_atom branch valid))

time_valid : IsExpression time_tree
time_valid = (
  hours_valid,
  tt,
  tt,
  sixty_valid (Piece (Character 58) Once (Piece to_five Once (Piece digit Once (Group fraction_tree Optional zone_tree)))) tt
      (sixty_valid (Group fraction_tree Optional zone_tree) tt (fraction_valid, tt, tt, zone_valid)),
)

month_valid : (rest : Expression) → IsBranch rest → IsExpression rest → IsExpression (Piece (Character 45) Once (digits (codes "2") rest))
month_valid rest branch valid = char_valid 45 (digits (codes "2") rest) hyphen_is tt (digits_valid (codes "2") rest two branch valid)

day_valid : (rest : Expression) → IsBranch rest → IsExpression rest → IsExpression (day_tree rest)
day_valid rest branch valid =
    digits_valid (codes "4") (Piece (Character 45) Once (digits (codes "2") (Piece (Character 45) Once (digits (codes "2") rest)))) four tt
    (month_valid (Piece (Character 45) Once (digits (codes "2") rest)) tt (month_valid rest branch valid))

-- a list of ASCII, by a test
is_low : List ℕ → Bool
is_low [] = true
is_low (c ∷ cs) = nat_lt c 128 && is_low cs

low_ascii : (cs : List ℕ) → is_low cs ≡ true → IsAscii cs
unfolding is_low
low_ascii [] e i = lit≤ tt
low_ascii (c ∷ cs) e zero = grind (arith, nat_tests, e)
low_ascii (c ∷ cs) e (suc i) = low_ascii cs (grind (arith, nat_tests, e)) i

by_text : (bytes : List ℕ) (tree : Expression) → is_low bytes ≡ true → spelling tree ≡ bytes → IsExpression tree → IsTreeOf (chars bytes) tree
by_text bytes tree low e valid = record { valid = valid; spelled = e ∙ sym (chars-IsAscii bytes (low_ascii bytes low)) }

-- the tree is that of the pattern that is written
pub tree_is : (k : Kind) → IsTreeOf (chars (profile_pattern k)) (tree_of k)
unfolding is_low
tree_is kind.Date = by_text (profile_pattern kind.Date) (tree_of kind.Date) refl refl (day_valid zone_tree tt zone_valid)
tree_is kind.DateTime =
    by_text (profile_pattern kind.DateTime) (tree_of kind.DateTime) refl refl
    (day_valid (Piece (Character 84) Once time_tree) tt (char_valid 84 time_tree (inl (lit≤ tt, lit≤ tt), refl) tt time_valid))
tree_is kind.Time = by_text (profile_pattern kind.Time) (tree_of kind.Time) refl refl time_valid
tree_is kind.Year = by_text (profile_pattern kind.Year) (tree_of kind.Year) refl refl (digits_valid (codes "4") zone_tree four tt zone_valid)
tree_is kind.YearMonth =
    by_text (profile_pattern kind.YearMonth) (tree_of kind.YearMonth) refl refl
    (digits_valid (codes "4") (month_tree zone_tree) four tt (month_valid zone_tree tt zone_valid))
tree_is kind.MonthDay =
    by_text (profile_pattern kind.MonthDay) (tree_of kind.MonthDay) refl refl
    (char_valid 45 (month_tree (month_tree zone_tree)) hyphen_is tt (month_valid (month_tree zone_tree) tt (month_valid zone_tree tt zone_valid)))
tree_is kind.Month =
    by_text (profile_pattern kind.Month) (tree_of kind.Month) refl refl (char_valid 45 (month_tree zone_tree) hyphen_is tt (month_valid zone_tree tt zone_valid))
tree_is kind.Day =
    by_text (profile_pattern kind.Day) (tree_of kind.Day) refl refl
    (char_valid 45 (Piece (Character 45) Once (month_tree zone_tree)) hyphen_is tt (char_valid 45 (month_tree zone_tree) hyphen_is tt (month_valid zone_tree tt zone_valid)))
tree_is kind.Text = by_text [] Empty refl refl tt
tree_is kind.Decimal = by_text [] Empty refl refl tt
tree_is kind.Boolean = by_text [] Empty refl refl tt
tree_is kind.Binary = by_text [] Empty refl refl tt
tree_is kind.Envelope = by_text [] Empty refl refl tt

-- a word of the pattern is one of its tree
pub word_of_tree : (k : Kind) (text : List ℕ) → Matches (chars (profile_pattern k)) text → Lang (tree_of k) text
word_of_tree k text (tree, is, l) = subst (λ t. Lang t text) (one_tree (chars (profile_pattern k)) tree (tree_of k) is (tree_is k)) l
