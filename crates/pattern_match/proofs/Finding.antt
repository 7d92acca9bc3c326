-- Characters that are read to an end where a pattern may end are spelled by a syntax tree.
use Rattle.std.proofs.Common.{◌≡◌, ◌≢◌, ℕ, zero, suc, ◌+◌, ◌*◌, ◌/◌, ◌≤◌, ◌<◌, ◌⊎◌, inl, inr, Bool, true, false, cond, ◌==◌, nat_le, nat_lt, Option, Some, None, List, [], ◌∷◌, ◌++◌, length, refl, sym, ap, ◌∙◌, subst, ⊎_elim, arith, append_assoc, leb-true, eqb-true, ltb-false, le_refl, mul-le-mul, lit≤, lit<, ltb-true}
use Rattle.std.proofs.lemmas.Bool.{eqb-false}
use Rattle.std.specs.List.{AllByRecursion}
use Rattle.pattern_match.specs.Expression.{Single, Plain, Escaped, ClassMember, One, Range, Spaces, Hyphen, Atom, Character, Dot, Escape, Space, Class, Quantifier, Once, Optional, AnyNumber, OneOrMore, Exactly, AtLeast, Between, Expression, Empty, Piece, Group, Choice}
use Rattle.pattern_match.specs.Spelling.{single_spelling, items_spelling, negation_spelling, atom_spelling, quantifier_spelling, spelling}
use Rattle.pattern_match.specs.Valid.{escaped_letter, meant, IsSingle, AreLaterItems, AreItems, begins_with_caret, IsEscapeLetter, IsAtom, IsDigit, AreNumberDigits, digits_number, number_after, IsQuantifier, IsExpression}
use Rattle.pattern_match.specs.Character.{outside, within, in_number, behind_backslash}
use Rattle.pattern_match.specs.Control.{whole_weight, outside_next, atom_next, escape_next, least_next, most_next, class_first_next, class_item_next, class_single_next, class_dash_next, class_end_next, class_escape_next, range_escape_next, depth_outside, reading, joined_reading, run_reading, may_end}
use Rattle.pattern_match.specs.declared.character.Outside.{Outside}
use Rattle.pattern_match.specs.declared.character.Outside.TheVariants.{Ordinary, Dot as DotOutside, Backslash, OpenClass, OpenGroup, CloseGroup, Bar, Optional as OptionalOutside, AnyNumber as AnyNumberOutside, OneOrMore as OneOrMoreOutside, OpenBounds, Stray}
use Rattle.pattern_match.specs.declared.character.Within.{Within}
use Rattle.pattern_match.specs.declared.character.Within.TheVariants.{Plain as PlainWithin, Backslash as BackslashWithin, Hyphen as HyphenWithin, CloseClass, Stray as StrayWithin}
use Rattle.pattern_match.specs.declared.character.InNumber.{InNumber}
use Rattle.pattern_match.specs.declared.character.InNumber.TheVariants.{Digit, Comma, CloseBounds, Stray as StrayInNumber}
use Rattle.pattern_match.specs.declared.character.BehindBackslash.{BehindBackslash}
use Rattle.pattern_match.specs.declared.character.BehindBackslash.TheVariants.{Space as SpaceBehind, Letter, Stray as StrayBehind}
use Rattle.pattern_match.specs.declared.control.Control.{Control}
use Rattle.pattern_match.specs.declared.control.Control.TheVariants.{Start, Atom as InAtom, Escape as InEscape, Least, Most, ClassStart as InClassStart, ClassNegated, ClassItem, ClassSingle, ClassDash, ClassEscape, RangeEscape, ClassEnd}
use Rattle.pattern_match.specs.declared.control.Reading.{Reading}
use Rattle.pattern_match.proofs.CharacterLemmas.{OutsideTells, outside_tells, WithinTells, within_tells, NumberTells, number_tells, BackslashTells, backslash_tells}
use Rattle.pattern_match.proofs.ControlLemmas.{SoundIf, next_sound, room_digit}
use Rattle.pattern_match.proofs.Leading.{shrunk}
use Rattle.pattern_match.specs.Control.{IsSoundControl, HasRoomForDigits}

-- the characters lead to where a pattern may end
abbrev pub Accepted : Option Reading → List ℕ → Type 0
Accepted o cs = (r : Reading) × (run_reading o cs ≡ Some r) × (may_end r ≡ true)

pub none_run : (cs : List ℕ) → run_reading None cs ≡ None
none_run [] = refl
none_run (c ∷ cs) = none_run cs

pub not_none : (cs : List ℕ) → Accepted None cs → ⊥
not_none cs (r, e, m) = let n : run_reading None cs ≡ None = none_run cs in cc

-- a branch or pattern, and for each open group its end, its quantifier and what follows it
abbrev pub Rest : ℕ → List ℕ → Type 0
Rest zero cs = (t : Expression) × IsExpression t × (cs ≡ spelling t)
Rest (suc d) cs = (t : Expression) × (q : Quantifier) × (more : List ℕ) × IsExpression t × IsQuantifier q × (cs ≡ spelling t ++ 41 ∷ (quantifier_spelling q ++ more)) × Rest d more

-- the same behind an atom
abbrev pub AtomRest : ℕ → List ℕ → Type 0
AtomRest d cs = (q : Quantifier) × (more : List ℕ) × IsQuantifier q × (cs ≡ quantifier_spelling q ++ more) × Rest d more

-- behind parts of a class
abbrev pub ItemsRest : ℕ → List ℕ → Type 0
ItemsRest d cs = (items : List ClassMember) × (more : List ℕ) × AreLaterItems items × (cs ≡ items_spelling items ++ 93 ∷ more) × AtomRest d more

abbrev pub RangeRest : ℕ → ℕ → List ℕ → Type 0
RangeRest low d cs =
    (high : Single) × (items : List ClassMember) × (more : List ℕ) × IsSingle high × (low ≤ meant high) × AreLaterItems items
    × (cs ≡ single_spelling high ++ (items_spelling items ++ 93 ∷ more)) × AtomRest d more

abbrev pub SingleRest : ℕ → ℕ → List ℕ → Type 0
SingleRest low d cs = ItemsRest d cs ⊎ ((more : List ℕ) × (cs ≡ 45 ∷ more) × RangeRest low d more)

abbrev pub CloseRest : ℕ → List ℕ → Type 0
CloseRest d cs = (more : List ℕ) × (cs ≡ 93 ∷ more) × AtomRest d more

abbrev pub EscapeRest : ℕ → List ℕ → Type 0
EscapeRest d cs = ((more : List ℕ) × (cs ≡ 115 ∷ more) × ItemsRest d more) ⊎ ((e : ℕ) × (more : List ℕ) × IsEscapeLetter e × (cs ≡ e ∷ more) × SingleRest (escaped_letter e) d more)

abbrev pub FirstRest : Bool → ℕ → List ℕ → Type 0
FirstRest negated d cs = (items : List ClassMember) × (more : List ℕ) × AreItems negated items × (cs ≡ items_spelling items ++ 93 ∷ more) × AtomRest d more

-- digits that take their weight
abbrev pub Took : List ℕ → ℕ → Type 0
Took [] weight = Unit {0}
Took (c ∷ digits) weight = (10 ≤ weight) × Took digits (weight / 10)

abbrev pub MostRest : ℕ → ℕ → ℕ → ℕ → List ℕ → Type 0
MostRest least weight value d cs =
    (digits : List ℕ) × (more : List ℕ) × AllByRecursion IsDigit digits × Took digits weight
    × (((digits ≡ []) × (weight ≡ whole_weight)) ⊎ ((shrunk digits weight ≢ whole_weight) × (least ≤ number_after value digits)))
    × (cs ≡ digits ++ 125 ∷ more) × Rest d more

abbrev pub BoundsRest : ℕ → ℕ → List ℕ → Type 0
BoundsRest value d cs = ((more : List ℕ) × (cs ≡ 125 ∷ more) × Rest d more) ⊎ ((more : List ℕ) × (cs ≡ 44 ∷ more) × MostRest value whole_weight 0 d more)

abbrev pub LeastRest : ℕ → ℕ → ℕ → List ℕ → Type 0
LeastRest weight value d cs =
    (digits : List ℕ) × (more : List ℕ) × AllByRecursion IsDigit digits × Took digits weight × (shrunk digits weight < whole_weight)
    × (cs ≡ digits ++ more) × BoundsRest (number_after value digits) d more

-- what is left by what stands before
abbrev pub Means : Control → ℕ → List ℕ → Type 0
Means Start d cs = Rest d cs
Means InAtom d cs = AtomRest d cs
Means InEscape d cs = ((more : List ℕ) × (cs ≡ 115 ∷ more) × AtomRest d more) ⊎ ((e : ℕ) × (more : List ℕ) × IsEscapeLetter e × (cs ≡ e ∷ more) × AtomRest d more)
Means (Least weight value) d cs = LeastRest weight value d cs
Means (Most least weight value) d cs = MostRest least weight value d cs
Means InClassStart d cs = (negated : Bool) × (more : List ℕ) × (cs ≡ negation_spelling negated ++ more) × FirstRest negated d more
Means ClassNegated d cs = FirstRest true d cs
Means ClassItem d cs = ItemsRest d cs
Means (ClassSingle low) d cs = SingleRest low d cs
Means (ClassDash low) d cs = CloseRest d cs ⊎ RangeRest low d cs
Means ClassEscape d cs = EscapeRest d cs
Means (RangeEscape low) d cs = (e : ℕ) × (more : List ℕ) × IsEscapeLetter e × (low ≤ escaped_letter e) × (cs ≡ e ∷ more) × ItemsRest d more
Means ClassEnd d cs = CloseRest d cs

-- a piece before a pattern
abbrev before : Atom → Quantifier → Expression → Expression
before a q (Choice b r) = Choice (Piece a q b) r
before a q t = Piece a q t

abbrev group_before : Expression → Quantifier → Expression → Expression
group_before i q (Choice b r) = Choice (Group i q b) r
group_before i q t = Group i q t

before_valid : (a : Atom) (q : Quantifier) (t : Expression) → IsAtom a → IsQuantifier q → IsExpression t → IsExpression (before a q t)
before_valid a q (Choice b r) va vq v = (tt, (va, vq, v.0, v.1), v.2)
before_valid a q Empty va vq v = (va, vq, tt, tt)
before_valid a q (Piece x y z) va vq v = (va, vq, tt, v)
before_valid a q (Group x y z) va vq v = (va, vq, tt, v)

before_spelled : (a : Atom) (q : Quantifier) (t : Expression) → atom_spelling a ++ (quantifier_spelling q ++ spelling t) ≡ spelling (before a q t)
before_spelled a q (Choice b r) =
    ap (λ x. atom_spelling a ++ x) (sym (append_assoc (quantifier_spelling q) (spelling b) (124 ∷ spelling r)))
    ∙ sym (append_assoc (atom_spelling a) (quantifier_spelling q ++ spelling b) (124 ∷ spelling r))
before_spelled a q Empty = refl
before_spelled a q (Piece x y z) = refl
before_spelled a q (Group x y z) = refl

group_valid : (i : Expression) (q : Quantifier) (t : Expression) → IsExpression i → IsQuantifier q → IsExpression t → IsExpression (group_before i q t)
group_valid i q (Choice b r) vi vq v = (tt, (vi, vq, v.0, v.1), v.2)
group_valid i q Empty vi vq v = (vi, vq, tt, tt)
group_valid i q (Piece x y z) vi vq v = (vi, vq, tt, v)
group_valid i q (Group x y z) vi vq v = (vi, vq, tt, v)

group_spelled : (i : Expression) (q : Quantifier) (t : Expression) → 40 ∷ (spelling i ++ 41 ∷ (quantifier_spelling q ++ spelling t)) ≡ spelling (group_before i q t)
group_spelled i q (Choice b r) =
    ap (λ x. 40 ∷ (spelling i ++ 41 ∷ x)) (sym (append_assoc (quantifier_spelling q) (spelling b) (124 ∷ spelling r)))
    ∙ ap (λ x. 40 ∷ x) (sym (append_assoc (spelling i) (41 ∷ (quantifier_spelling q ++ spelling b)) (124 ∷ spelling r)))
group_spelled i q Empty = refl
group_spelled i q (Piece x y z) = refl
group_spelled i q (Group x y z) = refl

-- an atom before what follows it
rest_atom : (a : Atom) (d : ℕ) (cs : List ℕ) → IsAtom a → AtomRest d cs → Rest d (atom_spelling a ++ cs)
rest_atom a zero cs v (q, more, vq, e, (t, vt, e2)) =
    (before a q t, before_valid a q t v vq vt, (ap (λ x. atom_spelling a ++ x) (e ∙ ap (λ x. quantifier_spelling q ++ x) e2) ∙ before_spelled a q t))
rest_atom a (suc d) cs v (q, more, vq, e, (t, q2, more2, vt, vq2, e2, rest)) = (
  before a q t,
  q2,
  more2,
  before_valid a q t v vq vt,
  vq2,
  (ap (λ x. atom_spelling a ++ x) (e ∙ ap (λ x. quantifier_spelling q ++ x) e2)
      ∙ ap (λ x. atom_spelling a ++ x) (sym (append_assoc (quantifier_spelling q) (spelling t) (41 ∷ (quantifier_spelling q2 ++ more2))))
      ∙ sym (append_assoc (atom_spelling a) (quantifier_spelling q ++ spelling t) (41 ∷ (quantifier_spelling q2 ++ more2)))
      ∙ ap (λ x. x ++ 41 ∷ (quantifier_spelling q2 ++ more2)) (before_spelled a q t)),
  rest,
)

-- a group before what follows it
rest_group : (d : ℕ) (cs : List ℕ) → Rest (suc d) cs → Rest d (40 ∷ cs)
rest_group zero cs (i, q, more, vi, vq, e, (t, vt, e2)) = (
  group_before i q t,
  group_valid i q t vi vq vt,
  (ap (λ x. 40 ∷ x) e ∙ ap (λ x. 40 ∷ (spelling i ++ 41 ∷ (quantifier_spelling q ++ x))) e2 ∙ group_spelled i q t),
)
rest_group (suc d) cs (i, q, more, vi, vq, e, (t, q2, more2, vt, vq2, e2, rest)) = (
  group_before i q t,
  q2,
  more2,
  group_valid i q t vi vq vt,
  vq2,
  (ap (λ x. 40 ∷ x) e ∙ ap (λ x. 40 ∷ (spelling i ++ 41 ∷ (quantifier_spelling q ++ x))) e2
      ∙ ap (λ x. 40 ∷ (spelling i ++ 41 ∷ x)) (sym (append_assoc (quantifier_spelling q) (spelling t) (41 ∷ (quantifier_spelling q2 ++ more2))))
      ∙ ap (λ x. 40 ∷ x) (sym (append_assoc (spelling i) (41 ∷ (quantifier_spelling q ++ spelling t)) (41 ∷ (quantifier_spelling q2 ++ more2))))
      ∙ ap (λ x. x ++ 41 ∷ (quantifier_spelling q2 ++ more2)) (group_spelled i q t)),
  rest,
)

-- an empty branch before the next
rest_bar : (d : ℕ) (cs : List ℕ) → Rest d cs → Rest d (124 ∷ cs)
rest_bar zero cs (t, v, e) = (Choice Empty t, (tt, tt, v), ap (λ x. 124 ∷ x) e)
rest_bar (suc d) cs (t, q, more, v, vq, e, rest) = (Choice Empty t, q, more, (tt, tt, v), vq, ap (λ x. 124 ∷ x) e, rest)

-- what the characters that are left mean, whatever stands before
abbrev pub Known : List ℕ → Type 0
Known cs = (k : Control) (d : ℕ) → IsSoundControl k → Accepted (Some (reading k d)) cs → Means k d cs

at : (P : ℕ → Type 0) (c x : ℕ) → c ≡ x → P x → P c
at P c x e p = subst P (sym e) p

class_atom : (negated : Bool) (d : ℕ) (cs : List ℕ) → FirstRest negated d cs → Rest d (91 ∷ (negation_spelling negated ++ cs))
class_atom negated d cs (items, more, v, e, rest) =
    subst (λ x. Rest d (91 ∷ x)) (sym regroup) (rest_atom (Class negated items) d more v rest)
  where
    regroup : negation_spelling negated ++ cs ≡ (negation_spelling negated ++ (items_spelling items ++ 93 ∷ [])) ++ more
    regroup = ap (λ x. negation_spelling negated ++ x) (e ∙ sym (append_assoc (items_spelling items) (93 ∷ []) more))
        ∙ sym (append_assoc (negation_spelling negated) (items_spelling items ++ 93 ∷ []) more)

ext_start : (m : Outside) (c d : ℕ) (cs : List ℕ) → Known cs → OutsideTells c m → Accepted (joined_reading (outside_next m) (depth_outside m d)) cs → Rest d (c ∷ cs)
ext_start Ordinary c d cs ih t a = rest_atom (Character c) d cs t (ih InAtom d tt a)
ext_start DotOutside c d cs ih t a = at (λ x. Rest d (x ∷ cs)) c 46 t (rest_atom Dot d cs tt (ih InAtom d tt a))
ext_start Backslash c d cs ih t a = at (λ x. Rest d (x ∷ cs)) c 92 t (⊎_elim space letter (ih InEscape d tt a))
  where
    space : (more : List ℕ) × (cs ≡ 115 ∷ more) × AtomRest d more → Rest d (92 ∷ cs)
    space (more, e, rest) = subst (λ x. Rest d (92 ∷ x)) (sym e) (rest_atom Space d more tt rest)

    letter : (e : ℕ) × (more : List ℕ) × IsEscapeLetter e × (cs ≡ e ∷ more) × AtomRest d more → Rest d (92 ∷ cs)
    letter (e, more, v, q, rest) = subst (λ x. Rest d (92 ∷ x)) (sym q) (rest_atom (Escape e) d more v rest)
ext_start OpenClass c d cs ih t a =
    let h = ih InClassStart d tt a in
    at (λ x. Rest d (x ∷ cs)) c 91 t (subst (λ x. Rest d (91 ∷ x)) (sym h.2) (class_atom h.0 d h.1 h.3))
ext_start OpenGroup c d cs ih t a = at (λ x. Rest d (x ∷ cs)) c 40 t (rest_group d cs (ih Start (suc d) tt a))
ext_start CloseGroup c zero cs ih t a = absurd (not_none cs a)
ext_start CloseGroup c (suc d) cs ih t a =
    let h = ih InAtom d tt a in
    at (λ x. Rest (suc d) (x ∷ cs)) c 41 t (Empty, h.0, h.1, tt, h.2, ap (λ x. 41 ∷ x) h.3, h.4)
ext_start Bar c d cs ih t a = at (λ x. Rest d (x ∷ cs)) c 124 t (rest_bar d cs (ih Start d tt a))
ext_start OptionalOutside c d cs ih t a = absurd (not_none cs a)
ext_start AnyNumberOutside c d cs ih t a = absurd (not_none cs a)
ext_start OneOrMoreOutside c d cs ih t a = absurd (not_none cs a)
ext_start OpenBounds c d cs ih t a = absurd (not_none cs a)
ext_start Stray c d cs ih t a = absurd (not_none cs a)

-- digits that take their weight are nine at most
abbrev IsSmall : ℕ → ℕ → Type 0
IsSmall zero weight = weight < 10
IsSmall (suc n) weight = IsSmall n (weight / 10)

took_bound : (n weight : ℕ) (digits : List ℕ) → IsSmall n weight → Took digits weight → length digits ≤ n
took_bound n weight [] s t = omega arith
took_bound zero weight (c ∷ digits) s t = absurd (let x = t.0 in omega arith)
took_bound (suc n) weight (c ∷ digits) s t = let h = took_bound n (weight / 10) digits s t.1 in omega arith

full_small : IsSmall 9 whole_weight
full_small = lit< tt

is_number : (digits : List ℕ) → AllByRecursion IsDigit digits → Took digits whole_weight → shrunk digits whole_weight ≢ whole_weight → AreNumberDigits digits
is_number [] d t n = absurd (n refl)
is_number (c ∷ digits) d t n = record { each = d; least = omega arith; most = took_bound 9 whole_weight (c ∷ digits) full_small t }

bounds_rest : (d : ℕ) (cs : List ℕ) → LeastRest whole_weight 0 d cs → AtomRest d (123 ∷ cs)
bounds_rest d cs (digits, more, v, t, l, e, b) = ⊎_elim exactly comma b
  where
    n : AreNumberDigits digits
    n = is_number digits v t (λ x. absurd (omega arith))

    exactly : (more2 : List ℕ) × (more ≡ 125 ∷ more2) × Rest d more2 → AtomRest d (123 ∷ cs)
    exactly (more2, e2, rest) =
        (Exactly digits, more2, n, (ap (λ x. 123 ∷ x) (e ∙ ap (λ x. digits ++ x) e2 ∙ sym (append_assoc digits (125 ∷ []) more2))), rest)

    comma : (more2 : List ℕ) × (more ≡ 44 ∷ more2) × MostRest (digits_number digits) whole_weight 0 d more2 → AtomRest d (123 ∷ cs)
    comma (more2, e2, (second, more3, v2, t2, how, e3, rest)) = ⊎_elim at_least between how
      where
        at_least : (second ≡ []) × (whole_weight ≡ whole_weight) → AtomRest d (123 ∷ cs)
        at_least (z, w) = (
          AtLeast digits,
          more3,
          n,
          (ap (λ x. 123 ∷ x) (e ∙ ap (λ x. digits ++ x) (e2 ∙ ap (λ x. 44 ∷ x) (e3 ∙ ap (λ x. x ++ 125 ∷ more3) z)) ∙ sym (append_assoc digits (44 ∷ 125 ∷ []) more3))),
          rest,
        )

        between : (shrunk second whole_weight ≢ whole_weight) × (digits_number digits ≤ digits_number second) → AtomRest d (123 ∷ cs)
        between (w, le) = (
          Between digits second,
          more3,
          (n, is_number second v2 t2 w, le),
          (ap (λ x. 123 ∷ x) (e ∙ ap (λ x. digits ++ x) (e2 ∙ ap (λ x. 44 ∷ x) (e3 ∙ sym (append_assoc second (125 ∷ []) more3)))
              ∙ sym (append_assoc digits (44 ∷ (second ++ 125 ∷ [])) more3))),
          rest,
        )

once_rest : (d : ℕ) (cs : List ℕ) → Rest d cs → AtomRest d cs
once_rest d cs r = (Once, cs, tt, refl, r)

ext_atom : (m : Outside) (c d : ℕ) (cs : List ℕ) → Known cs → OutsideTells c m → Accepted (joined_reading (atom_next m) (depth_outside m d)) cs → AtomRest d (c ∷ cs)
ext_atom Ordinary c d cs ih t a = once_rest d (c ∷ cs) (ext_start Ordinary c d cs ih t a)
ext_atom DotOutside c d cs ih t a = once_rest d (c ∷ cs) (ext_start DotOutside c d cs ih t a)
ext_atom Backslash c d cs ih t a = once_rest d (c ∷ cs) (ext_start Backslash c d cs ih t a)
ext_atom OpenClass c d cs ih t a = once_rest d (c ∷ cs) (ext_start OpenClass c d cs ih t a)
ext_atom OpenGroup c d cs ih t a = once_rest d (c ∷ cs) (ext_start OpenGroup c d cs ih t a)
ext_atom CloseGroup c zero cs ih t a = absurd (not_none cs a)
ext_atom CloseGroup c (suc d) cs ih t a = once_rest (suc d) (c ∷ cs) (ext_start CloseGroup c (suc d) cs ih t a)
ext_atom Bar c d cs ih t a = once_rest d (c ∷ cs) (ext_start Bar c d cs ih t a)
ext_atom OptionalOutside c d cs ih t a = at (λ x. AtomRest d (x ∷ cs)) c 63 t (Optional, cs, tt, refl, ih Start d tt a)
ext_atom AnyNumberOutside c d cs ih t a = at (λ x. AtomRest d (x ∷ cs)) c 42 t (AnyNumber, cs, tt, refl, ih Start d tt a)
ext_atom OneOrMoreOutside c d cs ih t a = at (λ x. AtomRest d (x ∷ cs)) c 43 t (OneOrMore, cs, tt, refl, ih Start d tt a)
ext_atom OpenBounds c d cs ih t a = at (λ x. AtomRest d (x ∷ cs)) c 123 t (bounds_rest d cs (ih (Least whole_weight 0) d (lit≤ tt) a))
ext_atom Stray c d cs ih t a = absurd (not_none cs a)

ext_escape : (m : BehindBackslash) (c d : ℕ) (cs : List ℕ) → Known cs → BackslashTells c m → Accepted (joined_reading (escape_next m) (Some d)) cs → Means InEscape d (c ∷ cs)
ext_escape SpaceBehind c d cs ih t a = inl (cs, ap (λ x. x ∷ cs) t, ih InAtom d tt a)
ext_escape Letter c d cs ih t a = inr (c, cs, t, refl, ih InAtom d tt a)
ext_escape StrayBehind c d cs ih t a = absurd (not_none cs a)

-- a choice that was accepted
split : {A : Type 0} (b : Bool) (x y : Option Control) (d : ℕ) (cs : List ℕ) → (b ≡ true → Accepted (joined_reading x (Some d)) cs → A) → (b ≡ false → Accepted (joined_reading y (Some d)) cs → A)
    → Accepted (joined_reading (cond b x y) (Some d)) cs → A
split true x y d cs f g a = f refl a
split false x y d cs f g a = g refl a

ext_least : (weight value : ℕ) (m : InNumber) (c d : ℕ) (cs : List ℕ) → Known cs → SoundIf (least_next weight value m) → NumberTells c m
    → Accepted (joined_reading (least_next weight value m) (Some d)) cs → LeastRest weight value d (c ∷ cs)
ext_least weight value (Digit digit) c d cs ih s t a =
    split (nat_lt weight 10) None (Some (Least (weight / 10) (10 * value + digit))) d cs (λ b x. absurd (not_none cs x))
    (λ b x. go b (ih (Least (weight / 10) (10 * value + digit)) d (subst (λ z. SoundIf (cond z None (Some (Least (weight / 10) (10 * value + digit))))) b s) x)) a
  where
    go : nat_lt weight 10 ≡ false → LeastRest (weight / 10) (10 * value + digit) d cs → LeastRest weight value d (c ∷ cs)
    go b (digits, more, v, k, l, e, r) =
        (c ∷ digits, more, (t.0, v), (ltb-false weight 10 b, k), l, ap (λ x. c ∷ x) e, subst (λ z. BoundsRest (number_after (10 * value + z) digits) d more) t.1 r)
ext_least weight value CloseBounds c d cs ih s t a =
    split (nat_lt weight whole_weight) (Some Start) None d cs
    (λ b x. ([], c ∷ cs, tt, tt, ltb-true weight whole_weight b, refl, inl (cs, ap (λ z. z ∷ cs) t, ih Start d tt x))) (λ b x. absurd (not_none cs x)) a
ext_least weight value Comma c d cs ih s t a =
    split (nat_lt weight whole_weight) (Some (Most value whole_weight 0)) None d cs
    (λ b x. ([], c ∷ cs, tt, tt, ltb-true weight whole_weight b, refl, inr (cs, ap (λ z. z ∷ cs) t, ih (Most value whole_weight 0) d (lit≤ tt) x))) (λ b x. absurd (not_none cs x)) a
ext_least weight value StrayInNumber c d cs ih s t a = absurd (not_none cs a)

ext_most : (least weight value : ℕ) (m : InNumber) (c d : ℕ) (cs : List ℕ) → Known cs → weight ≤ whole_weight → HasRoomForDigits weight value → NumberTells c m
    → Accepted (joined_reading (most_next least weight value m) (Some d)) cs → MostRest least weight value d (c ∷ cs)
ext_most least weight value (Digit digit) c d cs ih w s t a =
    split (nat_lt weight 10) None (cond (nat_lt least ((10 * value + digit + 1) * (weight / 10))) (Some K) None) d cs (λ b x. absurd (not_none cs x))
    (λ b x. split (nat_lt least ((10 * value + digit + 1) * (weight / 10))) (Some K) None d cs
    (λ g y. go (ltb-false weight 10 b) (ih K d (room_digit weight value digit (let z = t.0.1 in let u = t.1 in omega arith) (ltb-false weight 10 b) s) y)) (λ g y. absurd (not_none cs y)) x) a
  where
    K : Control
    K = Most least (weight / 10) (10 * value + digit)

    go : 10 ≤ weight → MostRest least (weight / 10) (10 * value + digit) d cs → MostRest least weight value d (c ∷ cs)
    go b (digits, more, v, k, how, e, r) = (
      c ∷ digits,
      more,
      (t.0, v),
      (b, k),
      ⊎_elim (λ x. absurd (let z = x.1 in omega arith)) (λ x. inr (x.0, subst (λ z. least ≤ number_after (10 * value + z) digits) t.1 x.1)) how,
      ap (λ x. c ∷ x) e,
      r,
    )
ext_most least weight value CloseBounds c d cs ih w s t a =
    split (weight == whole_weight) (Some Start) (cond (nat_le least value) (Some Start) None) d cs
    (λ b x. ([], cs, tt, tt, inl (refl, eqb-true weight whole_weight b), ap (λ z. z ∷ cs) t, ih Start d tt x))
    (λ b x. split (nat_le least value) (Some Start) None d cs
    (λ g y. ([], cs, tt, tt, inr ((λ e. eqb-false weight whole_weight b e), leb-true least value g), ap (λ z. z ∷ cs) t, ih Start d tt y)) (λ g y. absurd (not_none cs y)) x) a
ext_most least weight value Comma c d cs ih w s t a = absurd (not_none cs a)
ext_most least weight value StrayInNumber c d cs ih w s t a = absurd (not_none cs a)

-- a single before later items
one_before : (s : Single) (d : ℕ) (cs : List ℕ) → IsSingle s → SingleRest (meant s) d cs → ItemsRest d (single_spelling s ++ cs)
one_before s d cs v (inl (items, more, va, e, rest)) =
    (One s ∷ items, more, (v, va), (ap (λ x. single_spelling s ++ x) e ∙ sym (append_assoc (single_spelling s) (items_spelling items) (93 ∷ more))), rest)
one_before s d cs v (inr (more, e, (high, items, more2, vh, l, va, e2, rest))) = (
  Range s high ∷ items,
  more2,
  ((v, vh, l), va),
  (ap (λ x. single_spelling s ++ x) (e ∙ ap (λ x. 45 ∷ x) e2)
      ∙ sym (append_assoc (single_spelling s) (45 ∷ single_spelling high) (items_spelling items ++ 93 ∷ more2))
      ∙ sym (append_assoc (single_spelling s ++ 45 ∷ single_spelling high) (items_spelling items) (93 ∷ more2))),
  rest,
)

hyphen_last : (d : ℕ) (cs : List ℕ) → CloseRest d cs → ItemsRest d (45 ∷ cs)
hyphen_last d cs (more, e, rest) = (Hyphen ∷ [], more, refl, ap (λ x. 45 ∷ x) e, rest)

escape_items : (d : ℕ) (cs : List ℕ) → EscapeRest d cs → ItemsRest d (92 ∷ cs)
escape_items d cs (inl (more, e, (items, more2, va, e2, rest))) = (Spaces ∷ items, more2, (tt, va), (ap (λ x. 92 ∷ x) (e ∙ ap (λ x. 115 ∷ x) e2)), rest)
escape_items d cs (inr (e, more, v, q, rest)) = subst (λ x. ItemsRest d (92 ∷ x)) (sym q) (one_before (Escaped e) d more v rest)

ext_item : (m : Within) (c d : ℕ) (cs : List ℕ) → Known cs → WithinTells c m → Accepted (joined_reading (class_item_next m c) (Some d)) cs → ItemsRest d (c ∷ cs)
ext_item PlainWithin c d cs ih t a = one_before (Plain c) d cs t (ih (ClassSingle c) d tt a)
ext_item BackslashWithin c d cs ih t a = at (λ x. ItemsRest d (x ∷ cs)) c 92 t (escape_items d cs (ih ClassEscape d tt a))
ext_item HyphenWithin c d cs ih t a = at (λ x. ItemsRest d (x ∷ cs)) c 45 t (hyphen_last d cs (ih ClassEnd d tt a))
ext_item CloseClass c d cs ih t a = at (λ x. ItemsRest d (x ∷ cs)) c 93 t ([], cs, tt, refl, ih InAtom d tt a)
ext_item StrayWithin c d cs ih t a = absurd (not_none cs a)

ext_single : (low : ℕ) (m : Within) (c d : ℕ) (cs : List ℕ) → Known cs → WithinTells c m → Accepted (joined_reading (class_single_next low m c) (Some d)) cs → SingleRest low d (c ∷ cs)
ext_single low PlainWithin c d cs ih t a = inl (one_before (Plain c) d cs t (ih (ClassSingle c) d tt a))
ext_single low BackslashWithin c d cs ih t a = inl (at (λ x. ItemsRest d (x ∷ cs)) c 92 t (escape_items d cs (ih ClassEscape d tt a)))
ext_single low HyphenWithin c d cs ih t a =
    at (λ x. SingleRest low d (x ∷ cs)) c 45 t (⊎_elim (λ x. inl (hyphen_last d cs x)) (λ x. inr (cs, refl, x)) (ih (ClassDash low) d tt a))
ext_single low CloseClass c d cs ih t a = inl (at (λ x. ItemsRest d (x ∷ cs)) c 93 t ([], cs, tt, refl, ih InAtom d tt a))
ext_single low StrayWithin c d cs ih t a = absurd (not_none cs a)

ext_dash : (low : ℕ) (m : Within) (c d : ℕ) (cs : List ℕ) → Known cs → WithinTells c m → Accepted (joined_reading (class_dash_next low m c) (Some d)) cs → Means (ClassDash low) d (c ∷ cs)
ext_dash low PlainWithin c d cs ih t a =
    split (nat_le low c) (Some ClassItem) None d cs
    (λ b x. let h = ih ClassItem d tt x in inr (Plain c, h.0, h.1, t, leb-true low c b, h.2, ap (λ z. c ∷ z) h.3, h.4)) (λ b x. absurd (not_none cs x)) a
ext_dash low BackslashWithin c d cs ih t a =
    split (nat_le low 125) (Some (RangeEscape low)) None d cs
    (λ b x. let h = ih (RangeEscape low) d tt x in
    inr (Escaped h.0, h.5.0, h.5.1, h.2, h.3, h.5.2, (ap (λ z. z ∷ cs) t ∙ ap (λ z. 92 ∷ z) (h.4 ∙ ap (λ z. h.0 ∷ z) h.5.3)), h.5.4)) (λ b x. absurd (not_none cs x)) a
ext_dash low HyphenWithin c d cs ih t a = absurd (not_none cs a)
ext_dash low CloseClass c d cs ih t a = inl (cs, ap (λ z. z ∷ cs) t, ih InAtom d tt a)
ext_dash low StrayWithin c d cs ih t a = absurd (not_none cs a)

ext_end : (m : Within) (c d : ℕ) (cs : List ℕ) → Known cs → WithinTells c m → Accepted (joined_reading (class_end_next m) (Some d)) cs → CloseRest d (c ∷ cs)
ext_end PlainWithin c d cs ih t a = absurd (not_none cs a)
ext_end BackslashWithin c d cs ih t a = absurd (not_none cs a)
ext_end HyphenWithin c d cs ih t a = absurd (not_none cs a)
ext_end CloseClass c d cs ih t a = (cs, ap (λ z. z ∷ cs) t, ih InAtom d tt a)
ext_end StrayWithin c d cs ih t a = absurd (not_none cs a)

ext_class_escape : (m : BehindBackslash) (c d : ℕ) (cs : List ℕ) → Known cs → BackslashTells c m → Accepted (joined_reading (class_escape_next m c) (Some d)) cs → EscapeRest d (c ∷ cs)
ext_class_escape SpaceBehind c d cs ih t a = inl (cs, ap (λ x. x ∷ cs) t, ih ClassItem d tt a)
ext_class_escape Letter c d cs ih t a = inr (c, cs, t, refl, ih (ClassSingle (escaped_letter c)) d tt a)
ext_class_escape StrayBehind c d cs ih t a = absurd (not_none cs a)

ext_range_escape : (low : ℕ) (m : BehindBackslash) (c d : ℕ) (cs : List ℕ) → Known cs → BackslashTells c m → Accepted (joined_reading (range_escape_next low m c) (Some d)) cs
    → Means (RangeEscape low) d (c ∷ cs)
ext_range_escape low SpaceBehind c d cs ih t a = absurd (not_none cs a)
ext_range_escape low Letter c d cs ih t a =
    split (nat_le low (escaped_letter c)) (Some ClassItem) None d cs (λ b x. (c, cs, t, leb-true low (escaped_letter c) b, refl, ih ClassItem d tt x)) (λ b x. absurd (not_none cs x)) a
ext_range_escape low StrayBehind c d cs ih t a = absurd (not_none cs a)

-- the first item of a class
first_single : (negated : Bool) (s : Single) (d : ℕ) (cs : List ℕ) → IsSingle s → (negated ≡ false → begins_with_caret (One s) ≡ false)
    → (negated ≡ false → (high : Single) → begins_with_caret (Range s high) ≡ false) → SingleRest (meant s) d cs → FirstRest negated d (single_spelling s ++ cs)
first_single negated s d cs v n r (inl (items, more, va, e, rest)) =
    (One s ∷ items, more, (v, n, va), (ap (λ x. single_spelling s ++ x) e ∙ sym (append_assoc (single_spelling s) (items_spelling items) (93 ∷ more))), rest)
first_single negated s d cs v n r (inr (more, e, (high, items, more2, vh, l, va, e2, rest))) = (
  Range s high ∷ items,
  more2,
  ((v, vh, l), (λ x. r x high), va),
  (ap (λ x. single_spelling s ++ x) (e ∙ ap (λ x. 45 ∷ x) e2)
      ∙ sym (append_assoc (single_spelling s) (45 ∷ single_spelling high) (items_spelling items ++ 93 ∷ more2))
      ∙ sym (append_assoc (single_spelling s ++ 45 ∷ single_spelling high) (items_spelling items) (93 ∷ more2))),
  rest,
)

first_escape : (negated : Bool) (d : ℕ) (cs : List ℕ) → EscapeRest d cs → FirstRest negated d (92 ∷ cs)
first_escape negated d cs (inl (more, e, (items, more2, va, e2, rest))) =
    (Spaces ∷ items, more2, (tt, (λ x. refl), va), (ap (λ x. 92 ∷ x) (e ∙ ap (λ x. 115 ∷ x) e2)), rest)
first_escape negated d cs (inr (e, more, v, q, rest)) =
    subst (λ x. FirstRest negated d (92 ∷ x)) (sym q) (first_single negated (Escaped e) d more v (λ x. refl) (λ x high. refl) rest)

ext_first : (negated : Bool) (m : Within) (c d : ℕ) (cs : List ℕ) → Known cs → WithinTells c m → (negated ≡ false → (c == 94) ≡ false)
    → Accepted (joined_reading (class_first_next m c) (Some d)) cs → FirstRest negated d (c ∷ cs)
ext_first negated PlainWithin c d cs ih t n a = first_single negated (Plain c) d cs t n (λ x high. n x) (ih (ClassSingle c) d tt a)
ext_first negated BackslashWithin c d cs ih t n a = at (λ x. FirstRest negated d (x ∷ cs)) c 92 t (first_escape negated d cs (ih ClassEscape d tt a))
ext_first negated HyphenWithin c d cs ih t n a =
    let h = ih ClassItem d tt a in
    at (λ x. FirstRest negated d (x ∷ cs)) c 45 t (Hyphen ∷ h.0, h.1, h.2, ap (λ z. 45 ∷ z) h.3, h.4)
ext_first negated CloseClass c d cs ih t n a = absurd (not_none cs a)
ext_first negated StrayWithin c d cs ih t n a = absurd (not_none cs a)

pub room_full : (weight value : ℕ) → HasRoomForDigits weight value → weight ≤ whole_weight
room_full weight value h = let a : 1 * weight ≤ (value + 1) * weight = mul-le-mul (let z : 1 ≤ value + 1 = omega arith in z) (le_refl weight) in let b : 1 * weight ≡ weight = omega arith in omega arith

extend : (k : Control) (c d : ℕ) (cs : List ℕ) → Known cs → IsSoundControl k → Accepted (Some (reading k d)) (c ∷ cs) → Means k d (c ∷ cs)
extend Start c d cs ih s a = ext_start (outside c) c d cs ih (outside_tells c) a
extend InAtom c d cs ih s a = ext_atom (outside c) c d cs ih (outside_tells c) a
extend InEscape c d cs ih s a = ext_escape (behind_backslash c) c d cs ih (backslash_tells c) a
extend (Least weight value) c d cs ih s a = ext_least weight value (in_number c) c d cs ih (next_sound (Least weight value) c s) (number_tells c) a
extend (Most least weight value) c d cs ih s a = ext_most least weight value (in_number c) c d cs ih (room_full weight value s) s (number_tells c) a
extend InClassStart c d cs ih s a =
    split (c == 94) (Some ClassNegated) (class_first_next (within c) c) d cs
    (λ b x. (true, cs, ap (λ z. z ∷ cs) (eqb-true c 94 b), ih ClassNegated d tt x))
    (λ b x. (false, c ∷ cs, refl, ext_first false (within c) c d cs ih (within_tells c) (λ y. b) x)) a
extend ClassNegated c d cs ih s a = ext_first true (within c) c d cs ih (within_tells c) (λ y. absurd (cc)) a
extend ClassItem c d cs ih s a = ext_item (within c) c d cs ih (within_tells c) a
extend (ClassSingle low) c d cs ih s a = ext_single low (within c) c d cs ih (within_tells c) a
extend (ClassDash low) c d cs ih s a = ext_dash low (within c) c d cs ih (within_tells c) a
extend ClassEscape c d cs ih s a = ext_class_escape (behind_backslash c) c d cs ih (backslash_tells c) a
extend (RangeEscape low) c d cs ih s a = ext_range_escape low (behind_backslash c) c d cs ih (backslash_tells c) a
extend ClassEnd c d cs ih s a = ext_end (within c) c d cs ih (within_tells c) a

-- nothing is left
may_end_here : (k : Control) (d : ℕ) → Accepted (Some (reading k d)) [] → may_end (reading k d) ≡ true
may_end_here k d (r, e, m) = let h : reading k d ≡ r = cc in subst (λ x. may_end x ≡ true) (sym h) m

rest_end : (d : ℕ) → (d == 0) ≡ true → Rest d []
rest_end zero h = (Empty, tt, refl)
rest_end (suc d) h = absurd (let e : suc d ≡ 0 = eqb-true (suc d) 0 h in omega arith)

ending : (k : Control) (d : ℕ) → may_end (reading k d) ≡ true → Means k d []
ending Start d h = rest_end d h
ending InAtom d h = (Once, [], tt, refl, rest_end d h)
ending InEscape d h = absurd (cc)
ending (Least weight value) d h = absurd (cc)
ending (Most least weight value) d h = absurd (cc)
ending InClassStart d h = absurd (cc)
ending ClassNegated d h = absurd (cc)
ending ClassItem d h = absurd (cc)
ending (ClassSingle low) d h = absurd (cc)
ending (ClassDash low) d h = absurd (cc)
ending ClassEscape d h = absurd (cc)
ending (RangeEscape low) d h = absurd (cc)
ending ClassEnd d h = absurd (cc)

pub found : (cs : List ℕ) → Known cs
found [] k d s a = ending k d (may_end_here k d a)
found (c ∷ cs) k d s a = extend k c d cs (found cs) s a
