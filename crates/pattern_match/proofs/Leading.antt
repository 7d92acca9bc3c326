-- The spelling of a syntax tree leads the reading on, and its tokens are the tree's.
use Rattle.std.proofs.Common.{◌≡◌, ℕ, zero, suc, ◌+◌, ◌-◌, ◌*◌, ◌/◌, ◌≤◌, ◌<◌, ◌⊎◌, inl, inr, Bool, true, false, cond, ◌||◌, ◌&&◌, ◌==◌, nat_le, nat_lt, Some, None, List, [], ◌∷◌, ◌++◌, length, codes, refl, sym, ap, ap₂, ◌∙◌, subst, arith, append_assoc, le-leb, leb-true, eqb-true, lt-ltb, le-ltb, le_trans, le_refl, mul-le-mul, mul_assoc, lit≤, lt_of_lt_of_le}
use Rattle.std.proofs.lemmas.Bool.{ne_eqb}
use Rattle.std.proofs.lemmas.Bool.Decides.{nat_tests}
use Rattle.std.specs.List.{AllByRecursion}
use Rattle.pattern_match.specs.Expression.{Single, Plain, Escaped, ClassMember, One, Range, Spaces, Hyphen, Atom, Character, Dot, Escape, Space, Class, Quantifier, Once, Optional, AnyNumber, OneOrMore, Exactly, AtLeast, Between, Expression, Empty, Piece, Group, Choice}
use Rattle.pattern_match.specs.Spelling.{single_spelling, item_spelling, items_spelling, atom_spelling, quantifier_spelling, spelling}
use Rattle.pattern_match.specs.Valid.{is_among, escaped_letter, meant, IsSingle, AreLaterItems, AreItems, IsEscapeLetter, IsAtom, IsDigit, digits_number, number_after, IsQuantifier, IsExpression}
use Rattle.pattern_match.specs.Character.{outside, within}
use Rattle.pattern_match.specs.Control.{whole_weight, outside_next, atom_next, escape_next, least_next, most_next, class_first_next, class_item_next, class_single_next, class_dash_next, class_escape_next, range_escape_next, next_control, depth_outside, reading, joined_reading, next_reading, run_reading}
use Rattle.pattern_match.specs.Tokens.{outside_tokens, behind_atom_tokens, escape_tokens, least_tokens, most_tokens, item_tokens, single_tokens, dash_tokens, class_escape_tokens, range_escape_tokens, emits, emit_tokens}
use Rattle.pattern_match.specs.declared.character.Outside.{Outside}
use Rattle.pattern_match.specs.declared.character.Outside.TheVariants.{Ordinary, Dot as DotOutside, Backslash, OpenClass, OpenGroup, CloseGroup, Bar, Optional as OptionalOutside, AnyNumber as AnyNumberOutside, OneOrMore as OneOrMoreOutside, OpenBounds, Stray}
use Rattle.pattern_match.specs.declared.character.Within.{Within}
use Rattle.pattern_match.specs.declared.character.Within.TheVariants.{Plain as PlainWithin, Backslash as BackslashWithin, Hyphen as HyphenWithin, CloseClass, Stray as StrayWithin}
use Rattle.pattern_match.specs.declared.control.Control.{Control}
use Rattle.pattern_match.specs.declared.control.Control.TheVariants.{Start, Atom as InAtom, Escape as InEscape, Least, Most, ClassStart as InClassStart, ClassNegated, ClassItem, ClassSingle, ClassDash, ClassEscape, RangeEscape, ClassEnd}
use Rattle.pattern_match.specs.declared.control.Reading.{Reading}
use Rattle.pattern_match.specs.declared.token.Token.{Token}
use Rattle.pattern_match.specs.declared.token.Token.TheVariants.{Single as SingleToken, Spaces as SpacesToken, ClassStart, Member, Times}
use Rattle.pattern_match.proofs.CharacterLemmas.{outside_ordinary, within_plain, number_digit, backslash_letter}
use Rattle.pattern_match.proofs.PassLemmas.{and_true}
use Rattle.pattern_match.proofs.Tokens.{items_tokens_then, atom_tokens_then, quantifier_tokens_then, tokens_then}

-- characters lead from one reading to another, with more left; F makes the tokens of all of those of what is left
pub record Leads (r : Reading) (cs : List ℕ) (F : List Token → List Token) (after : Reading) (more : List ℕ) : Type 0 where
  pub runs : run_reading (Some r) cs ≡ run_reading (Some after) more
  pub tokens : emit_tokens (Some r.control) cs ≡ F (emit_tokens (Some after.control) more)

pub stay : (r : Reading) (cs : List ℕ) → Leads r cs (λ x. x) r cs
stay r cs = record { runs = refl; tokens = refl }

pub then : {r r1 r2 : Reading} {cs cs1 cs2 : List ℕ} {F G : List Token → List Token} → Leads r cs F r1 cs1 → Leads r1 cs1 G r2 cs2 → Leads r cs (λ x. F (G x)) r2 cs2
then {F = F} a b = record { runs = a.runs ∙ b.runs; tokens = a.tokens ∙ ap F b.tokens }

-- one character
pub one : (r after : Reading) (c : ℕ) (cs : List ℕ) (ts : List Token) → next_reading r c ≡ Some after → next_control r.control c ≡ Some after.control → emits r.control c ≡ ts
    → Leads r (c ∷ cs) (λ x. ts ++ x) after cs
one r after c cs ts s n e = record {
  runs = ap (λ o. run_reading o cs) s;
  tokens = ap₂ (λ x o. x ++ emit_tokens o cs) e n;
}

-- outside classes and quantifiers
abbrev pub IsPlainAt : Control → Type 0
IsPlainAt k = (k ≡ Start) ⊎ (k ≡ InAtom)

-- a character that is no quantifier
abbrev NoMark : Outside → Type 0
NoMark OptionalOutside = ⊥
NoMark AnyNumberOutside = ⊥
NoMark OneOrMoreOutside = ⊥
NoMark OpenBounds = ⊥
NoMark m = Unit {0}

atom_as_outside : (m : Outside) (c : ℕ) → NoMark m → (atom_next m ≡ outside_next m) × (behind_atom_tokens m c ≡ outside_tokens m c)
atom_as_outside Ordinary c n = (refl, refl)
atom_as_outside DotOutside c n = (refl, refl)
atom_as_outside Backslash c n = (refl, refl)
atom_as_outside OpenClass c n = (refl, refl)
atom_as_outside OpenGroup c n = (refl, refl)
atom_as_outside CloseGroup c n = (refl, refl)
atom_as_outside Bar c n = (refl, refl)
atom_as_outside OptionalOutside c n = absurd n
atom_as_outside AnyNumberOutside c n = absurd n
atom_as_outside OneOrMoreOutside c n = absurd n
atom_as_outside OpenBounds c n = absurd n
atom_as_outside Stray c n = (refl, refl)

-- a character outside, which leads on
pub outside_one : (k after : Control) (d e c : ℕ) (cs : List ℕ) (m : Outside) → IsPlainAt k → outside c ≡ m → NoMark m → outside_next m ≡ Some after → depth_outside m d ≡ Some e
    → Leads (reading k d) (c ∷ cs) (λ x. outside_tokens m c ++ x) (reading after e) cs
outside_one k after d e c cs m (inl p) o n s t =
    subst (λ k. Leads (reading k d) (c ∷ cs) (λ x. outside_tokens m c ++ x) (reading after e) cs) (sym p)
    (one (reading Start d) (reading after e) c cs (outside_tokens m c)
    (ap₂ joined_reading (ap outside_next o ∙ s) (ap (λ y. depth_outside y d) o ∙ t)) (ap outside_next o ∙ s) (ap (λ y. outside_tokens y c) o))
outside_one k after d e c cs m (inr p) o n s t =
    let a = atom_as_outside m c n in
    subst (λ k. Leads (reading k d) (c ∷ cs) (λ x. outside_tokens m c ++ x) (reading after e) cs) (sym p)
    (one (reading InAtom d) (reading after e) c cs (outside_tokens m c)
    (ap₂ joined_reading (ap atom_next o ∙ a.0 ∙ s) (ap (λ y. depth_outside y d) o ∙ t)) (ap atom_next o ∙ a.0 ∙ s) (ap (λ y. behind_atom_tokens y c) o ∙ a.1))

-- in a class

-- a later item may begin, or the class may end
abbrev pub IsItemAt : Control → Type 0
IsItemAt ClassItem = Unit {0}
IsItemAt (ClassSingle low) = Unit {0}
IsItemAt k = ⊥

single_after : (k : Control) (d c : ℕ) (cs : List ℕ) → IsItemAt k → within c ≡ PlainWithin
    → Leads (reading k d) (c ∷ cs) (λ x. Member c c ∷ x) (reading (ClassSingle c) d) cs
single_after ClassItem d c cs i w = one (reading ClassItem d) (reading (ClassSingle c) d) c cs (Member c c ∷ [])
    (ap (λ m. joined_reading (class_item_next m c) (Some d)) w) (ap (λ m. class_item_next m c) w) (ap (λ m. item_tokens m c) w)
single_after (ClassSingle low) d c cs i w = one (reading (ClassSingle low) d) (reading (ClassSingle c) d) c cs (Member c c ∷ [])
    (ap (λ m. joined_reading (class_single_next low m c) (Some d)) w) (ap (λ m. class_single_next low m c) w) (ap (λ m. single_tokens m c) w)
single_after _ d c cs i w = absurd i

escape_after : (k : Control) (d : ℕ) (cs : List ℕ) → IsItemAt k → Leads (reading k d) (92 ∷ cs) (λ x. x) (reading ClassEscape d) cs
escape_after ClassItem d cs i = one (reading ClassItem d) (reading ClassEscape d) 92 cs [] refl refl refl
escape_after (ClassSingle low) d cs i = one (reading (ClassSingle low) d) (reading ClassEscape d) 92 cs [] refl refl refl
escape_after _ d cs i = absurd i

pub letter_after : (d e : ℕ) (cs : List ℕ) → IsEscapeLetter e → Leads (reading ClassEscape d) (e ∷ cs) (λ x. Member (escaped_letter e) (escaped_letter e) ∷ x) (reading (ClassSingle (escaped_letter e)) d) cs
letter_after d e cs l =
    let b = backslash_letter e l in
    one (reading ClassEscape d) (reading (ClassSingle (escaped_letter e)) d) e cs (Member (escaped_letter e) (escaped_letter e) ∷ [])
    (ap (λ m. joined_reading (class_escape_next m e) (Some d)) b) (ap (λ m. class_escape_next m e) b) (ap (λ m. class_escape_tokens m e) b)

spaces_after : (d : ℕ) (cs : List ℕ) → Leads (reading ClassEscape d) (115 ∷ cs) (λ x. Member 32 32 ∷ Member 9 10 ∷ Member 13 13 ∷ x) (reading ClassItem d) cs
spaces_after d cs = one (reading ClassEscape d) (reading ClassItem d) 115 cs (Member 32 32 ∷ Member 9 10 ∷ Member 13 13 ∷ []) refl refl refl

close_after : (k : Control) (d : ℕ) (cs : List ℕ) → IsItemAt k → Leads (reading k d) (93 ∷ cs) (λ x. x) (reading InAtom d) cs
close_after ClassItem d cs i = one (reading ClassItem d) (reading InAtom d) 93 cs [] refl refl refl
close_after (ClassSingle low) d cs i = one (reading (ClassSingle low) d) (reading InAtom d) 93 cs [] refl refl refl
close_after _ d cs i = absurd i

-- a hyphen at the end
last_after : (k : Control) (d : ℕ) (cs : List ℕ) → IsItemAt k → Leads (reading k d) (45 ∷ 93 ∷ cs) (λ x. Member 45 45 ∷ x) (reading InAtom d) cs
last_after ClassItem d cs i =
    then (one (reading ClassItem d) (reading ClassEnd d) 45 (93 ∷ cs) (Member 45 45 ∷ []) refl refl refl) (one (reading ClassEnd d) (reading InAtom d) 93 cs [] refl refl refl)
last_after (ClassSingle low) d cs i =
    then (one (reading (ClassSingle low) d) (reading (ClassDash low) d) 45 (93 ∷ cs) [] refl refl refl)
    (one (reading (ClassDash low) d) (reading InAtom d) 93 cs (Member 45 45 ∷ []) refl refl refl)
last_after _ d cs i = absurd i

-- a single
one_single : (k : Control) (d : ℕ) (s : Single) (cs : List ℕ) → IsItemAt k → IsSingle s
    → Leads (reading k d) (single_spelling s ++ cs) (λ x. Member (meant s) (meant s) ∷ x) (reading (ClassSingle (meant s)) d) cs
one_single k d (Plain c) cs i v = single_after k d c cs i (within_plain c v.0 v.1)
one_single k d (Escaped e) cs i v = then (escape_after k d (e ∷ cs) i) (letter_after d e cs v)

-- an escape stands for a character up to `}`
are_small : List ℕ → Bool
are_small [] = true
are_small (x ∷ xs) = nat_le x 125 && are_small xs

among_bound : (xs : List ℕ) (c : ℕ) → are_small xs ≡ true → is_among xs c ≡ true → c ≤ 125
unfolding are_small
among_bound [] c a h = absurd (cc)
among_bound (x ∷ xs) c a h = choose (among_bound xs c (and_true (nat_le x 125) (are_small xs) a).1) (x == c) refl h
  where
    choose : (is_among xs c ≡ true → c ≤ 125) → (b : Bool) → (x == c) ≡ b → b || is_among xs c ≡ true → c ≤ 125
    choose ih true e h = subst (λ y. y ≤ 125) (eqb-true x c e) (leb-true x 125 (and_true (nat_le x 125) (are_small xs) a).0)
    choose ih false e h = ih h

letter_bound : (e : ℕ) → IsEscapeLetter e → e ≤ 125
unfolding are_small
letter_bound e l = among_bound (codes "nrt\\|.-^?*+{}()[]") e refl l

pub escaped_bound : (e : ℕ) → IsEscapeLetter e → escaped_letter e ≤ 125
escaped_bound e l = small e (letter_bound e l)
  where
    small : (e : ℕ) → e ≤ 125 → escaped_letter e ≤ 125
    small e h = grind (arith, nat_tests)

-- the end of a range
range_end : (low d : ℕ) (s : Single) (cs : List ℕ) → IsSingle s → low ≤ meant s
    → Leads (reading (ClassDash low) d) (single_spelling s ++ cs) (λ x. Member low (meant s) ∷ x) (reading ClassItem d) cs
range_end low d (Plain c) cs v l =
    let w = within_plain c v.0 v.1 in
    let t : nat_le low c ≡ true = le-leb low c l in
    one (reading (ClassDash low) d) (reading ClassItem d) c cs (Member low c ∷ [])
    (ap (λ m. joined_reading (class_dash_next low m c) (Some d)) w ∙ ap (λ b. joined_reading (cond b (Some ClassItem) None) (Some d)) t)
    (ap (λ m. class_dash_next low m c) w ∙ ap (λ b. cond b (Some ClassItem) None) t) (ap (λ m. dash_tokens low m c) w)
range_end low d (Escaped e) cs v l =
    let b = backslash_letter e v in
    let t : nat_le low 125 ≡ true = le-leb low 125 (le_trans l (escaped_bound e v)) in
    let u : nat_le low (escaped_letter e) ≡ true = le-leb low (escaped_letter e) l in
    then (one (reading (ClassDash low) d) (reading (RangeEscape low) d) 92 (e ∷ cs) []
    (ap (λ b. joined_reading (cond b (Some (RangeEscape low)) None) (Some d)) t) (ap (λ b. cond b (Some (RangeEscape low)) None) t) refl)
    (one (reading (RangeEscape low) d) (reading ClassItem d) e cs (Member low (escaped_letter e) ∷ [])
    (ap (λ m. joined_reading (range_escape_next low m e) (Some d)) b ∙ ap (λ b. joined_reading (cond b (Some ClassItem) None) (Some d)) u)
    (ap (λ m. range_escape_next low m e) b ∙ ap (λ b. cond b (Some ClassItem) None) u) (ap (λ m. range_escape_tokens low m e) b))

-- the items of a class behind others, and its end
pub items_lead : (items : List ClassMember) (k : Control) (d : ℕ) (cs : List ℕ) → IsItemAt k → AreLaterItems items
    → Leads (reading k d) (items_spelling items ++ 93 ∷ cs) (items_tokens_then items) (reading InAtom d) cs
items_lead [] k d cs i v = close_after k d cs i
items_lead (Hyphen ∷ items) k d cs i v =
    subst (λ x. Leads (reading k d) (items_spelling (Hyphen ∷ x) ++ 93 ∷ cs) (items_tokens_then (Hyphen ∷ x)) (reading InAtom d) cs) (sym v) (last_after k d cs i)
items_lead (One s ∷ items) k d cs i v =
    subst (λ x. Leads (reading k d) x (items_tokens_then (One s ∷ items)) (reading InAtom d) cs) (sym (append_assoc (single_spelling s) (items_spelling items) (93 ∷ cs)))
    (then (one_single k d s (items_spelling items ++ 93 ∷ cs) i v.0) (items_lead items (ClassSingle (meant s)) d cs tt v.1))
items_lead (Range a b ∷ items) k d cs i v =
    subst (λ x. Leads (reading k d) x (items_tokens_then (Range a b ∷ items)) (reading InAtom d) cs) (sym regroup)
    (then (one_single k d a (45 ∷ (single_spelling b ++ (items_spelling items ++ 93 ∷ cs))) i v.0.0)
    (then (one (reading (ClassSingle (meant a)) d) (reading (ClassDash (meant a)) d) 45 (single_spelling b ++ (items_spelling items ++ 93 ∷ cs)) [] refl refl refl)
    (then (range_end (meant a) d b (items_spelling items ++ 93 ∷ cs) v.0.1 v.0.2) (items_lead items ClassItem d cs tt v.1))))
  where
    regroup : (item_spelling (Range a b) ++ items_spelling items) ++ 93 ∷ cs ≡ single_spelling a ++ 45 ∷ (single_spelling b ++ (items_spelling items ++ 93 ∷ cs))
    regroup = append_assoc (single_spelling a ++ 45 ∷ single_spelling b) (items_spelling items) (93 ∷ cs)
        ∙ append_assoc (single_spelling a) (45 ∷ single_spelling b) (items_spelling items ++ 93 ∷ cs)
items_lead (Spaces ∷ items) k d cs i v =
    then (escape_after k d (115 ∷ (items_spelling items ++ 93 ∷ cs)) i) (then (spaces_after d (items_spelling items ++ 93 ∷ cs)) (items_lead items ClassItem d cs tt v.1))

-- the first item of a negated class is read as a later one, if it is no hyphen
as_later : (d x : ℕ) (cs more : List ℕ) (F : List Token → List Token) (after : Reading) (m : Within) → within x ≡ m → (m ≡ PlainWithin) ⊎ (m ≡ BackslashWithin)
    → Leads (reading ClassItem d) (x ∷ cs) F after more → Leads (reading ClassNegated d) (x ∷ cs) F after more
as_later d x cs more F after m w c l = record {
  runs = ap (λ n. run_reading (joined_reading n (Some d)) cs) same ∙ l.runs;
  tokens = ap (λ n. item_tokens (within x) x ++ emit_tokens n cs) same ∙ l.tokens;
}
  where
    equal : (m : Within) → (m ≡ PlainWithin) ⊎ (m ≡ BackslashWithin) → class_first_next m x ≡ class_item_next m x
    equal PlainWithin c = refl
    equal BackslashWithin c = refl
    equal HyphenWithin (inl e) = absurd (cc)
    equal HyphenWithin (inr e) = absurd (cc)
    equal CloseClass (inl e) = absurd (cc)
    equal CloseClass (inr e) = absurd (cc)
    equal StrayWithin c = refl

    same : class_first_next (within x) x ≡ class_item_next (within x) x
    same = ap (λ y. class_first_next y x) w ∙ equal m c ∙ ap (λ y. class_item_next y x) (sym w)

-- the first item of a class that is not negated is read as that of a negated one, if it is no circumflex
as_negated : (d x : ℕ) (cs more : List ℕ) (F : List Token → List Token) (after : Reading) → (x == 94) ≡ false
    → Leads (reading ClassNegated d) (x ∷ cs) F after more → Leads (reading InClassStart d) (x ∷ cs) (λ y. ClassStart false ∷ F y) after more
as_negated d x cs more F after n l = record {
  runs = ap (λ b. run_reading (joined_reading (cond b (Some ClassNegated) (class_first_next (within x) x)) (Some d)) cs) n ∙ l.runs;
  tokens = ap (λ b. cond b (ClassStart true ∷ []) (ClassStart false ∷ item_tokens (within x) x) ++ emit_tokens (cond b (Some ClassNegated) (class_first_next (within x) x)) cs) n
      ∙ ap (λ y. ClassStart false ∷ y) l.tokens;
}

hyphen_first : (d : ℕ) (items : List ClassMember) (cs : List ℕ) → AreLaterItems items
    → Leads (reading ClassNegated d) (items_spelling (Hyphen ∷ items) ++ 93 ∷ cs) (items_tokens_then (Hyphen ∷ items)) (reading InAtom d) cs
hyphen_first d items cs v =
    then (one (reading ClassNegated d) (reading ClassItem d) 45 (items_spelling items ++ 93 ∷ cs) (Member 45 45 ∷ []) refl refl refl) (items_lead items ClassItem d cs tt v)

pub negated_lead : (negated : Bool) (d : ℕ) (items : List ClassMember) (cs : List ℕ) → AreItems negated items
    → Leads (reading ClassNegated d) (items_spelling items ++ 93 ∷ cs) (items_tokens_then items) (reading InAtom d) cs
negated_lead negated d [] cs v = absurd v
negated_lead negated d (Hyphen ∷ items) cs v = hyphen_first d items cs v
negated_lead negated d (One (Plain c) ∷ items) cs v =
    as_later d c (items_spelling items ++ 93 ∷ cs) cs (items_tokens_then (One (Plain c) ∷ items)) (reading InAtom d) PlainWithin (within_plain c v.0.0 v.0.1) (inl refl)
    (items_lead (One (Plain c) ∷ items) ClassItem d cs tt (v.0, v.2))
negated_lead negated d (One (Escaped e) ∷ items) cs v =
    as_later d 92 (e ∷ (items_spelling items ++ 93 ∷ cs)) cs (items_tokens_then (One (Escaped e) ∷ items)) (reading InAtom d) BackslashWithin refl (inr refl)
    (items_lead (One (Escaped e) ∷ items) ClassItem d cs tt (v.0, v.2))
negated_lead negated d (Range (Plain c) h ∷ items) cs v =
    as_later d c ((45 ∷ single_spelling h ++ items_spelling items) ++ 93 ∷ cs) cs (items_tokens_then (Range (Plain c) h ∷ items)) (reading InAtom d) PlainWithin
    (within_plain c v.0.0.0 v.0.0.1) (inl refl) (items_lead (Range (Plain c) h ∷ items) ClassItem d cs tt (v.0, v.2))
negated_lead negated d (Range (Escaped e) h ∷ items) cs v =
    as_later d 92 ((e ∷ 45 ∷ single_spelling h ++ items_spelling items) ++ 93 ∷ cs) cs (items_tokens_then (Range (Escaped e) h ∷ items)) (reading InAtom d) BackslashWithin
    refl (inr refl) (items_lead (Range (Escaped e) h ∷ items) ClassItem d cs tt (v.0, v.2))
negated_lead negated d (Spaces ∷ items) cs v =
    as_later d 92 (115 ∷ (items_spelling items ++ 93 ∷ cs)) cs (items_tokens_then (Spaces ∷ items)) (reading InAtom d) BackslashWithin refl (inr refl)
    (items_lead (Spaces ∷ items) ClassItem d cs tt (v.0, v.2))

pub start_lead : (d : ℕ) (items : List ClassMember) (cs : List ℕ) → AreItems false items
    → Leads (reading InClassStart d) (items_spelling items ++ 93 ∷ cs) (λ y. ClassStart false ∷ items_tokens_then items y) (reading InAtom d) cs
start_lead d [] cs v = absurd v
start_lead d (Hyphen ∷ items) cs v =
    as_negated d 45 (items_spelling items ++ 93 ∷ cs) cs (items_tokens_then (Hyphen ∷ items)) (reading InAtom d) refl (negated_lead false d (Hyphen ∷ items) cs v)
start_lead d (One (Plain c) ∷ items) cs v =
    as_negated d c (items_spelling items ++ 93 ∷ cs) cs (items_tokens_then (One (Plain c) ∷ items)) (reading InAtom d) (v.1 refl) (negated_lead false d (One (Plain c) ∷ items) cs v)
start_lead d (One (Escaped e) ∷ items) cs v =
    as_negated d 92 (e ∷ (items_spelling items ++ 93 ∷ cs)) cs (items_tokens_then (One (Escaped e) ∷ items)) (reading InAtom d) refl (negated_lead false d (One (Escaped e) ∷ items) cs v)
start_lead d (Range (Plain c) h ∷ items) cs v =
    as_negated d c ((45 ∷ single_spelling h ++ items_spelling items) ++ 93 ∷ cs) cs (items_tokens_then (Range (Plain c) h ∷ items)) (reading InAtom d) (v.1 refl)
    (negated_lead false d (Range (Plain c) h ∷ items) cs v)
start_lead d (Range (Escaped e) h ∷ items) cs v =
    as_negated d 92 ((e ∷ 45 ∷ single_spelling h ++ items_spelling items) ++ 93 ∷ cs) cs (items_tokens_then (Range (Escaped e) h ∷ items)) (reading InAtom d) refl
    (negated_lead false d (Range (Escaped e) h ∷ items) cs v)
start_lead d (Spaces ∷ items) cs v =
    as_negated d 92 (115 ∷ (items_spelling items ++ 93 ∷ cs)) cs (items_tokens_then (Spaces ∷ items)) (reading InAtom d) refl (negated_lead false d (Spaces ∷ items) cs v)

-- an atom
pub letter_outside : (d e : ℕ) (cs : List ℕ) → IsEscapeLetter e → Leads (reading InEscape d) (e ∷ cs) (λ x. SingleToken (escaped_letter e) ∷ x) (reading InAtom d) cs
letter_outside d e cs l =
    let b = backslash_letter e l in
    one (reading InEscape d) (reading InAtom d) e cs (SingleToken (escaped_letter e) ∷ [])
    (ap (λ m. joined_reading (escape_next m) (Some d)) b) (ap escape_next b) (ap (λ m. escape_tokens m e) b)

pub atom_lead : (a : Atom) (k : Control) (d : ℕ) (cs : List ℕ) → IsPlainAt k → IsAtom a → Leads (reading k d) (atom_spelling a ++ cs) (atom_tokens_then a) (reading InAtom d) cs
atom_lead (Character c) k d cs p v = outside_one k InAtom d d c cs Ordinary p (outside_ordinary c v) tt refl refl
atom_lead Dot k d cs p v = outside_one k InAtom d d 46 cs DotOutside p refl tt refl refl
atom_lead (Escape e) k d cs p v = then (outside_one k InEscape d d 92 (e ∷ cs) Backslash p refl tt refl refl) (letter_outside d e cs v)
atom_lead Space k d cs p v =
    then (outside_one k InEscape d d 92 (115 ∷ cs) Backslash p refl tt refl refl) (one (reading InEscape d) (reading InAtom d) 115 cs (SpacesToken ∷ []) refl refl refl)
atom_lead (Class true items) k d cs p v =
    subst (λ x. Leads (reading k d) (91 ∷ 94 ∷ x) (atom_tokens_then (Class true items)) (reading InAtom d) cs) (sym (append_assoc (items_spelling items) (93 ∷ []) cs))
    (then (outside_one k InClassStart d d 91 (94 ∷ (items_spelling items ++ 93 ∷ cs)) OpenClass p refl tt refl refl)
    (then (one (reading InClassStart d) (reading ClassNegated d) 94 (items_spelling items ++ 93 ∷ cs) (ClassStart true ∷ []) refl refl refl)
    (negated_lead true d items cs v)))
atom_lead (Class false items) k d cs p v =
    subst (λ x. Leads (reading k d) (91 ∷ x) (atom_tokens_then (Class false items)) (reading InAtom d) cs) (sym (append_assoc (items_spelling items) (93 ∷ []) cs))
    (then (outside_one k InClassStart d d 91 (items_spelling items ++ 93 ∷ cs) OpenClass p refl tt refl refl) (start_lead d items cs v))

-- digits: each of them takes a tenth of the weight
abbrev pub shrunk : List ℕ → ℕ → ℕ
shrunk [] weight = weight
shrunk (c ∷ digits) weight = shrunk digits (weight / 10)

-- there is weight enough
abbrev pub Weighs : List ℕ → ℕ → Type 0
Weighs [] weight = 1 ≤ weight
Weighs (c ∷ digits) weight = (10 ≤ weight) × Weighs digits (weight / 10)

-- weight enough for n digits
abbrev pub HasWeight : ℕ → ℕ → Type 0
HasWeight zero weight = 1 ≤ weight
HasWeight (suc n) weight = (10 ≤ weight) × HasWeight n (weight / 10)

weight_positive : (n weight : ℕ) → HasWeight n weight → 1 ≤ weight
weight_positive zero weight h = h
weight_positive (suc n) weight h = omega arith

weighs : (digits : List ℕ) (n weight : ℕ) → length digits ≤ n → HasWeight n weight → Weighs digits weight
weighs [] n weight l h = weight_positive n weight h
weighs (c ∷ digits) zero weight l h = absurd (omega arith)
weighs (c ∷ digits) (suc n) weight l h = (h.0, weighs digits n (weight / 10) (omega arith) h.1)

full_weight : HasWeight 9 whole_weight
full_weight = (lit≤ tt, (lit≤ tt, (lit≤ tt, (lit≤ tt, (lit≤ tt, (lit≤ tt, (lit≤ tt, (lit≤ tt, (lit≤ tt, lit≤ tt)))))))))

shrunk_less : (digits : List ℕ) (weight : ℕ) → shrunk digits weight ≤ weight
shrunk_less [] weight = le_refl weight
shrunk_less (c ∷ digits) weight = let h = shrunk_less digits (weight / 10) in omega arith

shrunk_full : (digits : List ℕ) → 1 ≤ length digits → shrunk digits whole_weight < whole_weight
shrunk_full [] l = absurd (omega arith)
shrunk_full (c ∷ digits) l = let h = shrunk_less digits (whole_weight / 10) in let e : whole_weight / 10 ≡ 100000000 = refl in omega arith

-- the digits of a first bound
pub least_digits : (digits : List ℕ) (weight value d : ℕ) (cs : List ℕ) → AllByRecursion IsDigit digits → Weighs digits weight
    → Leads (reading (Least weight value) d) (digits ++ cs) (λ x. x) (reading (Least (shrunk digits weight) (number_after value digits)) d) cs
least_digits [] weight value d cs v w = stay (reading (Least weight value) d) cs
least_digits (c ∷ digits) weight value d cs v w =
    let n = number_digit c v.0 in
    let b : nat_lt weight 10 ≡ false = le-ltb weight 10 w.0 in
    then (one (reading (Least weight value) d) (reading (Least (weight / 10) (10 * value + (c - 48))) d) c (digits ++ cs) []
    (ap (λ m. joined_reading (least_next weight value m) (Some d)) n ∙ ap (λ z. joined_reading (cond z None (Some (Least (weight / 10) (10 * value + (c - 48))))) (Some d)) b)
    (ap (λ m. least_next weight value m) n ∙ ap (λ z. cond z None (Some (Least (weight / 10) (10 * value + (c - 48))))) b)
    (ap (λ m. least_tokens value m) n))
    (least_digits digits (weight / 10) (10 * value + (c - 48)) d cs v.1 w.1)

-- what digits may stand for at most
number_most : (digits : List ℕ) (weight value : ℕ) → AllByRecursion IsDigit digits → Weighs digits weight → number_after value digits + 1 ≤ (value + 1) * weight
number_most [] weight value v w = let h : (value + 1) * 1 ≤ (value + 1) * weight = mul-le-mul (le_refl (value + 1)) w in omega arith
number_most (c ∷ digits) weight value v w =
    let i = number_most digits (weight / 10) (10 * value + (c - 48)) v.1 w.1 in
    let a : 10 * value + (c - 48) + 1 ≤ (value + 1) * 10 = let x = v.0.1 in omega arith in
    let b : (10 * value + (c - 48) + 1) * (weight / 10) ≤ (value + 1) * 10 * (weight / 10) = mul-le-mul a (le_refl (weight / 10)) in
    let e : (value + 1) * 10 * (weight / 10) ≡ (value + 1) * (10 * (weight / 10)) = mul_assoc (value + 1) 10 (weight / 10) in
    let g : 10 * (weight / 10) ≤ weight = omega arith in
    let h : (value + 1) * (10 * (weight / 10)) ≤ (value + 1) * weight = mul-le-mul (le_refl (value + 1)) g in
    le_trans i (le_trans b (subst (λ x. x ≤ (value + 1) * weight) (sym e) h))

-- the digits of a second bound that is not below the first
most_digits : (digits : List ℕ) (least weight value d : ℕ) (cs : List ℕ) → AllByRecursion IsDigit digits → Weighs digits weight → least ≤ number_after value digits
    → Leads (reading (Most least weight value) d) (digits ++ cs) (λ x. x) (reading (Most least (shrunk digits weight) (number_after value digits)) d) cs
most_digits [] least weight value d cs v w l = stay (reading (Most least weight value) d) cs
most_digits (c ∷ digits) least weight value d cs v w l =
    let n = number_digit c v.0 in
    let b : nat_lt weight 10 ≡ false = le-ltb weight 10 w.0 in
    let m = number_most digits (weight / 10) (10 * value + (c - 48)) v.1 w.1 in
    let g : nat_lt least ((10 * value + (c - 48) + 1) * (weight / 10)) ≡ true = lt-ltb least ((10 * value + (c - 48) + 1) * (weight / 10)) (lt_of_lt_of_le (let x : least < number_after (10 * value + (c - 48)) digits + 1 = omega arith in x) m) in
    let K = Most least (weight / 10) (10 * value + (c - 48)) in
    let T = nat_lt least ((10 * value + (c - 48) + 1) * (weight / 10)) in
    then (one (reading (Most least weight value) d) (reading K d) c (digits ++ cs) []
    (ap (λ m. joined_reading (most_next least weight value m) (Some d)) n ∙ ap (λ z. joined_reading (cond z None (cond T (Some K) None)) (Some d)) b ∙ ap (λ z. joined_reading (cond z (Some K) None) (Some d)) g)
    (ap (λ m. most_next least weight value m) n ∙ ap (λ z. cond z None (cond T (Some K) None)) b ∙ ap (λ z. cond z (Some K) None) g)
    (ap (λ m. most_tokens least weight value m) n))
    (most_digits digits least (weight / 10) (10 * value + (c - 48)) d cs v.1 w.1 l)

-- a quantifier
abbrev QuantifierLeads : Quantifier → ℕ → List ℕ → Type 0
QuantifierLeads q d cs = (k : Control) × IsPlainAt k × Leads (reading InAtom d) (quantifier_spelling q ++ cs) (quantifier_tokens_then q) (reading k d) cs

bounds_open : (d : ℕ) (cs : List ℕ) → Leads (reading InAtom d) (123 ∷ cs) (λ x. x) (reading (Least whole_weight 0) d) cs
bounds_open d cs = one (reading InAtom d) (reading (Least whole_weight 0) d) 123 cs [] refl refl refl

pub exact_close : (weight value d : ℕ) (cs : List ℕ) → weight < whole_weight → Leads (reading (Least weight value) d) (125 ∷ cs) (λ x. Times value (Some value) ∷ x) (reading Start d) cs
exact_close weight value d cs l =
    let b : nat_lt weight whole_weight ≡ true = lt-ltb weight whole_weight l in
    one (reading (Least weight value) d) (reading Start d) 125 cs (Times value (Some value) ∷ [])
    (ap (λ z. joined_reading (cond z (Some Start) None) (Some d)) b) (ap (λ z. cond z (Some Start) None) b) refl

bounds_comma : (weight value d : ℕ) (cs : List ℕ) → weight < whole_weight → Leads (reading (Least weight value) d) (44 ∷ cs) (λ x. x) (reading (Most value whole_weight 0) d) cs
bounds_comma weight value d cs l =
    let b : nat_lt weight whole_weight ≡ true = lt-ltb weight whole_weight l in
    one (reading (Least weight value) d) (reading (Most value whole_weight 0) d) 44 cs []
    (ap (λ z. joined_reading (cond z (Some (Most value whole_weight 0)) None) (Some d)) b) (ap (λ z. cond z (Some (Most value whole_weight 0)) None) b) refl

pub most_close : (least weight value d : ℕ) (cs : List ℕ) → weight < whole_weight → least ≤ value
    → Leads (reading (Most least weight value) d) (125 ∷ cs) (λ x. Times least (Some value) ∷ x) (reading Start d) cs
most_close least weight value d cs l m =
    let b : weight == whole_weight ≡ false = ne_eqb weight whole_weight (λ e. absurd (omega arith)) in
    let t : nat_le least value ≡ true = le-leb least value m in
    one (reading (Most least weight value) d) (reading Start d) 125 cs (Times least (Some value) ∷ [])
    (ap (λ z. joined_reading (cond z (Some Start) (cond (nat_le least value) (Some Start) None)) (Some d)) b ∙ ap (λ z. joined_reading (cond z (Some Start) None) (Some d)) t)
    (ap (λ z. cond z (Some Start) (cond (nat_le least value) (Some Start) None)) b ∙ ap (λ z. cond z (Some Start) None) t)
    (ap (λ z. cond z (Times least None ∷ []) (Times least (Some value) ∷ [])) b)

pub quantifier_lead : (q : Quantifier) (d : ℕ) (cs : List ℕ) → IsQuantifier q → QuantifierLeads q d cs
quantifier_lead Once d cs v = (InAtom, inr refl, stay (reading InAtom d) cs)
quantifier_lead Optional d cs v = (Start, inl refl, one (reading InAtom d) (reading Start d) 63 cs (Times 0 (Some 1) ∷ []) refl refl refl)
quantifier_lead AnyNumber d cs v = (Start, inl refl, one (reading InAtom d) (reading Start d) 42 cs (Times 0 None ∷ []) refl refl refl)
quantifier_lead OneOrMore d cs v = (Start, inl refl, one (reading InAtom d) (reading Start d) 43 cs (Times 1 None ∷ []) refl refl refl)
quantifier_lead (Exactly n) d cs v = (
  Start,
  inl refl,
  subst (λ x. Leads (reading InAtom d) (123 ∷ x) (quantifier_tokens_then (Exactly n)) (reading Start d) cs) (sym (append_assoc n (125 ∷ []) cs))
      (then (bounds_open d (n ++ 125 ∷ cs)) (then (least_digits n whole_weight 0 d (125 ∷ cs) v.each (weighs n 9 whole_weight v.most full_weight))
      (exact_close (shrunk n whole_weight) (digits_number n) d cs (shrunk_full n v.least)))),
)
quantifier_lead (AtLeast n) d cs v = (
  Start,
  inl refl,
  subst (λ x. Leads (reading InAtom d) (123 ∷ x) (quantifier_tokens_then (AtLeast n)) (reading Start d) cs) (sym (append_assoc n (44 ∷ 125 ∷ []) cs))
      (then (bounds_open d (n ++ 44 ∷ 125 ∷ cs)) (then (least_digits n whole_weight 0 d (44 ∷ 125 ∷ cs) v.each (weighs n 9 whole_weight v.most full_weight))
      (then (bounds_comma (shrunk n whole_weight) (digits_number n) d (125 ∷ cs) (shrunk_full n v.least))
      (one (reading (Most (digits_number n) whole_weight 0) d) (reading Start d) 125 cs (Times (digits_number n) None ∷ []) refl refl refl)))),
)
quantifier_lead (Between n m) d cs v = (
  Start,
  inl refl,
  subst (λ x. Leads (reading InAtom d) (123 ∷ x) (quantifier_tokens_then (Between n m)) (reading Start d) cs) (sym regroup)
      (then (bounds_open d (n ++ 44 ∷ (m ++ 125 ∷ cs))) (then (least_digits n whole_weight 0 d (44 ∷ (m ++ 125 ∷ cs)) v.0.each (weighs n 9 whole_weight v.0.most full_weight))
      (then (bounds_comma (shrunk n whole_weight) (digits_number n) d (m ++ 125 ∷ cs) (shrunk_full n v.0.least))
      (then (most_digits m (digits_number n) whole_weight 0 d (125 ∷ cs) v.1.each (weighs m 9 whole_weight v.1.most full_weight) v.2)
      (most_close (digits_number n) (shrunk m whole_weight) (digits_number m) d cs (shrunk_full m v.1.least) v.2))))),
)
  where
    regroup : (n ++ 44 ∷ (m ++ 125 ∷ [])) ++ cs ≡ n ++ 44 ∷ (m ++ 125 ∷ cs)
    regroup = append_assoc n (44 ∷ (m ++ 125 ∷ [])) cs ∙ ap (λ x. n ++ 44 ∷ x) (append_assoc m (125 ∷ []) cs)

-- a tree
abbrev pub TreeLeads : Expression → Control → ℕ → List ℕ → Type 0
TreeLeads t k d cs = (after : Control) × IsPlainAt after × Leads (reading k d) (spelling t ++ cs) (tokens_then t) (reading after d) cs

pub tree_lead : (t : Expression) (k : Control) (d : ℕ) (cs : List ℕ) → IsPlainAt k → IsExpression t → TreeLeads t k d cs
tree_lead Empty k d cs p v = (k, p, stay (reading k d) cs)
tree_lead (Piece a q r) k d cs p v =
    let x = quantifier_lead q d (spelling r ++ cs) v.1 in
    let y = tree_lead r x.0 d cs x.1 v.3 in (
      y.0,
      y.1,
      subst (λ z. Leads (reading k d) z (tokens_then (Piece a q r)) (reading y.0 d) cs) (sym regroup)
          (then (atom_lead a k d (quantifier_spelling q ++ (spelling r ++ cs)) p v.0) (then x.2 y.2)),
    )
  where
    regroup : (atom_spelling a ++ (quantifier_spelling q ++ spelling r)) ++ cs ≡ atom_spelling a ++ (quantifier_spelling q ++ (spelling r ++ cs))
    regroup = append_assoc (atom_spelling a) (quantifier_spelling q ++ spelling r) cs ∙ ap (λ z. atom_spelling a ++ z) (append_assoc (quantifier_spelling q) (spelling r) cs)
tree_lead (Group i q r) k d cs p v =
    let g = tree_lead i Start (suc d) (41 ∷ (quantifier_spelling q ++ (spelling r ++ cs))) (inl refl) v.0 in
    let x = quantifier_lead q d (spelling r ++ cs) v.1 in
    let y = tree_lead r x.0 d cs x.1 v.3 in (
      y.0,
      y.1,
      subst (λ z. Leads (reading k d) (40 ∷ z) (tokens_then (Group i q r)) (reading y.0 d) cs) (sym regroup)
          (then (outside_one k Start d (suc d) 40 (spelling i ++ 41 ∷ (quantifier_spelling q ++ (spelling r ++ cs))) OpenGroup p refl tt refl refl)
          (then g.2 (then (outside_one g.0 InAtom (suc d) d 41 (quantifier_spelling q ++ (spelling r ++ cs)) CloseGroup g.1 refl tt refl refl) (then x.2 y.2)))),
    )
  where
    regroup : (spelling i ++ 41 ∷ (quantifier_spelling q ++ spelling r)) ++ cs ≡ spelling i ++ 41 ∷ (quantifier_spelling q ++ (spelling r ++ cs))
    regroup = append_assoc (spelling i) (41 ∷ (quantifier_spelling q ++ spelling r)) cs ∙ ap (λ z. spelling i ++ 41 ∷ z) (append_assoc (quantifier_spelling q) (spelling r) cs)
tree_lead (Choice b r) k d cs p v =
    let x = tree_lead b k d (124 ∷ (spelling r ++ cs)) p v.1 in
    let y = tree_lead r Start d cs (inl refl) v.2 in (
      y.0,
      y.1,
      subst (λ z. Leads (reading k d) z (tokens_then (Choice b r)) (reading y.0 d) cs) (sym (append_assoc (spelling b) (124 ∷ spelling r) cs))
          (then x.2 (then (outside_one x.0 Start d d 124 (spelling r ++ cs) Bar x.1 refl tt refl refl) y.2)),
    )
