-- One text has at most one tree.
use Rattle.std.proofs.Common.{◌≡◌, ℕ, ◌≤◌, ◌⊎◌, inl, inr, Bool, true, false, ◌==◌, List, [], ◌∷◌, ◌++◌, length, codes, refl, sym, ap, ap₂, ◌∙◌, subst, ⊎_elim, arith, append_assoc, append-nil, eq-eqb, true≢false}
use Rattle.std.proofs.lemmas.Bool.Decides.{nat_tests}
use Rattle.std.specs.List.{AllByRecursion}
use Rattle.lexical_core.proofs.Lists.{first_apart, same_first, same_rest}
use Rattle.pattern_match.specs.Expression.{Single, Plain, Escaped, ClassMember, One, Range, Spaces, Hyphen, Atom, Character, Dot, Escape, Space, Class, Quantifier, Once, Optional, AnyNumber, OneOrMore, Exactly, AtLeast, Between, Expression, Empty, Piece, Group, Choice}
use Rattle.pattern_match.specs.Spelling.{single_spelling, items_spelling, negation_spelling, atom_spelling, quantifier_spelling, spelling}
use Rattle.pattern_match.specs.Valid.{is_among, IsSingle, AreLaterItems, AreItems, IsOrdinary, IsEscapeLetter, IsAtom, IsDigit, IsQuantifier, IsBranch, IsExpression}
use Rattle.pattern_match.specs.Reading.{IsTreeOf}

plain_not : (c d : ℕ) → is_among (codes "\\[]-") c ≡ false → is_among (codes "\\[]-") d ≡ true → c ≡ d → ⊥
plain_not c d n h e = let k : is_among (codes "\\[]-") d ≡ false = subst (λ z. is_among (codes "\\[]-") z ≡ false) e n in cc

ordinary_not : (c d : ℕ) → IsOrdinary c → is_among (codes ".\\?*+()|[]{}") d ≡ true → c ≡ d → ⊥
ordinary_not c d n h e = let k : is_among (codes ".\\?*+()|[]{}") d ≡ false = subst (λ z. is_among (codes ".\\?*+()|[]{}") z ≡ false) e n.1 in cc

letter_not : (c d : ℕ) → IsEscapeLetter c → is_among (codes "nrt\\|.-^?*+{}()[]") d ≡ false → c ≡ d → ⊥
letter_not c d n h e = let k : is_among (codes "nrt\\|.-^?*+{}()[]") d ≡ true = subst (λ z. is_among (codes "nrt\\|.-^?*+{}()[]") z ≡ true) e n in cc

-- two singles
abbrev Same : (A : Type 0) → A → A → List ℕ → List ℕ → Type 0
Same A s t x y = (s ≡ t) × (x ≡ y)

single_one : (s t : Single) (x y : List ℕ) → IsSingle s → IsSingle t → single_spelling s ++ x ≡ single_spelling t ++ y → Same Single s t x y
single_one (Plain c) (Plain d) x y v w e = (ap Plain (same_first c d x y e), same_rest c d x y e)
single_one (Plain c) (Escaped d) x y v w e = absurd (plain_not c 92 v.1 refl (same_first c 92 x (d ∷ y) e))
single_one (Escaped c) (Plain d) x y v w e = absurd (plain_not d 92 w.1 refl (sym (same_first 92 d (c ∷ x) y e)))
single_one (Escaped c) (Escaped d) x y v w e = let f = same_rest 92 92 (c ∷ x) (d ∷ y) e in (ap Escaped (same_first c d x y f), same_rest c d x y f)

-- a single does not begin as a class ends, nor as a hyphen
single_not : (s : Single) (d : ℕ) (x y : List ℕ) → IsSingle s → is_among (codes "[]-") d ≡ true → single_spelling s ++ x ≡ d ∷ y → ⊥
single_not (Plain c) d x y v h e = plain_not c d v.1 (more d h) (same_first c d x y e)
  where
    more : (d : ℕ) → is_among (codes "[]-") d ≡ true → is_among (codes "\\[]-") d ≡ true
    more d h = grind (arith, nat_tests)
single_not (Escaped c) d x y v h e = let k : is_among (codes "[]-") 92 ≡ true = subst (λ z. is_among (codes "[]-") z ≡ true) (sym (same_first 92 d (c ∷ x) y e)) h in cc

single_not_space : (s : Single) (x y : List ℕ) → IsSingle s → single_spelling s ++ x ≡ 92 ∷ 115 ∷ y → ⊥
single_not_space (Plain c) x y v e = plain_not c 92 v.1 refl (same_first c 92 x (115 ∷ y) e)
single_not_space (Escaped c) x y v e = letter_not c 115 v refl (same_first c 115 x y (same_rest 92 92 (c ∷ x) (115 ∷ y) e))

-- what a range is spelled as, before more
range_split : (a b : Single) (items : List ClassMember) (x : List ℕ)
    → items_spelling (Range a b ∷ items) ++ x ≡ single_spelling a ++ 45 ∷ (single_spelling b ++ (items_spelling items ++ x))
range_split a b items x =
    append_assoc (single_spelling a ++ 45 ∷ single_spelling b) (items_spelling items) x
    ∙ append_assoc (single_spelling a) (45 ∷ single_spelling b) (items_spelling items ++ x)

one_split : (s : Single) (items : List ClassMember) (x : List ℕ) → items_spelling (One s ∷ items) ++ x ≡ single_spelling s ++ (items_spelling items ++ x)
one_split s items x = append_assoc (single_spelling s) (items_spelling items) x

-- items after others that begin with a hyphen are one
hyphen_rest : (items : List ClassMember) (x z : List ℕ) → AreLaterItems items → items_spelling items ++ 93 ∷ x ≡ 45 ∷ z → (items ≡ Hyphen ∷ []) × (z ≡ 93 ∷ x)
hyphen_rest [] x z v e = absurd (first_apart 93 45 _ _ refl e)
hyphen_rest (One s ∷ items) x z v e = absurd (single_not s 45 (items_spelling items ++ 93 ∷ x) z v.0 refl (sym (one_split s items (93 ∷ x)) ∙ e))
hyphen_rest (Range a b ∷ items) x z v e =
    absurd (single_not a 45 (45 ∷ (single_spelling b ++ (items_spelling items ++ 93 ∷ x))) z v.0.0 refl (sym (range_split a b items (93 ∷ x)) ∙ e))
hyphen_rest (Spaces ∷ items) x z v e = absurd (first_apart 92 45 _ _ refl e)
hyphen_rest (Hyphen ∷ items) x z v e = (ap (λ k. Hyphen ∷ k) v, sym (same_rest 45 45 (items_spelling items ++ 93 ∷ x) z e) ∙ ap (λ i. items_spelling i ++ 93 ∷ x) v)

-- a class does not go on where it ends
single_not_end : (s : Single) (x y : List ℕ) → IsSingle s → single_spelling s ++ x ≡ 93 ∷ y → ⊥
single_not_end s x y v e = single_not s 93 x y v refl e

items_one : (i j : List ClassMember) (x y : List ℕ) → AreLaterItems i → AreLaterItems j → items_spelling i ++ 93 ∷ x ≡ items_spelling j ++ 93 ∷ y → Same (List ClassMember) i j x y
items_one [] [] x y v w e = (refl, same_rest 93 93 x y e)
items_one [] (One t ∷ j) x y v w e = absurd (single_not_end t (items_spelling j ++ 93 ∷ y) x w.0 (sym (e ∙ one_split t j (93 ∷ y))))
items_one [] (Range a b ∷ j) x y v w e = absurd (single_not_end a (45 ∷ (single_spelling b ++ (items_spelling j ++ 93 ∷ y))) x w.0.0 (sym (e ∙ range_split a b j (93 ∷ y))))
items_one [] (Spaces ∷ j) x y v w e = absurd (first_apart 93 92 _ _ refl e)
items_one [] (Hyphen ∷ j) x y v w e = absurd (first_apart 93 45 _ _ refl e)
items_one (One s ∷ i) [] x y v w e = absurd (single_not_end s (items_spelling i ++ 93 ∷ x) y v.0 (sym (one_split s i (93 ∷ x)) ∙ e))
items_one (One s ∷ i) (One t ∷ j) x y v w e =
    let f = single_one s t (items_spelling i ++ 93 ∷ x) (items_spelling j ++ 93 ∷ y) v.0 w.0 (sym (one_split s i (93 ∷ x)) ∙ e ∙ one_split t j (93 ∷ y)) in
    let g = items_one i j x y v.1 w.1 f.1 in
    (ap₂ (λ a b. One a ∷ b) f.0 g.0, g.1)
items_one (One s ∷ i) (Range a b ∷ j) x y v w e =
    let f = single_one s a (items_spelling i ++ 93 ∷ x) (45 ∷ (single_spelling b ++ (items_spelling j ++ 93 ∷ y))) v.0 w.0.0 (sym (one_split s i (93 ∷ x)) ∙ e ∙ range_split a b j (93 ∷ y)) in
    absurd (single_not_end b (items_spelling j ++ 93 ∷ y) x w.0.1 (hyphen_rest i x (single_spelling b ++ (items_spelling j ++ 93 ∷ y)) v.1 f.1).1)
items_one (One s ∷ i) (Spaces ∷ j) x y v w e = absurd (single_not_space s (items_spelling i ++ 93 ∷ x) (items_spelling j ++ 93 ∷ y) v.0 (sym (one_split s i (93 ∷ x)) ∙ e))
items_one (One s ∷ i) (Hyphen ∷ j) x y v w e = absurd (single_not s 45 (items_spelling i ++ 93 ∷ x) (items_spelling j ++ 93 ∷ y) v.0 refl (sym (one_split s i (93 ∷ x)) ∙ e))
items_one (Range a b ∷ i) [] x y v w e = absurd (single_not_end a (45 ∷ (single_spelling b ++ (items_spelling i ++ 93 ∷ x))) y v.0.0 (sym (range_split a b i (93 ∷ x)) ∙ e))
items_one (Range a b ∷ i) (One t ∷ j) x y v w e =
    let f = single_one a t (45 ∷ (single_spelling b ++ (items_spelling i ++ 93 ∷ x))) (items_spelling j ++ 93 ∷ y) v.0.0 w.0 (sym (range_split a b i (93 ∷ x)) ∙ e ∙ one_split t j (93 ∷ y)) in
    absurd (single_not_end b (items_spelling i ++ 93 ∷ x) y v.0.1 (hyphen_rest j y (single_spelling b ++ (items_spelling i ++ 93 ∷ x)) w.1 (sym f.1)).1)
items_one (Range a b ∷ i) (Range c d ∷ j) x y v w e =
    let f = single_one a c (45 ∷ (single_spelling b ++ (items_spelling i ++ 93 ∷ x))) (45 ∷ (single_spelling d ++ (items_spelling j ++ 93 ∷ y))) v.0.0 w.0.0
    (sym (range_split a b i (93 ∷ x)) ∙ e ∙ range_split c d j (93 ∷ y)) in
    let g = single_one b d (items_spelling i ++ 93 ∷ x) (items_spelling j ++ 93 ∷ y) v.0.1 w.0.1
    (same_rest 45 45 (single_spelling b ++ (items_spelling i ++ 93 ∷ x)) (single_spelling d ++ (items_spelling j ++ 93 ∷ y)) f.1) in
    let h = items_one i j x y v.1 w.1 g.1 in
    (ap₂ (λ r k. r ∷ k) (ap₂ Range f.0 g.0) h.0, h.1)
items_one (Range a b ∷ i) (Spaces ∷ j) x y v w e =
    absurd (single_not_space a (45 ∷ (single_spelling b ++ (items_spelling i ++ 93 ∷ x))) (items_spelling j ++ 93 ∷ y) v.0.0 (sym (range_split a b i (93 ∷ x)) ∙ e))
items_one (Range a b ∷ i) (Hyphen ∷ j) x y v w e =
    absurd (single_not a 45 (45 ∷ (single_spelling b ++ (items_spelling i ++ 93 ∷ x))) (items_spelling j ++ 93 ∷ y) v.0.0 refl (sym (range_split a b i (93 ∷ x)) ∙ e))
items_one (Spaces ∷ i) [] x y v w e = absurd (first_apart 92 93 _ _ refl e)
items_one (Spaces ∷ i) (One t ∷ j) x y v w e = absurd (single_not_space t (items_spelling j ++ 93 ∷ y) (items_spelling i ++ 93 ∷ x) w.0 (sym (e ∙ one_split t j (93 ∷ y))))
items_one (Spaces ∷ i) (Range a b ∷ j) x y v w e =
    absurd (single_not_space a (45 ∷ (single_spelling b ++ (items_spelling j ++ 93 ∷ y))) (items_spelling i ++ 93 ∷ x) w.0.0 (sym (e ∙ range_split a b j (93 ∷ y))))
items_one (Spaces ∷ i) (Spaces ∷ j) x y v w e =
    let g = items_one i j x y v.1 w.1 (same_rest 115 115 (items_spelling i ++ 93 ∷ x) (items_spelling j ++ 93 ∷ y) (same_rest 92 92 (115 ∷ (items_spelling i ++ 93 ∷ x)) (115 ∷ (items_spelling j ++ 93 ∷ y)) e)) in
    (ap (λ k. Spaces ∷ k) g.0, g.1)
items_one (Spaces ∷ i) (Hyphen ∷ j) x y v w e = absurd (first_apart 92 45 _ _ refl e)
items_one (Hyphen ∷ i) [] x y v w e = absurd (first_apart 45 93 _ _ refl e)
items_one (Hyphen ∷ i) (One t ∷ j) x y v w e = absurd (single_not t 45 (items_spelling j ++ 93 ∷ y) (items_spelling i ++ 93 ∷ x) w.0 refl (sym (e ∙ one_split t j (93 ∷ y))))
items_one (Hyphen ∷ i) (Range a b ∷ j) x y v w e =
    absurd (single_not a 45 (45 ∷ (single_spelling b ++ (items_spelling j ++ 93 ∷ y))) (items_spelling i ++ 93 ∷ x) w.0.0 refl (sym (e ∙ range_split a b j (93 ∷ y))))
items_one (Hyphen ∷ i) (Spaces ∷ j) x y v w e = absurd (first_apart 45 92 _ _ refl e)
items_one (Hyphen ∷ i) (Hyphen ∷ j) x y v w e = (
  ap (λ k. Hyphen ∷ k) (v ∙ sym w),
  same_rest 93 93 x y (ap (λ k. items_spelling k ++ 93 ∷ x) (sym v) ∙ same_rest 45 45 (items_spelling i ++ 93 ∷ x) (items_spelling j ++ 93 ∷ y) e ∙ ap (λ k. items_spelling k ++ 93 ∷ y) w),
)

-- the items of a class are those after others, or a hyphen and such
first_items : (n : Bool) (i : List ClassMember) → AreItems n i → AreLaterItems i ⊎ ((k : List ClassMember) × (i ≡ Hyphen ∷ k) × AreLaterItems k)
first_items n [] v = absurd v
first_items n (Hyphen ∷ i) v = inr (i, refl, v)
first_items n (One s ∷ i) v = inl (v.0, v.2)
first_items n (Range a b ∷ i) v = inl (v.0, v.2)
first_items n (Spaces ∷ i) v = inl (tt, v.2)

mixed : (i k : List ClassMember) (x y : List ℕ) → AreLaterItems i → AreLaterItems k → items_spelling i ++ 93 ∷ x ≡ items_spelling (Hyphen ∷ k) ++ 93 ∷ y → Same (List ClassMember) i (Hyphen ∷ k) x y
mixed i k x y v w e =
    let h = hyphen_rest i x (items_spelling k ++ 93 ∷ y) v e in
    let g = items_one k [] y x w tt h.1 in
    (h.0 ∙ ap (λ z. Hyphen ∷ z) (sym g.0), sym g.1)

all_items : (n m : Bool) (i j : List ClassMember) (x y : List ℕ) → AreItems n i → AreItems m j → items_spelling i ++ 93 ∷ x ≡ items_spelling j ++ 93 ∷ y → Same (List ClassMember) i j x y
all_items n m i j x y v w e = choose (first_items n i v) (first_items m j w)
  where
    choose : AreLaterItems i ⊎ ((k : List ClassMember) × (i ≡ Hyphen ∷ k) × AreLaterItems k) → AreLaterItems j ⊎ ((k : List ClassMember) × (j ≡ Hyphen ∷ k) × AreLaterItems k) → Same (List ClassMember) i j x y
    choose (inl a) (inl b) = items_one i j x y a b e
    choose (inl a) (inr (k, p, b)) =
        let g = mixed i k x y a b (e ∙ ap (λ z. items_spelling z ++ 93 ∷ y) p) in (g.0 ∙ sym p, g.1)
    choose (inr (k, p, a)) (inl b) =
        let g = mixed j k y x b a (sym e ∙ ap (λ z. items_spelling z ++ 93 ∷ x) p) in (p ∙ sym g.0, sym g.1)
    choose (inr (k, p, a)) (inr (l, q, b)) =
        let f = ap (λ z. items_spelling z ++ 93 ∷ x) (sym p) ∙ e ∙ ap (λ z. items_spelling z ++ 93 ∷ y) q in
        let g = items_one k l x y a b (same_rest 45 45 (items_spelling k ++ 93 ∷ x) (items_spelling l ++ 93 ∷ y) f) in
        (p ∙ ap (λ z. Hyphen ∷ z) g.0 ∙ sym q, g.1)

caret_not : (j : List ClassMember) (z y : List ℕ) → AreItems false j → items_spelling j ++ z ≡ 94 ∷ y → ⊥
caret_not [] z y v e = v
caret_not (Hyphen ∷ j) z y v e = first_apart 45 94 _ _ refl e
caret_not (Spaces ∷ j) z y v e = first_apart 92 94 _ _ refl e
caret_not (One (Escaped c) ∷ j) z y v e = first_apart 92 94 _ _ refl e
caret_not (Range (Escaped c) b ∷ j) z y v e = first_apart 92 94 _ _ refl e
caret_not (One (Plain c) ∷ j) z y v e = let h = same_first c 94 (items_spelling j ++ z) y e in let k : c == 94 ≡ true = eq-eqb c 94 h in let f : c == 94 ≡ false = v.1 refl in true≢false (sym k ∙ f)
caret_not (Range (Plain c) b ∷ j) z y v e =
    let h = same_first c 94 ((45 ∷ single_spelling b ++ items_spelling j) ++ z) y e in let k : c == 94 ≡ true = eq-eqb c 94 h in let f : c == 94 ≡ false = v.1 refl in true≢false (sym k ∙ f)

class_split : (n : Bool) (i : List ClassMember) (x : List ℕ) → atom_spelling (Class n i) ++ x ≡ 91 ∷ (negation_spelling n ++ (items_spelling i ++ 93 ∷ x))
class_split n i x =
    ap (λ z. 91 ∷ z) (append_assoc (negation_spelling n) (items_spelling i ++ 93 ∷ []) x ∙ ap (λ z. negation_spelling n ++ z) (append_assoc (items_spelling i) (93 ∷ []) x))

class_one : (n m : Bool) (i j : List ClassMember) (x y : List ℕ) → AreItems n i → AreItems m j
    → negation_spelling n ++ (items_spelling i ++ 93 ∷ x) ≡ negation_spelling m ++ (items_spelling j ++ 93 ∷ y) → Same Atom (Class n i) (Class m j) x y
class_one true true i j x y v w e =
    let g = all_items true true i j x y v w (same_rest 94 94 (items_spelling i ++ 93 ∷ x) (items_spelling j ++ 93 ∷ y) e) in (ap (λ k. Class true k) g.0, g.1)
class_one false false i j x y v w e = let g = all_items false false i j x y v w e in (ap (λ k. Class false k) g.0, g.1)
class_one true false i j x y v w e = absurd (caret_not j (93 ∷ y) (items_spelling i ++ 93 ∷ x) w (sym e))
class_one false true i j x y v w e = absurd (caret_not i (93 ∷ x) (items_spelling j ++ 93 ∷ y) v e)

atom_one : (a b : Atom) (x y : List ℕ) → IsAtom a → IsAtom b → atom_spelling a ++ x ≡ atom_spelling b ++ y → Same Atom a b x y
atom_one (Character c) (Character d) x y v w e = (ap Character (same_first c d x y e), same_rest c d x y e)
atom_one (Character c) Dot x y v w e = absurd (ordinary_not c 46 v refl (same_first c 46 x y e))
atom_one (Character c) (Escape d) x y v w e = absurd (ordinary_not c 92 v refl (same_first c 92 x (d ∷ y) e))
atom_one (Character c) Space x y v w e = absurd (ordinary_not c 92 v refl (same_first c 92 x (115 ∷ y) e))
atom_one (Character c) (Class m j) x y v w e = absurd (ordinary_not c 91 v refl (same_first c 91 x (negation_spelling m ++ (items_spelling j ++ 93 ∷ y)) (e ∙ class_split m j y)))
atom_one Dot (Character d) x y v w e = absurd (ordinary_not d 46 w refl (sym (same_first 46 d x y e)))
atom_one Dot Dot x y v w e = (refl, same_rest 46 46 x y e)
atom_one (Escape c) (Character d) x y v w e = absurd (ordinary_not d 92 w refl (sym (same_first 92 d (c ∷ x) y e)))
atom_one (Escape c) (Escape d) x y v w e = let f = same_rest 92 92 (c ∷ x) (d ∷ y) e in (ap Escape (same_first c d x y f), same_rest c d x y f)
atom_one (Escape c) Space x y v w e = absurd (letter_not c 115 v refl (same_first c 115 x y (same_rest 92 92 (c ∷ x) (115 ∷ y) e)))
atom_one Space (Character d) x y v w e = absurd (ordinary_not d 92 w refl (sym (same_first 92 d (115 ∷ x) y e)))
atom_one Space (Escape d) x y v w e = absurd (letter_not d 115 w refl (sym (same_first 115 d x y (same_rest 92 92 (115 ∷ x) (d ∷ y) e))))
atom_one Space Space x y v w e = (refl, same_rest 115 115 x y (same_rest 92 92 (115 ∷ x) (115 ∷ y) e))
atom_one (Class n i) (Character d) x y v w e = absurd (ordinary_not d 91 w refl (sym (same_first 91 d (negation_spelling n ++ (items_spelling i ++ 93 ∷ x)) y (sym (class_split n i x) ∙ e))))
atom_one (Class n i) (Class m j) x y v w e =
    class_one n m i j x y v w (same_rest 91 91 (negation_spelling n ++ (items_spelling i ++ 93 ∷ x)) (negation_spelling m ++ (items_spelling j ++ 93 ∷ y)) (sym (class_split n i x) ∙ e ∙ class_split m j y))
atom_one Dot (Escape d) x y v w e = absurd (first_apart 46 92 _ _ refl e)
atom_one Dot Space x y v w e = absurd (first_apart 46 92 _ _ refl e)
atom_one Dot (Class m j) x y v w e = absurd (first_apart 46 91 _ _ refl e)
atom_one (Escape c) Dot x y v w e = absurd (first_apart 92 46 _ _ refl e)
atom_one (Escape c) (Class m j) x y v w e = absurd (first_apart 92 91 _ _ refl e)
atom_one Space Dot x y v w e = absurd (first_apart 92 46 _ _ refl e)
atom_one Space (Class m j) x y v w e = absurd (first_apart 92 91 _ _ refl e)
atom_one (Class n i) Dot x y v w e = absurd (first_apart 91 46 _ _ refl e)
atom_one (Class n i) (Escape d) x y v w e = absurd (first_apart 91 92 _ _ refl e)
atom_one (Class n i) Space x y v w e = absurd (first_apart 91 92 _ _ refl e)

-- digits up to a character that is none
digits_one : (n m : List ℕ) (c d : ℕ) (x y : List ℕ) → AllByRecursion IsDigit n → AllByRecursion IsDigit m → (IsDigit c → ⊥) → (IsDigit d → ⊥)
    → n ++ c ∷ x ≡ m ++ d ∷ y → (n ≡ m) × (c ≡ d) × (x ≡ y)
digits_one [] [] c d x y v w s t e = (refl, same_first c d x y e, same_rest c d x y e)
digits_one [] (b ∷ m) c d x y v w s t e = absurd (s (subst IsDigit (sym (same_first c b x (m ++ d ∷ y) e)) w.0))
digits_one (a ∷ n) [] c d x y v w s t e = absurd (t (subst IsDigit (same_first a d (n ++ c ∷ x) y e) v.0))
digits_one (a ∷ n) (b ∷ m) c d x y v w s t e =
    let g = digits_one n m c d x y v.1 w.1 s t (same_rest a b (n ++ c ∷ x) (m ++ d ∷ y) e) in
    (ap₂ (λ p q. p ∷ q) (same_first a b (n ++ c ∷ x) (m ++ d ∷ y) e) g.0, g.1, g.2)

no_comma : IsDigit 44 → ⊥
no_comma d = let a : 48 ≤ 44 = d.0 in omega arith

no_brace : IsDigit 125 → ⊥
no_brace d = let a : 125 ≤ 57 = d.1 in omega arith

-- what follows a piece begins with no quantifier
abbrev NoMarkFirst : List ℕ → Type 0
NoMarkFirst [] = Unit {0}
NoMarkFirst (c ∷ x) = is_among (codes "?*+{") c ≡ false

mark_not : (d : ℕ) (x y : List ℕ) → NoMarkFirst x → is_among (codes "?*+{") d ≡ true → x ≡ d ∷ y → ⊥
mark_not d [] y n h e = cc
mark_not d (c ∷ x) y n h e = let k : is_among (codes "?*+{") d ≡ false = subst (λ z. is_among (codes "?*+{") z ≡ false) (same_first c d x y e) n in cc

exactly_split : (n : List ℕ) (x : List ℕ) → quantifier_spelling (Exactly n) ++ x ≡ 123 ∷ (n ++ 125 ∷ x)
exactly_split n x = ap (λ z. 123 ∷ z) (append_assoc n (125 ∷ []) x)

at_least_split : (n : List ℕ) (x : List ℕ) → quantifier_spelling (AtLeast n) ++ x ≡ 123 ∷ (n ++ 44 ∷ 125 ∷ x)
at_least_split n x = ap (λ z. 123 ∷ z) (append_assoc n (44 ∷ 125 ∷ []) x)

between_split : (n m : List ℕ) (x : List ℕ) → quantifier_spelling (Between n m) ++ x ≡ 123 ∷ (n ++ 44 ∷ (m ++ 125 ∷ x))
between_split n m x = ap (λ z. 123 ∷ z) (append_assoc n (44 ∷ (m ++ 125 ∷ [])) x ∙ ap (λ z. n ++ 44 ∷ z) (append_assoc m (125 ∷ []) x))

-- what a quantifier begins with
mark_of : Quantifier → ℕ
mark_of Once = 0
mark_of Optional = 63
mark_of AnyNumber = 42
mark_of OneOrMore = 43
mark_of (Exactly n) = 123
mark_of (AtLeast n) = 123
mark_of (Between n m) = 123

abbrev IsMarked : Quantifier → Type 0
IsMarked Once = ⊥
IsMarked q = Unit {0}

marked : (q : Quantifier) (x : List ℕ) → IsMarked q → (y : List ℕ) × (quantifier_spelling q ++ x ≡ mark_of q ∷ y)
unfolding mark_of
marked Once x h = absurd h
marked Optional x h = (x, refl)
marked AnyNumber x h = (x, refl)
marked OneOrMore x h = (x, refl)
marked (Exactly n) x h = ((n ++ 125 ∷ []) ++ x, refl)
marked (AtLeast n) x h = ((n ++ 44 ∷ 125 ∷ []) ++ x, refl)
marked (Between n m) x h = ((n ++ 44 ∷ (m ++ 125 ∷ [])) ++ x, refl)

quantifier_clash : (q p : Quantifier) (x y : List ℕ) → IsMarked q → IsMarked p → (mark_of q == mark_of p) ≡ false → quantifier_spelling q ++ x ≡ quantifier_spelling p ++ y → ⊥
quantifier_clash q p x y h g n e =
    let a = marked q x h in
    let b = marked p y g in
    first_apart (mark_of q) (mark_of p) a.0 b.0 n (sym a.1 ∙ e ∙ b.1)

quantifier_one : (q p : Quantifier) (x y : List ℕ) → IsQuantifier q → IsQuantifier p → NoMarkFirst x → NoMarkFirst y → quantifier_spelling q ++ x ≡ quantifier_spelling p ++ y → Same Quantifier q p x y
unfolding mark_of
quantifier_one Once Once x y v w n m e = (refl, e)
quantifier_one Once Optional x y v w n m e = absurd (mark_not 63 x y n refl e)
quantifier_one Once AnyNumber x y v w n m e = absurd (mark_not 42 x y n refl e)
quantifier_one Once OneOrMore x y v w n m e = absurd (mark_not 43 x y n refl e)
quantifier_one Once (Exactly a) x y v w n m e = absurd (mark_not 123 x (a ++ 125 ∷ y) n refl (e ∙ exactly_split a y))
quantifier_one Once (AtLeast a) x y v w n m e = absurd (mark_not 123 x (a ++ 44 ∷ 125 ∷ y) n refl (e ∙ at_least_split a y))
quantifier_one Once (Between a b) x y v w n m e = absurd (mark_not 123 x (a ++ 44 ∷ (b ++ 125 ∷ y)) n refl (e ∙ between_split a b y))
quantifier_one Optional Once x y v w n m e = absurd (mark_not 63 y x m refl (sym e))
quantifier_one AnyNumber Once x y v w n m e = absurd (mark_not 42 y x m refl (sym e))
quantifier_one OneOrMore Once x y v w n m e = absurd (mark_not 43 y x m refl (sym e))
quantifier_one (Exactly a) Once x y v w n m e = absurd (mark_not 123 y (a ++ 125 ∷ x) m refl (sym e ∙ exactly_split a x))
quantifier_one (AtLeast a) Once x y v w n m e = absurd (mark_not 123 y (a ++ 44 ∷ 125 ∷ x) m refl (sym e ∙ at_least_split a x))
quantifier_one (Between a b) Once x y v w n m e = absurd (mark_not 123 y (a ++ 44 ∷ (b ++ 125 ∷ x)) m refl (sym e ∙ between_split a b x))
quantifier_one Optional Optional x y v w n m e = (refl, same_rest 63 63 x y e)
quantifier_one AnyNumber AnyNumber x y v w n m e = (refl, same_rest 42 42 x y e)
quantifier_one OneOrMore OneOrMore x y v w n m e = (refl, same_rest 43 43 x y e)
quantifier_one (Exactly a) (Exactly b) x y v w n m e =
    let f = same_rest 123 123 (a ++ 125 ∷ x) (b ++ 125 ∷ y) (sym (exactly_split a x) ∙ e ∙ exactly_split b y) in
    let g = digits_one a b 125 125 x y v.each w.each no_brace no_brace f in
    (ap Exactly g.0, g.2)
quantifier_one (Exactly a) (AtLeast b) x y v w n m e =
    let f = same_rest 123 123 (a ++ 125 ∷ x) (b ++ 44 ∷ 125 ∷ y) (sym (exactly_split a x) ∙ e ∙ at_least_split b y) in
    let g = digits_one a b 125 44 x (125 ∷ y) v.each w.each no_brace no_comma f in
    absurd (let h = g.1 in omega arith)
quantifier_one (Exactly a) (Between b c) x y v w n m e =
    let f = same_rest 123 123 (a ++ 125 ∷ x) (b ++ 44 ∷ (c ++ 125 ∷ y)) (sym (exactly_split a x) ∙ e ∙ between_split b c y) in
    let g = digits_one a b 125 44 x (c ++ 125 ∷ y) v.each w.0.each no_brace no_comma f in
    absurd (let h = g.1 in omega arith)
quantifier_one (AtLeast a) (Exactly b) x y v w n m e =
    let f = same_rest 123 123 (a ++ 44 ∷ 125 ∷ x) (b ++ 125 ∷ y) (sym (at_least_split a x) ∙ e ∙ exactly_split b y) in
    let g = digits_one a b 44 125 (125 ∷ x) y v.each w.each no_comma no_brace f in
    absurd (let h = g.1 in omega arith)
quantifier_one (AtLeast a) (AtLeast b) x y v w n m e =
    let f = same_rest 123 123 (a ++ 44 ∷ 125 ∷ x) (b ++ 44 ∷ 125 ∷ y) (sym (at_least_split a x) ∙ e ∙ at_least_split b y) in
    let g = digits_one a b 44 44 (125 ∷ x) (125 ∷ y) v.each w.each no_comma no_comma f in
    (ap AtLeast g.0, same_rest 125 125 x y g.2)
quantifier_one (AtLeast a) (Between b c) x y v w n m e =
    let f = same_rest 123 123 (a ++ 44 ∷ 125 ∷ x) (b ++ 44 ∷ (c ++ 125 ∷ y)) (sym (at_least_split a x) ∙ e ∙ between_split b c y) in
    let g = digits_one a b 44 44 (125 ∷ x) (c ++ 125 ∷ y) v.each w.0.each no_comma no_comma f in
    let h = digits_one [] c 125 125 x y tt w.1.each no_brace no_brace g.2 in
    absurd (let k : 1 ≤ 0 = subst (λ (z : List ℕ). 1 ≤ length z) (sym h.0) w.1.least in omega arith)
quantifier_one (Between a b) (Exactly c) x y v w n m e =
    let f = same_rest 123 123 (a ++ 44 ∷ (b ++ 125 ∷ x)) (c ++ 125 ∷ y) (sym (between_split a b x) ∙ e ∙ exactly_split c y) in
    let g = digits_one a c 44 125 (b ++ 125 ∷ x) y v.0.each w.each no_comma no_brace f in
    absurd (let h = g.1 in omega arith)
quantifier_one (Between a b) (AtLeast c) x y v w n m e =
    let f = same_rest 123 123 (a ++ 44 ∷ (b ++ 125 ∷ x)) (c ++ 44 ∷ 125 ∷ y) (sym (between_split a b x) ∙ e ∙ at_least_split c y) in
    let g = digits_one a c 44 44 (b ++ 125 ∷ x) (125 ∷ y) v.0.each w.each no_comma no_comma f in
    let h = digits_one b [] 125 125 x y v.1.each tt no_brace no_brace g.2 in
    absurd (let k : 1 ≤ 0 = subst (λ (z : List ℕ). 1 ≤ length z) h.0 v.1.least in omega arith)
quantifier_one (Between a b) (Between c d) x y v w n m e =
    let f = same_rest 123 123 (a ++ 44 ∷ (b ++ 125 ∷ x)) (c ++ 44 ∷ (d ++ 125 ∷ y)) (sym (between_split a b x) ∙ e ∙ between_split c d y) in
    let g = digits_one a c 44 44 (b ++ 125 ∷ x) (d ++ 125 ∷ y) v.0.each w.0.each no_comma no_comma f in
    let h = digits_one b d 125 125 x y v.1.each w.1.each no_brace no_brace g.2 in
    (ap₂ Between g.0 h.0, h.2)
quantifier_one q p x y v w n m e = absurd (quantifier_clash q p x y tt tt refl e)

-- what follows a branch, and a whole pattern in its group
abbrev IsTail : List ℕ → Type 0
IsTail [] = Unit {0}
IsTail (c ∷ x) = (c ≡ 124) ⊎ (c ≡ 41)

abbrev IsGroupTail : List ℕ → Type 0
IsGroupTail [] = Unit {0}
IsGroupTail (c ∷ x) = c ≡ 41

group_tail : (x : List ℕ) → IsGroupTail x → IsTail x
group_tail [] h = tt
group_tail (c ∷ x) h = inr h

no_bar : (x y : List ℕ) → IsGroupTail x → x ≡ 124 ∷ y → ⊥
no_bar [] y h e = cc
no_bar (c ∷ x) y h e = let k : c ≡ 124 = same_first c 124 x y e in omega arith

-- an atom begins with neither
atom_head : (a : Atom) (c : ℕ) (z x : List ℕ) → IsAtom a → (c ≡ 124) ⊎ (c ≡ 41) → atom_spelling a ++ z ≡ c ∷ x → ⊥
atom_head (Character d) c z x v (inl h) e = ordinary_not d 124 v refl (same_first d c z x e ∙ h)
atom_head (Character d) c z x v (inr h) e = ordinary_not d 41 v refl (same_first d c z x e ∙ h)
atom_head Dot c z x v h e = let k : 46 ≡ c = cc in ⊎_elim (λ g. absurd (omega arith)) (λ g. absurd (omega arith)) h
atom_head (Escape d) c z x v h e = let k : 92 ≡ c = cc in ⊎_elim (λ g. absurd (omega arith)) (λ g. absurd (omega arith)) h
atom_head Space c z x v h e = let k : 92 ≡ c = cc in ⊎_elim (λ g. absurd (omega arith)) (λ g. absurd (omega arith)) h
atom_head (Class n i) c z x v h e = let k : 91 ≡ c = cc in ⊎_elim (λ g. absurd (omega arith)) (λ g. absurd (omega arith)) h

tail_no_atom : (a : Atom) (x z : List ℕ) → IsAtom a → IsTail x → atom_spelling a ++ z ≡ x → ⊥
tail_no_atom (Character d) [] z v h e = cc
tail_no_atom Dot [] z v h e = cc
tail_no_atom (Escape d) [] z v h e = cc
tail_no_atom Space [] z v h e = cc
tail_no_atom (Class n i) [] z v h e = cc
tail_no_atom a (c ∷ x) z v h e = atom_head a c z x v h e

tail_no_group : (x z : List ℕ) → IsTail x → 40 ∷ z ≡ x → ⊥
tail_no_group [] z h e = cc
tail_no_group (c ∷ x) z h e = let k : 40 ≡ c = cc in ⊎_elim (λ g. absurd (omega arith)) (λ g. absurd (omega arith)) h

atom_no_group : (a : Atom) (x z : List ℕ) → IsAtom a → atom_spelling a ++ x ≡ 40 ∷ z → ⊥
atom_no_group (Character d) x z v e = ordinary_not d 40 v refl (same_first d 40 x z e)
atom_no_group Dot x z v e = first_apart 46 40 _ _ refl e
atom_no_group (Escape d) x z v e = first_apart 92 40 _ _ refl e
atom_no_group Space x z v e = first_apart 92 40 _ _ refl e
atom_no_group (Class n i) x z v e = first_apart 91 40 _ _ refl e

ordinary_no_mark : (c : ℕ) → is_among (codes ".\\?*+()|[]{}") c ≡ false → is_among (codes "?*+{") c ≡ false
ordinary_no_mark c h = grind (arith, nat_tests)

branch_no_mark : (r : Expression) (x : List ℕ) → IsBranch r → IsExpression r → IsTail x → NoMarkFirst (spelling r ++ x)
branch_no_mark Empty [] b v t = tt
branch_no_mark Empty (c ∷ x) b v (inl h) = subst (λ z. is_among (codes "?*+{") z ≡ false) (sym h) refl
branch_no_mark Empty (c ∷ x) b v (inr h) = subst (λ z. is_among (codes "?*+{") z ≡ false) (sym h) refl
branch_no_mark (Piece (Character c) q r) x b v t = ordinary_no_mark c v.0.1
branch_no_mark (Piece Dot q r) x b v t = refl
branch_no_mark (Piece (Escape c) q r) x b v t = refl
branch_no_mark (Piece Space q r) x b v t = refl
branch_no_mark (Piece (Class n i) q r) x b v t = refl
branch_no_mark (Group i q r) x b v t = refl
branch_no_mark (Choice l r) x b v t = absurd b

piece_split : (a : Atom) (q : Quantifier) (r : Expression) (x : List ℕ) → spelling (Piece a q r) ++ x ≡ atom_spelling a ++ (quantifier_spelling q ++ (spelling r ++ x))
piece_split a q r x = append_assoc (atom_spelling a) (quantifier_spelling q ++ spelling r) x ∙ ap (λ z. atom_spelling a ++ z) (append_assoc (quantifier_spelling q) (spelling r) x)

group_split : (i : Expression) (q : Quantifier) (r : Expression) (x : List ℕ) → spelling (Group i q r) ++ x ≡ 40 ∷ (spelling i ++ 41 ∷ (quantifier_spelling q ++ (spelling r ++ x)))
group_split i q r x =
    ap (λ z. 40 ∷ z) (append_assoc (spelling i) (41 ∷ (quantifier_spelling q ++ spelling r)) x ∙ ap (λ z. spelling i ++ 41 ∷ z) (append_assoc (quantifier_spelling q) (spelling r) x))

choice_split : (l r : Expression) (x : List ℕ) → spelling (Choice l r) ++ x ≡ spelling l ++ 124 ∷ (spelling r ++ x)
choice_split l r x = append_assoc (spelling l) (124 ∷ spelling r) x

abbrev OneBranch : Expression → Type 0
OneBranch s = (t : Expression) (x y : List ℕ) → IsBranch t → IsExpression s → IsExpression t → IsTail x → IsTail y → spelling s ++ x ≡ spelling t ++ y → Same Expression s t x y

abbrev OnePattern : Expression → Type 0
OnePattern s = (t : Expression) (x y : List ℕ) → IsExpression s → IsExpression t → IsGroupTail x → IsGroupTail y → spelling s ++ x ≡ spelling t ++ y → Same Expression s t x y

record Ones (s : Expression) : Type 0 where
  branch : IsBranch s → OneBranch s
  pattern : OnePattern s

-- a branch as a whole pattern
pattern_of : (s : Expression) → IsBranch s → OneBranch s → OnePattern s
pattern_of s b f (Choice l r) x y v w g h e =
    let k = f l x (124 ∷ (spelling r ++ y)) w.0 v w.1 (group_tail x g) (inl refl) (e ∙ choice_split l r y) in absurd (no_bar x (spelling r ++ y) g k.1)
pattern_of s b f Empty x y v w g h e = f Empty x y tt v w (group_tail x g) (group_tail y h) e
pattern_of s b f (Piece a q r) x y v w g h e = f (Piece a q r) x y tt v w (group_tail x g) (group_tail y h) e
pattern_of s b f (Group i q r) x y v w g h e = f (Group i q r) x y tt v w (group_tail x g) (group_tail y h) e

empty_one : OneBranch Empty
empty_one Empty x y b v w t u e = (refl, e)
empty_one (Piece a q r) x y b v w t u e = absurd (tail_no_atom a x (quantifier_spelling q ++ (spelling r ++ y)) w.0 t (sym (e ∙ piece_split a q r y)))
empty_one (Group i q r) x y b v w t u e = absurd (tail_no_group x (spelling i ++ 41 ∷ (quantifier_spelling q ++ (spelling r ++ y))) t (sym (e ∙ group_split i q r y)))
empty_one (Choice l r) x y b v w t u e = absurd b

piece_one : (a : Atom) (q : Quantifier) (r : Expression) → (IsBranch r → OneBranch r) → OneBranch (Piece a q r)
piece_one a q r f Empty x y b v w t u e = absurd (tail_no_atom a y (quantifier_spelling q ++ (spelling r ++ x)) v.0 u (sym (piece_split a q r x) ∙ e))
piece_one a q r f (Group i p s) x y b v w t u e =
    absurd (atom_no_group a (quantifier_spelling q ++ (spelling r ++ x)) (spelling i ++ 41 ∷ (quantifier_spelling p ++ (spelling s ++ y))) v.0 (sym (piece_split a q r x) ∙ e ∙ group_split i p s y))
piece_one a q r f (Choice l s) x y b v w t u e = absurd b
piece_one a q r f (Piece c p s) x y b v w t u e =
    let g = atom_one a c (quantifier_spelling q ++ (spelling r ++ x)) (quantifier_spelling p ++ (spelling s ++ y)) v.0 w.0 (sym (piece_split a q r x) ∙ e ∙ piece_split c p s y) in
    let h = quantifier_one q p (spelling r ++ x) (spelling s ++ y) v.1 w.1 (branch_no_mark r x v.2 v.3 t) (branch_no_mark s y w.2 w.3 u) g.1 in
    let k = f v.2 s x y w.2 v.3 w.3 t u h.1 in
    (ap (λ z. Piece z q r) g.0 ∙ ap₂ (λ z j. Piece c z j) h.0 k.0, k.1)

group_one : (i : Expression) (q : Quantifier) (r : Expression) → OnePattern i → (IsBranch r → OneBranch r) → OneBranch (Group i q r)
group_one i q r m f Empty x y b v w t u e = absurd (tail_no_group y (spelling i ++ 41 ∷ (quantifier_spelling q ++ (spelling r ++ x))) u (sym (group_split i q r x) ∙ e))
group_one i q r m f (Piece a p s) x y b v w t u e =
    absurd (atom_no_group a (quantifier_spelling p ++ (spelling s ++ y)) (spelling i ++ 41 ∷ (quantifier_spelling q ++ (spelling r ++ x))) w.0 (sym (piece_split a p s y) ∙ sym e ∙ group_split i q r x))
group_one i q r m f (Choice l s) x y b v w t u e = absurd b
group_one i q r m f (Group j p s) x y b v w t u e =
    let c = same_rest 40 40 (spelling i ++ 41 ∷ (quantifier_spelling q ++ (spelling r ++ x))) (spelling j ++ 41 ∷ (quantifier_spelling p ++ (spelling s ++ y)))
    (sym (group_split i q r x) ∙ e ∙ group_split j p s y) in
    let g = m j (41 ∷ (quantifier_spelling q ++ (spelling r ++ x))) (41 ∷ (quantifier_spelling p ++ (spelling s ++ y))) v.0 w.0 refl refl c in
    let h = quantifier_one q p (spelling r ++ x) (spelling s ++ y) v.1 w.1 (branch_no_mark r x v.2 v.3 t) (branch_no_mark s y w.2 w.3 u)
    (same_rest 41 41 (quantifier_spelling q ++ (spelling r ++ x)) (quantifier_spelling p ++ (spelling s ++ y)) g.1) in
    let k = f v.2 s x y w.2 v.3 w.3 t u h.1 in
    (ap (λ z. Group z q r) g.0 ∙ ap₂ (λ z l. Group j z l) h.0 k.0, k.1)

choice_one : (l r : Expression) → (IsBranch l → OneBranch l) → OnePattern r → OnePattern (Choice l r)
choice_one l r f m (Choice a b) x y v w g h e =
    let c = f v.0 a (124 ∷ (spelling r ++ x)) (124 ∷ (spelling b ++ y)) w.0 v.1 w.1 (inl refl) (inl refl) (sym (choice_split l r x) ∙ e ∙ choice_split a b y) in
    let k = m b x y v.2 w.2 g h (same_rest 124 124 (spelling r ++ x) (spelling b ++ y) c.1) in
    (ap₂ Choice c.0 k.0, k.1)
choice_one l r f m Empty x y v w g h e =
    let c = f v.0 Empty (124 ∷ (spelling r ++ x)) y tt v.1 w (inl refl) (group_tail y h) (sym (choice_split l r x) ∙ e) in absurd (no_bar y (spelling r ++ x) h (sym c.1))
choice_one l r f m (Piece a q s) x y v w g h e =
    let c = f v.0 (Piece a q s) (124 ∷ (spelling r ++ x)) y tt v.1 w (inl refl) (group_tail y h) (sym (choice_split l r x) ∙ e) in absurd (no_bar y (spelling r ++ x) h (sym c.1))
choice_one l r f m (Group i q s) x y v w g h e =
    let c = f v.0 (Group i q s) (124 ∷ (spelling r ++ x)) y tt v.1 w (inl refl) (group_tail y h) (sym (choice_split l r x) ∙ e) in absurd (no_bar y (spelling r ++ x) h (sym c.1))

ones : (s : Expression) → Ones s
ones Empty = record { branch = λ b. empty_one; pattern = pattern_of Empty tt empty_one }
ones (Piece a q r) = let f = piece_one a q r (ones r).branch in record { branch = λ b. f; pattern = pattern_of (Piece a q r) tt f }
ones (Group i q r) = let f = group_one i q r (ones i).pattern (ones r).branch in record { branch = λ b. f; pattern = pattern_of (Group i q r) tt f }
ones (Choice l r) = record { branch = λ b. absurd b; pattern = choice_one l r (ones l).branch (ones r).pattern }

-- one text has at most one tree
pub one_tree : (text : List ℕ) (s t : Expression) → IsTreeOf text s → IsTreeOf text t → s ≡ t
one_tree text s t h k =
    ((ones s).pattern t [] [] h.valid k.valid tt tt (append-nil (spelling s) ∙ h.spelled ∙ sym (append-nil (spelling t) ∙ k.spelled))).0
