-- The tokens of a syntax tree, and which characters its atoms have by them.
use Rattle.std.proofs.Common.{◌≡◌, ℕ, suc, ◌+◌, ◌≤◌, ◌⊎◌, ◌↔◌, inl, inr, Bool, true, false, not, ◌||◌, ◌&&◌, ◌==◌, nat_le, IsTrue, List, [], ◌∷◌, drop, refl, sym, ap, ◌∙◌, subst, ⊎_elim, arith, leb-true, le-leb, eqb-true, eq-eqb, zero-add}
use Rattle.lexical_core.proofs.Tests.{either}
use Rattle.pattern_match.specs.Expression.{ClassMember, One, Range, Spaces, Hyphen, Atom, Character, Dot, Escape, Space, Class, Quantifier, Once, Optional, AnyNumber, OneOrMore, Exactly, AtLeast, Between, Expression, Empty, Piece, Group, Choice}
use Rattle.pattern_match.specs.Valid.{escaped_letter, meant, IsItem, AreLaterItems, AreItems, IsAtom}
use Rattle.pattern_match.specs.Language.{IsPatternSpace, ItemHas, SomeHas, AtomHas}
use Rattle.pattern_match.specs.Token.{members_have, is_pattern_space, first_admits}
use Rattle.pattern_match.specs.declared.token.Token.{Token}
use Rattle.pattern_match.specs.declared.token.Token.TheVariants.{Open as OpenToken, Close as CloseToken, Bar as BarToken, Single as SingleToken, Dot as DotToken, Spaces as SpacesToken, ClassStart, Member, Times}
use Rattle.pattern_match.proofs.PassLemmas.{true_or, and_true, true_and}
use Rattle.pattern_match.proofs.Planning.{least_of, most_of}

abbrev pub item_tokens_then : ClassMember → List Token → List Token
item_tokens_then (One s) more = Member (meant s) (meant s) ∷ more
item_tokens_then (Range low high) more = Member (meant low) (meant low) ∷ Member (meant low) (meant high) ∷ more
item_tokens_then Spaces more = Member 32 32 ∷ Member 9 10 ∷ Member 13 13 ∷ more
item_tokens_then Hyphen more = Member 45 45 ∷ more

abbrev pub items_tokens_then : List ClassMember → List Token → List Token
items_tokens_then [] more = more
items_tokens_then (i ∷ items) more = item_tokens_then i (items_tokens_then items more)

abbrev pub atom_tokens_then : Atom → List Token → List Token
atom_tokens_then (Character c) more = SingleToken c ∷ more
atom_tokens_then Dot more = DotToken ∷ more
atom_tokens_then (Escape letter) more = SingleToken (escaped_letter letter) ∷ more
atom_tokens_then Space more = SpacesToken ∷ more
atom_tokens_then (Class negated items) more = ClassStart negated ∷ items_tokens_then items more

abbrev pub quantifier_tokens_then : Quantifier → List Token → List Token
quantifier_tokens_then Once more = more
quantifier_tokens_then q more = Times (least_of q) (most_of q) ∷ more

abbrev pub tokens_then : Expression → List Token → List Token
tokens_then Empty more = more
tokens_then (Piece atom q rest) more = atom_tokens_then atom (quantifier_tokens_then q (tokens_then rest more))
tokens_then (Group inner q rest) more = OpenToken ∷ tokens_then inner (CloseToken ∷ quantifier_tokens_then q (tokens_then rest more))
tokens_then (Choice branch rest) more = tokens_then branch (BarToken ∷ tokens_then rest more)

-- how many tokens they have
abbrev pub item_width : ClassMember → ℕ
item_width (One s) = 1
item_width (Range low high) = 2
item_width Spaces = 3
item_width Hyphen = 1

abbrev pub items_width : List ClassMember → ℕ
items_width [] = 0
items_width (i ∷ items) = item_width i + items_width items

abbrev pub atom_width : Atom → ℕ
atom_width (Class negated items) = suc (items_width items)
atom_width atom = 1

abbrev pub quantifier_width : Quantifier → ℕ
quantifier_width Once = 0
quantifier_width q = 1

abbrev pub width : Expression → ℕ
width Empty = 0
width (Piece atom q rest) = atom_width atom + (quantifier_width q + width rest)
width (Group inner q rest) = suc (width inner + suc (quantifier_width q + width rest))
width (Choice branch rest) = width branch + suc (width rest)

-- the list does not begin with a member of a class
abbrev pub BeginsNoMember : List Token → Type 0
BeginsNoMember [] = Unit {0}
BeginsNoMember (Member low high ∷ tokens) = ⊥
BeginsNoMember (token ∷ tokens) = Unit {0}

pub quantifier_no_member : (q : Quantifier) (more : List Token) → BeginsNoMember more → BeginsNoMember (quantifier_tokens_then q more)
quantifier_no_member Once more h = h
quantifier_no_member Optional more h = tt
quantifier_no_member AnyNumber more h = tt
quantifier_no_member OneOrMore more h = tt
quantifier_no_member (Exactly n) more h = tt
quantifier_no_member (AtLeast n) more h = tt
quantifier_no_member (Between n m) more h = tt

pub atom_no_member : (a : Atom) (more : List Token) → BeginsNoMember (atom_tokens_then a more)
atom_no_member (Character c) more = tt
atom_no_member Dot more = tt
atom_no_member (Escape letter) more = tt
atom_no_member Space more = tt
atom_no_member (Class negated items) more = tt

pub tokens_no_member : (t : Expression) (more : List Token) → BeginsNoMember more → BeginsNoMember (tokens_then t more)
tokens_no_member Empty more h = h
tokens_no_member (Piece a q r) more h = atom_no_member a (quantifier_tokens_then q (tokens_then r more))
tokens_no_member (Group p q r) more h = tt
tokens_no_member (Choice b r) more h = tokens_no_member b (BarToken ∷ tokens_then r more) tt

-- members of a range, of a space, of an item and of items
range_true : (low high c : ℕ) → IsTrue (nat_le low c && nat_le c high) ↔ ((low ≤ c) × (c ≤ high))
range_true low high c = (
  λ t. let x = and_true (nat_le low c) (nat_le c high) t in (leb-true low c x.0, leb-true c high x.1),
  λ x. true_and (nat_le low c) (nat_le c high) (le-leb low c x.0) (le-leb c high x.1),
)

equal_true : (a b : ℕ) → IsTrue (a == b) ↔ (a ≡ b)
equal_true a b = (λ t. eqb-true a b t, λ e. eq-eqb a b e)

pub space_true : (c : ℕ) → IsTrue (is_pattern_space c) ↔ IsPatternSpace c
space_true c = (forth, back)
  where
    forth : IsTrue (is_pattern_space c) → IsPatternSpace c
    forth t = ⊎_elim (λ x. ⊎_elim (λ y. ⊎_elim (λ z. inl (eqb-true c 32 z)) (λ z. inr (inl (eqb-true c 9 z))) (either (c == 32) (c == 9) y)) (λ y. inr (inr (inl (eqb-true c 10 y)))) (either ((c == 32) || (c == 9)) (c == 10) x))
        (λ x. inr (inr (inr (eqb-true c 13 x)))) (either ((c == 32) || (c == 9) || (c == 10)) (c == 13) t)

    back : IsPatternSpace c → IsTrue (is_pattern_space c)
    back (inl e) = true_or ((c == 32) || (c == 9) || (c == 10)) (c == 13) (inl (true_or ((c == 32) || (c == 9)) (c == 10) (inl (true_or (c == 32) (c == 9) (inl (eq-eqb c 32 e))))))
    back (inr (inl e)) = true_or ((c == 32) || (c == 9) || (c == 10)) (c == 13) (inl (true_or ((c == 32) || (c == 9)) (c == 10) (inl (true_or (c == 32) (c == 9) (inr (eq-eqb c 9 e))))))
    back (inr (inr (inl e))) = true_or ((c == 32) || (c == 9) || (c == 10)) (c == 13) (inl (true_or ((c == 32) || (c == 9)) (c == 10) (inr (eq-eqb c 10 e))))
    back (inr (inr (inr e))) = true_or ((c == 32) || (c == 9) || (c == 10)) (c == 13) (inr (eq-eqb c 13 e))

member_true : (low high c : ℕ) (more : List Token) → IsTrue (members_have (Member low high ∷ more) c) ↔ (((low ≤ c) × (c ≤ high)) ⊎ IsTrue (members_have more c))
member_true low high c more = (
  λ t. ⊎_elim (λ x. inl ((range_true low high c).0 x)) (λ x. inr x) (either (nat_le low c && nat_le c high) (members_have more c) t),
  λ x. true_or (nat_le low c && nat_le c high) (members_have more c) (⊎_elim (λ y. inl ((range_true low high c).1 y)) (λ y. inr y) x),
)

item_true : (i : ClassMember) (c : ℕ) (more : List Token) → IsItem i → IsTrue (members_have (item_tokens_then i more) c) ↔ (ItemHas i c ⊎ IsTrue (members_have more c))
item_true (One s) c more v = (
  λ t. ⊎_elim (λ x. inl (omega arith)) (λ x. inr x) ((member_true (meant s) (meant s) c more).0 t),
  λ x. (member_true (meant s) (meant s) c more).1 (⊎_elim (λ y. inl (omega arith, omega arith)) (λ y. inr y) x),
)
item_true (Range a b) c more v = (
  λ t. ⊎_elim (λ x. inl (let l = v.2 in (omega arith, omega arith))) (λ x. ⊎_elim (λ y. inl y) (λ y. inr y) ((member_true (meant a) (meant b) c more).0 x))
      ((member_true (meant a) (meant a) c (Member (meant a) (meant b) ∷ more)).0 t),
  λ x. (member_true (meant a) (meant a) c (Member (meant a) (meant b) ∷ more)).1 (inr ((member_true (meant a) (meant b) c more).1 x)),
)
item_true Spaces c more v = (
  λ t. ⊎_elim (λ x. inl (inl (omega arith))) (λ x. ⊎_elim (λ y. inl (inr (ten y))) (λ y. ⊎_elim (λ z. inl (inr (inr (inr (omega arith))))) (λ z. inr z) ((member_true 13 13 c more).0 y))
      ((member_true 9 10 c (Member 13 13 ∷ more)).0 x)) ((member_true 32 32 c (Member 9 10 ∷ Member 13 13 ∷ more)).0 t),
  λ x. (member_true 32 32 c (Member 9 10 ∷ Member 13 13 ∷ more)).1 (⊎_elim (λ y. back y) (λ y. inr ((member_true 9 10 c (Member 13 13 ∷ more)).1 (inr ((member_true 13 13 c more).1 (inr y))))) x),
)
  where
    ten : (9 ≤ c) × (c ≤ 10) → (c ≡ 9) ⊎ ((c ≡ 10) ⊎ (c ≡ 13))
    ten h = grind arith

    back : IsPatternSpace c → ((32 ≤ c) × (c ≤ 32)) ⊎ IsTrue (members_have (Member 9 10 ∷ Member 13 13 ∷ more) c)
    back (inl e) = inl (omega arith, omega arith)
    back (inr (inl e)) = inr ((member_true 9 10 c (Member 13 13 ∷ more)).1 (inl (omega arith, omega arith)))
    back (inr (inr (inl e))) = inr ((member_true 9 10 c (Member 13 13 ∷ more)).1 (inl (omega arith, omega arith)))
    back (inr (inr (inr e))) = inr ((member_true 9 10 c (Member 13 13 ∷ more)).1 (inr ((member_true 13 13 c more).1 (inl (omega arith, omega arith)))))
item_true Hyphen c more v = (
  λ t. ⊎_elim (λ x. inl (omega arith)) (λ x. inr x) ((member_true 45 45 c more).0 t),
  λ x. (member_true 45 45 c more).1 (⊎_elim (λ y. inl (omega arith, omega arith)) (λ y. inr y) x),
)

no_member_false : (more : List Token) (c : ℕ) → BeginsNoMember more → IsTrue (members_have more c) → ⊥
no_member_false [] c h t = cc
no_member_false (Member low high ∷ more) c h t = h
no_member_false (OpenToken ∷ more) c h t = cc
no_member_false (CloseToken ∷ more) c h t = cc
no_member_false (BarToken ∷ more) c h t = cc
no_member_false (SingleToken x ∷ more) c h t = cc
no_member_false (DotToken ∷ more) c h t = cc
no_member_false (SpacesToken ∷ more) c h t = cc
no_member_false (ClassStart n ∷ more) c h t = cc
no_member_false (Times l m ∷ more) c h t = cc

-- each item by itself is one
abbrev pub AreItemsAlone : List ClassMember → Type 0
AreItemsAlone [] = Unit {0}
AreItemsAlone (i ∷ items) = IsItem i × AreItemsAlone items

later_alone : (items : List ClassMember) → AreLaterItems items → AreItemsAlone items
later_alone [] v = tt
later_alone (Hyphen ∷ items) v = (tt, subst AreItemsAlone (sym v) tt)
later_alone (One s ∷ items) v = (v.0, later_alone items v.1)
later_alone (Range a b ∷ items) v = (v.0, later_alone items v.1)
later_alone (Spaces ∷ items) v = (v.0, later_alone items v.1)

items_alone : (negated : Bool) (items : List ClassMember) → AreItems negated items → AreItemsAlone items
items_alone negated [] v = absurd v
items_alone negated (Hyphen ∷ items) v = (tt, later_alone items v)
items_alone negated (One s ∷ items) v = (v.0, later_alone items v.2)
items_alone negated (Range a b ∷ items) v = (v.0, later_alone items v.2)
items_alone negated (Spaces ∷ items) v = (v.0, later_alone items v.2)

items_true : (items : List ClassMember) (c : ℕ) (more : List Token) → AreItemsAlone items → BeginsNoMember more
    → IsTrue (members_have (items_tokens_then items more) c) ↔ SomeHas items c
items_true [] c more v h = (λ t. no_member_false more c h t, λ x. absurd x)
items_true (i ∷ items) c more v h =
    let k = items_true items c more v.1 h in
    let j = item_true i c (items_tokens_then items more) v.0 in
    (λ t. ⊎_elim (λ x. inl x) (λ x. inr (k.0 x)) (j.0 t), λ x. j.1 (⊎_elim (λ y. inl y) (λ y. inr (k.1 y)) x))

not_true : (b : Bool) → IsTrue (not b) ↔ (IsTrue b → ⊥)
not_true true = (λ t x. cc, λ f. absurd (f refl))
not_true false = (λ t x. cc, λ f. refl)

-- the token of an atom has the atom's characters
pub atom_true : (a : Atom) (c : ℕ) (more : List Token) → IsAtom a → BeginsNoMember more → IsTrue (first_admits (atom_tokens_then a more) c) ↔ AtomHas a c
atom_true (Character x) c more v h = equal_true c x
atom_true Dot c more v h = (
  λ t. (
    λ e. (not_true ((c == 10) || (c == 13))).0 t (true_or (c == 10) (c == 13) (inl (eq-eqb c 10 e))),
    λ e. (not_true ((c == 10) || (c == 13))).0 t (true_or (c == 10) (c == 13) (inr (eq-eqb c 13 e))),
  ),
  λ x. (not_true ((c == 10) || (c == 13))).1 (λ t. ⊎_elim (λ y. x.0 (eqb-true c 10 y)) (λ y. x.1 (eqb-true c 13 y)) (either (c == 10) (c == 13) t)),
)
atom_true (Escape letter) c more v h = equal_true c (escaped_letter letter)
atom_true Space c more v h = space_true c
atom_true (Class true items) c more v h =
    let k = items_true items c more (items_alone true items v) h in
    (λ t x. (not_true (members_have (items_tokens_then items more) c)).0 t (k.1 x), λ f. (not_true (members_have (items_tokens_then items more) c)).1 (λ t. f (k.0 t)))
atom_true (Class false items) c more v h = items_true items c more (items_alone false items v) h

-- what stands behind the tokens of an item, of items, of an atom, of a quantifier and of a tree
item_rest : (i : ClassMember) (more : List Token) (k : ℕ) → drop (item_width i + k) (item_tokens_then i more) ≡ drop k more
item_rest (One s) more k = ap (λ n. drop n (item_tokens_then (One s) more)) (let e : 1 + k ≡ suc k = omega arith in e)
item_rest (Range a b) more k = ap (λ n. drop n (item_tokens_then (Range a b) more)) (let e : 2 + k ≡ suc (suc k) = omega arith in e)
item_rest Spaces more k = ap (λ n. drop n (item_tokens_then Spaces more)) (let e : 3 + k ≡ suc (suc (suc k)) = omega arith in e)
item_rest Hyphen more k = ap (λ n. drop n (item_tokens_then Hyphen more)) (let e : 1 + k ≡ suc k = omega arith in e)

items_rest : (items : List ClassMember) (more : List Token) (k : ℕ) → drop (items_width items + k) (items_tokens_then items more) ≡ drop k more
items_rest [] more k = ap (λ n. drop n more) (zero-add k)
items_rest (i ∷ items) more k =
    ap (λ n. drop n (items_tokens_then (i ∷ items) more)) (let e : item_width i + items_width items + k ≡ item_width i + (items_width items + k) = omega arith in e)
    ∙ item_rest i (items_tokens_then items more) (items_width items + k) ∙ items_rest items more k

pub atom_rest : (a : Atom) (more : List Token) (k : ℕ) → drop (atom_width a + k) (atom_tokens_then a more) ≡ drop k more
atom_rest (Class negated items) more k =
    ap (λ n. drop n (atom_tokens_then (Class negated items) more)) (let e : suc (items_width items) + k ≡ suc (items_width items + k) = omega arith in e)
    ∙ items_rest items more k
atom_rest (Character x) more k = ap (λ n. drop n (atom_tokens_then (Character x) more)) (let e : 1 + k ≡ suc k = omega arith in e)
atom_rest Dot more k = ap (λ n. drop n (atom_tokens_then Dot more)) (let e : 1 + k ≡ suc k = omega arith in e)
atom_rest (Escape x) more k = ap (λ n. drop n (atom_tokens_then (Escape x) more)) (let e : 1 + k ≡ suc k = omega arith in e)
atom_rest Space more k = ap (λ n. drop n (atom_tokens_then Space more)) (let e : 1 + k ≡ suc k = omega arith in e)

pub quantifier_rest : (q : Quantifier) (more : List Token) (k : ℕ) → drop (quantifier_width q + k) (quantifier_tokens_then q more) ≡ drop k more
quantifier_rest Once more k = ap (λ n. drop n more) (zero-add k)
quantifier_rest Optional more k = ap (λ n. drop n (quantifier_tokens_then Optional more)) (let e : 1 + k ≡ suc k = omega arith in e)
quantifier_rest AnyNumber more k = ap (λ n. drop n (quantifier_tokens_then AnyNumber more)) (let e : 1 + k ≡ suc k = omega arith in e)
quantifier_rest OneOrMore more k = ap (λ n. drop n (quantifier_tokens_then OneOrMore more)) (let e : 1 + k ≡ suc k = omega arith in e)
quantifier_rest (Exactly n) more k = ap (λ j. drop j (quantifier_tokens_then (Exactly n) more)) (let e : 1 + k ≡ suc k = omega arith in e)
quantifier_rest (AtLeast n) more k = ap (λ j. drop j (quantifier_tokens_then (AtLeast n) more)) (let e : 1 + k ≡ suc k = omega arith in e)
quantifier_rest (Between n m) more k = ap (λ j. drop j (quantifier_tokens_then (Between n m) more)) (let e : 1 + k ≡ suc k = omega arith in e)

pub tokens_rest : (t : Expression) (more : List Token) (k : ℕ) → drop (width t + k) (tokens_then t more) ≡ drop k more
tokens_rest Empty more k = ap (λ n. drop n more) (zero-add k)
tokens_rest (Piece a q r) more k =
    ap (λ n. drop n (tokens_then (Piece a q r) more))
    (let e : atom_width a + (quantifier_width q + width r) + k ≡ atom_width a + (quantifier_width q + (width r + k)) = omega arith in e)
    ∙ atom_rest a (quantifier_tokens_then q (tokens_then r more)) (quantifier_width q + (width r + k))
    ∙ quantifier_rest q (tokens_then r more) (width r + k) ∙ tokens_rest r more k
tokens_rest (Group p q r) more k =
    ap (λ n. drop n (tokens_then (Group p q r) more))
    (let e : suc (width p + suc (quantifier_width q + width r)) + k ≡ suc (width p + suc (quantifier_width q + (width r + k))) = omega arith in e)
    ∙ tokens_rest p (CloseToken ∷ quantifier_tokens_then q (tokens_then r more)) (suc (quantifier_width q + (width r + k)))
    ∙ quantifier_rest q (tokens_then r more) (width r + k) ∙ tokens_rest r more k
tokens_rest (Choice b r) more k =
    ap (λ n. drop n (tokens_then (Choice b r) more)) (let e : width b + suc (width r) + k ≡ width b + suc (width r + k) = omega arith in e)
    ∙ tokens_rest b (BarToken ∷ tokens_then r more) (suc (width r + k)) ∙ tokens_rest r more k
