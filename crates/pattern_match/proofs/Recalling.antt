-- What a matcher remembers stays right.
use Rattle.std.proofs.Common.{◌≡◌, ◌≢◌, ℕ, suc, ◌+◌, ◌*◌, ◌<◌, ◌⊎◌, inl, inr, Bool, true, false, ◌==◌, Option, Some, None, List, [], ◌∷◌, ◌++◌, length, set, get_or, refl, sym, ap, ap₂, ◌∙◌, subst, arith, length-append, eqb-true}
use Rattle.std.proofs.lemmas.Bool.{eqb-false}
use Rattle.std.proofs.lemmas.List.{get_or-set_same, get_or-set_other, get_or_append_left}
use Rattle.pattern_match.specs.Recall.{Known, row, cell, marks_behind, IsRightTable, IsRow, Matching, marks_at, reached_marks}

-- rows that are as they were, and maybe one more
abbrev pub Grows : Known → Known → List Bool → Type 0
Grows old new marks = (new.rows ≡ old.rows) ⊎ (new.rows ≡ old.rows ++ marks ∷ [])

pub longer : (old new : Known) (marks : List Bool) → Grows old new marks → (s : ℕ) → s < length old.rows → (s < length new.rows) × (row new s ≡ row old s)
longer old new marks (inl e) s l = (subst (λ x. s < length x) (sym e) l, ap (λ x. get_or x s []) e)
longer old new marks (inr e) s l = (
  subst (λ x. s < length x) (sym e) (let z = length-append old.rows (marks ∷ []) in omega arith),
  ap (λ x. get_or x s []) e ∙ get_or_append_left old.rows (marks ∷ []) [] s l,
)

pub row_stays : (old new : Known) (marks : List Bool) → Grows old new marks → (at : Option ℕ) (x : List Bool) → IsRow old at x → IsRow new at x
row_stays old new marks g at x h s e =
    let i = h s e in
    let j = longer old new marks g s i.0 in
    (j.0, j.1 ∙ i.1)

pub table_stays : (next : ℕ → List Bool → List Bool) (old new : Known) (marks : List Bool) → new.table ≡ old.table → Grows old new marks → IsRightTable next old → IsRightTable next new
table_stays next old new marks e g h s c t l i =
    let r = h s c t l (ap (λ x. get_or x (128 * s + c) 0) (sym e) ∙ i) in
    let a = longer old new marks g s r.0 in
    let b = longer old new marks g t r.1 in
    (a.0, b.0, b.1 ∙ r.2 ∙ ap (λ x. next c x) (sym a.1))

-- one cell is noted
abbrev pub Notes : Known → Known → ℕ → ℕ → ℕ → Type 0
Notes old new at c after = (new.table ≡ old.table) ⊎ ((c < 128) × (128 * at + c < length old.table) × (new.table ≡ set old.table (128 * at + c) (after + 1)))

pub noted : (next : ℕ → List Bool → List Bool) (old new : Known) (at c after : ℕ) → new.rows ≡ old.rows → Notes old new at c after
    → at < length old.rows → after < length old.rows → row old after ≡ next c (row old at) → IsRightTable next old → IsRightTable next new
noted next old new at c after e (inl f) l m r h s d t g i = table_stays next old new [] f (inl e) h s d t g i
noted next old new at c after e (inr (k, p, f)) l m r h s d t g i = choose ((128 * s + d) == (128 * at + c)) refl
  where
    choose : (b : Bool) → ((128 * s + d) == (128 * at + c)) ≡ b → (s < length new.rows) × (t < length new.rows) × (row new t ≡ next d (row new s))
    choose true z =
        let y : 128 * s + d ≡ 128 * at + c = eqb-true (128 * s + d) (128 * at + c) z in
        let s1 : s ≡ at = omega arith in
        let d1 : d ≡ c = omega arith in
        let v : get_or new.table (128 * s + d) 0 ≡ after + 1 =
        ap₂ (λ x j. get_or x j 0) f y ∙ get_or-set_same old.table (128 * at + c) (after + 1) 0 p in
        let w : suc t ≡ after + 1 = sym i ∙ v in
        let t1 : t ≡ after = omega arith in (
          subst (λ x. s < length x) (sym e) (subst (λ x. x < length old.rows) (sym s1) l),
          subst (λ x. t < length x) (sym e) (subst (λ x. x < length old.rows) (sym t1) m),
          ap₂ (λ x j. get_or x j []) e t1 ∙ r ∙ ap₂ (λ x y2. next x y2) (sym d1) (ap₂ (λ x j. get_or x j []) (sym e) (sym s1)),
        )
    choose false z =
        let y : 128 * s + d ≢ 128 * at + c = eqb-false (128 * s + d) (128 * at + c) z in
        let v : get_or new.table (128 * s + d) 0 ≡ get_or old.table (128 * s + d) 0 =
        ap (λ x. get_or x (128 * s + d) 0) f ∙ get_or-set_other old.table (128 * at + c) (128 * s + d) (after + 1) 0 y in
        let q = h s d t g (sym v ∙ i) in (
          subst (λ x. s < length x) (sym e) q.0,
          subst (λ x. t < length x) (sym e) q.1,
          ap (λ x. get_or x t []) e ∙ q.2 ∙ ap (λ x. next d (get_or x s [])) (sym e),
        )

-- nothing is known
pub nothing_right : (next : ℕ → List Bool → List Bool) (k : Known) → ((i : ℕ) → get_or k.table i 0 ≡ 0) → IsRightTable next k
nothing_right next k h s c t l i = absurd (let z : suc t ≡ 0 = sym i ∙ h (128 * s + c) in omega arith)

some_is : (a b : ℕ) → Some a ≡ Some b → a ≡ b
some_is a b e = cc

-- marks of a number
pub here : (k : Known) (t : ℕ) (marks : List Bool) → t < length k.rows → row k t ≡ marks → IsRow k (Some t) marks
here k t marks l e s h = subst (λ x. (x < length k.rows) × (row k x ≡ marks)) (some_is t s h) (l, e)

-- what a known cell tells
pub recalled : (next : ℕ → List Bool → List Bool) (old : Matching) (s c t : ℕ) → IsRightTable next old.known → IsRow old.known old.at (reached_marks old) → old.at ≡ Some s
    → c < 128 → cell old.known s c ≡ suc t → (row old.known t ≡ next c (reached_marks old)) × IsRow old.known (Some t) (row old.known t)
recalled next old s c t h r a l i =
    let f = h s c t l i in (f.2 ∙ ap (λ x. next c x) (r s a).1, here old.known t (row old.known t) f.1 refl)

-- marks of which the number is known, if they have one
pub reached_is : (at : Option ℕ) (known : Known) (cells marks : List Bool) → cells ≡ marks → IsRow known at marks → marks_at at known cells ≡ marks
reached_is None known cells marks e r = e
reached_is (Some s) known cells marks e r = (r s refl).1

-- the marks behind one character more
pub behind_snoc : (next : ℕ → List Bool → List Bool) (marks : List Bool) (w : List ℕ) (c : ℕ) → marks_behind next marks (w ++ c ∷ []) ≡ next c (marks_behind next marks w)
behind_snoc next marks [] c = refl
behind_snoc next marks (x ∷ w) c = behind_snoc next (next x marks) w c

-- one character more of which the table tells
pub one_behind : (next : ℕ → List Bool → List Bool) (k : Known) (s t c : ℕ) (marks : List Bool) (w : List ℕ) → IsRightTable next k
    → IsRow k (Some s) (marks_behind next marks w) → c < 128 → cell k s c ≡ suc t → IsRow k (Some t) (marks_behind next marks (w ++ c ∷ []))
one_behind next k s t c marks w h r l i =
    let f = h s c t l i in
    here k t (marks_behind next marks (w ++ c ∷ [])) f.1 (f.2 ∙ ap (λ x. next c x) (r s refl).1 ∙ sym (behind_snoc next marks w c))
