-- Lemmas on words that are made of parts.
use Rattle.std.proofs.Common.{◌≡◌, ℕ, zero, suc, ◌⊎◌, inl, inr, Bool, true, false, IsTrue, List, [], ◌∷◌, ◌++◌, refl, sym, ap, ◌∙◌, subst, ap₂, ⊎_elim, append_assoc, append-nil}
use Rattle.lexical_core.proofs.Lists.{nothing_joined}
use Rattle.pattern_match.specs.Language.{Repeats, IsBoth}
use Rattle.pattern_match.specs.inner.Plan.{Flagged, BeginsPart, Ends}

-- a word of A and one of P: the second is empty or not
pub both_ends : (A P : List ℕ → Type 0) (w : List ℕ) → IsBoth A P w → Ends A P w ⊎ (A w × P [])
both_ends A P w (u, [], e, a, p) = inr (let e' : u ≡ w = sym (e ∙ append-nil u) in subst A e' a, p)
both_ends A P w (u, x ∷ v, e, a, p) = inl (u, x ∷ v, e, (λ h. cc), a, p)

pub ends_both : (A P : List ℕ → Type 0) (w : List ℕ) → Ends A P w ⊎ (A w × P []) → IsBoth A P w
ends_both A P w (inl (u, v, e, n, a, p)) = (u, v, e, a, p)
ends_both A P w (inr (a, p)) = (w, [], sym (append-nil w), a, p)

-- a part behind n parts, and a part before n parts
pub repeats_snoc : (P : List ℕ → Type 0) (k : ℕ) (u v : List ℕ) → Repeats P k u → P v → Repeats P (suc k) (u ++ v)
repeats_snoc P zero u v r p = (v, [], rw r (sym (append-nil v)), p, refl)
repeats_snoc P (suc k) u v r p = (r.0, r.1 ++ v, (ap (λ x. x ++ v) r.2 ∙ append_assoc r.0 r.1 v), r.3, repeats_snoc P k r.1 v r.4 p)

pub repeats_last : (P : List ℕ → Type 0) (k : ℕ) (w : List ℕ) → Repeats P (suc k) w → IsBoth (Repeats P k) P w
repeats_last P zero w r = ([], w, refl, refl, let e : w ≡ r.0 = r.2 ∙ (rw r.4 (append-nil r.0)) in subst P (sym e) r.3)
repeats_last P (suc k) w r =
    let l = repeats_last P k r.1 r.4 in
    (r.0 ++ l.0, l.1, (r.2 ∙ ap (λ x. r.0 ++ x) l.2 ∙ sym (append_assoc r.0 l.0 l.1)), (r.0, l.0, refl, r.3, l.3), l.4)

nil_of_append : (u v : List ℕ) → u ++ v ≡ [] → v ≡ []
nil_of_append u v e = (nothing_joined u v (sym e)).1

-- behind k more parts, the last of them that is not empty ends the word
last_part : (A P : List ℕ → Type 0) (k : ℕ) (w u v : List ℕ) → w ≡ u ++ v → A u → Repeats P k v → (v ≡ []) ⊎ Ends (BeginsPart true A P) P w
last_part A P zero w u v e a r = inl r
last_part A P (suc k) w u v e a r =
    let l = repeats_last P k v r in
    choose (λ x. last_part A P k w u x) l.0 l.1 l.2 l.3 l.4
  where
    choose : ((x : List ℕ) → w ≡ u ++ x → A u → Repeats P k x → (x ≡ []) ⊎ Ends (BeginsPart true A P) P w)
        → (v1 v2 : List ℕ) → v ≡ v1 ++ v2 → Repeats P k v1 → P v2 → (v ≡ []) ⊎ Ends (BeginsPart true A P) P w
    choose ih v1 [] e2 r1 p =
        let e3 : v ≡ v1 = e2 ∙ append-nil v1 in
        ih v e a (subst (Repeats P k) (sym e3) r1)
    choose ih v1 (x ∷ v2) e2 r1 p = inr (u ++ v1, x ∷ v2, (e ∙ ap (λ y. u ++ y) e2 ∙ sym (append_assoc u v1 (x ∷ v2))), (λ h. cc), (u, v1, refl, a, (k, r1)), p)

-- a part may begin where the first may, or behind a part
pub begins_cases : (repeated : Bool) (A P : List ℕ → Type 0) (w : List ℕ) → BeginsPart repeated A P w → A w ⊎ ((repeated ≡ true) × Ends (BeginsPart repeated A P) P w)
begins_cases false A P w a = inl a
begins_cases true A P w (u, v, e, a, (k, r)) = choose (last_part A P k w u v e a r)
  where
    choose : (v ≡ []) ⊎ Ends (BeginsPart true A P) P w → A w ⊎ ((true ≡ true) × Ends (BeginsPart true A P) P w)
    choose (inl n) = let e2 : w ≡ u = e ∙ ap (λ y. u ++ y) n ∙ append-nil u in inl (subst A (sym e2) a)
    choose (inr h) = inr (refl, h)

pub begins_first : (repeated : Bool) (A P : List ℕ → Type 0) (w : List ℕ) → A w → BeginsPart repeated A P w
begins_first false A P w a = a
begins_first true A P w a = (w, [], sym (append-nil w), a, (0, refl))

pub begins_again : (A P : List ℕ → Type 0) (w : List ℕ) → Ends (BeginsPart true A P) P w → BeginsPart true A P w
begins_again A P w (u, v, e, n, (u1, v1, e1, a, (k, r)), p) =
    (u1, v1 ++ v, (e ∙ ap (λ y. y ++ v) e1 ∙ append_assoc u1 v1 v), a, (suc k, repeats_snoc P k v1 v r p))

-- where parts end is where the last part ends
pub flagged_ends : (o r : Bool) (A P : List ℕ → Type 0) (w : List ℕ) → Ends A (Flagged o r P) w → Ends (BeginsPart r A P) P w
flagged_ends false false A P w h = h
flagged_ends true false A P w (u, v, e, n, a, inl z) = absurd (n z)
flagged_ends true false A P w (u, v, e, n, a, inr p) = (u, v, e, n, a, p)
flagged_ends false true A P w (u, v, e, n, a, (k, r)) = ⊎_elim (λ z. absurd (n z)) (λ h. h) (last_part A P (suc k) w u v e a r)
flagged_ends true true A P w (u, v, e, n, a, (k, r)) = ⊎_elim (λ z. absurd (n z)) (λ h. h) (last_part A P k w u v e a r)

pub ends_flagged : (o r : Bool) (A P : List ℕ → Type 0) (w : List ℕ) → Ends (BeginsPart r A P) P w → Ends A (Flagged o r P) w
ends_flagged false false A P w h = h
ends_flagged true false A P w (u, v, e, n, a, p) = (u, v, e, n, a, inr p)
ends_flagged false true A P w (u, v, e, n, (u1, v1, e1, a, (k, r)), p) =
    (u1, v1 ++ v, (e ∙ ap (λ y. y ++ v) e1 ∙ append_assoc u1 v1 v), (λ z. n (nil_of_append v1 v z)), a, (k, repeats_snoc P k v1 v r p))
ends_flagged true true A P w (u, v, e, n, (u1, v1, e1, a, (k, r)), p) =
    (u1, v1 ++ v, (e ∙ ap (λ y. y ++ v) e1 ∙ append_assoc u1 v1 v), (λ z. n (nil_of_append v1 v z)), a, (suc k, repeats_snoc P k v1 v r p))

pub flagged_empty : (o r : Bool) (P : List ℕ → Type 0) → Flagged o r P [] → IsTrue o ⊎ P []
flagged_empty false false P p = inr p
flagged_empty true r P p = inl refl
flagged_empty false true P (k, (u, v, e, p, r)) = inr (subst P (nothing_joined u v e).0 p)

pub empty_flagged : (o r : Bool) (P : List ℕ → Type 0) → IsTrue o ⊎ P [] → Flagged o r P []
empty_flagged false false P (inl h) = absurd (cc)
empty_flagged false false P (inr p) = p
empty_flagged true false P h = inl refl
empty_flagged false true P (inl h) = absurd (cc)
empty_flagged false true P (inr p) = (0, ([], [], refl, p, refl))
empty_flagged true true P h = (0, refl)

-- where two parts end: where the second ends, or where the first does and the second may be empty
pub then_ends : (A P Q : List ℕ → Type 0) (w : List ℕ) → Ends A (IsBoth P Q) w → Ends (IsBoth A P) Q w ⊎ (Ends A P w × Q [])
then_ends A P Q w (u, v, e, n, a, (v1, [], e2, p, q)) =
    let e3 : v ≡ v1 = e2 ∙ append-nil v1 in
    inr ((u, v1, (e ∙ ap (λ y. u ++ y) e3), (λ z. n (e3 ∙ z)), a, p), q)
then_ends A P Q w (u, v, e, n, a, (v1, x ∷ v2, e2, p, q)) =
    inl (u ++ v1, x ∷ v2, (e ∙ ap (λ y. u ++ y) e2 ∙ sym (append_assoc u v1 (x ∷ v2))), (λ z. cc), (u, v1, refl, a, p), q)

pub ends_then : (A P Q : List ℕ → Type 0) (w : List ℕ) → Ends (IsBoth A P) Q w ⊎ (Ends A P w × Q []) → Ends A (IsBoth P Q) w
ends_then A P Q w (inl (u, v, e, n, (u1, v1, e1, a, p), q)) =
    (u1, v1 ++ v, (e ∙ ap (λ y. y ++ v) e1 ∙ append_assoc u1 v1 v), (λ z. n (nil_of_append v1 v z)), a, (v1, v, refl, p, q))
ends_then A P Q w (inr ((u, v, e, n, a, p), q)) = (u, v, e, n, a, (v, [], sym (append-nil v), p, q))

pub then_empty : (P Q : List ℕ → Type 0) → IsBoth P Q [] → P [] × Q []
then_empty P Q (u, v, e, p, q) = (subst P (nothing_joined u v e).0 p, subst Q (nothing_joined u v e).1 q)

pub empty_then : (P Q : List ℕ → Type 0) → P [] → Q [] → IsBoth P Q []
empty_then P Q p q = ([], [], refl, p, q)

-- the last characters of two equal words
pub snoc_injective : (u w : List ℕ) (c d : ℕ) → u ++ c ∷ [] ≡ w ++ d ∷ [] → (u ≡ w) × (c ≡ d)
snoc_injective [] [] c d e = (refl, cc)
snoc_injective [] (y ∷ w) c d e = let h : [] ≡ w ++ d ∷ [] = cc in absurd (snoc_some w d h)
  where
    snoc_some : (w : List ℕ) (d : ℕ) → [] ≡ w ++ d ∷ [] → ⊥
    snoc_some [] d h = cc
    snoc_some (z ∷ w) d h = cc
snoc_injective (x ∷ u) [] c d e = let h : [] ≡ u ++ c ∷ [] = cc in absurd (snoc_some u c h)
  where
    snoc_some : (w : List ℕ) (d : ℕ) → [] ≡ w ++ d ∷ [] → ⊥
    snoc_some [] d h = cc
    snoc_some (z ∷ w) d h = cc
snoc_injective (x ∷ u) (y ∷ w) c d e =
    let h : u ++ c ∷ [] ≡ w ++ d ∷ [] = cc in
    let k : x ≡ y = cc in
    let r = snoc_injective u w c d h in
    (ap₂ (λ a b. a ∷ b) k r.0, r.1)

-- a character that ends a word
pub taken_ends : (A : List ℕ → Type 0) (T : ℕ → Type 0) (w : List ℕ) (c : ℕ)
    → Ends A (λ v. (d : ℕ) × (v ≡ d ∷ []) × T d) (w ++ c ∷ []) → A w × T c
taken_ends A T w c (u, v, e, n, a, (d, e2, t)) =
    let r = snoc_injective w u c d (e ∙ ap (λ y. u ++ y) e2) in
    (subst A (sym r.0) a, subst T (sym r.1) t)

pub ends_taken : (A : List ℕ → Type 0) (T : ℕ → Type 0) (w : List ℕ) (c : ℕ)
    → A w → T c → Ends A (λ v. (d : ℕ) × (v ≡ d ∷ []) × T d) (w ++ c ∷ [])
ends_taken A T w c a t = (w, c ∷ [], refl, (λ z. cc), a, (c, refl, t))

-- nothing ends the empty word
pub empty_ends : (A P : List ℕ → Type 0) → Ends A P [] → ⊥
empty_ends A P (u, v, e, n, a, p) = n (nothing_joined u v e).1
