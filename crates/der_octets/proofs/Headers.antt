-- Identifier octets and length octets end by themselves: none of them begins another.
use Rattle.std.proofs.Common.{◌≡◌, ℕ, suc, ◌+◌, ◌*◌, ◌≤◌, ◌<◌, Bool, true, false, List, [], ◌∷◌, ◌++◌, length, refl, sym, ap, ◌∙◌, arith, ltb, ◌⊎◌, inl, inr, append_assoc}
use Rattle.std.specs.Prelude.{nat_lt}
use Rattle.std.proofs.lemmas.Bool.Decides.{leb_tells}
use Rattle.std.specs.Int.Digits.{digits_of, AllBelowBase}
use Rattle.std.proofs.lemmas.Int.Digits.{same_from_digits_of, all_below_base_digits_of}
use Rattle.der_octets.specs.Octets.{Class, Universal, Application, Context, Private, Tag, class_bits, form_bit, with_high_bits, identifier, length_octets, wrapped}
use Rattle.der_octets.proofs.Digits.{some-digits_of}

-- fronts of one length are equal
pub same_front : {A : Type 0} (a b x y : List A) → length a ≡ length b → a ++ x ≡ b ++ y → (a ≡ b) × (x ≡ y)
same_front [] [] x y l e = (refl, e)
same_front [] (b ∷ bs) x y l e = absurd (omega arith)
same_front (a ∷ more) [] x y l e = absurd (omega arith)
same_front (a ∷ more) (b ∷ bs) x y l e =
    let heads : a ≡ b = cc in
    let tails : more ++ x ≡ bs ++ y = cc in
    let r : (more ≡ bs) × (x ≡ y) = same_front more bs x y (omega arith) tails in
    (cc, r.1)

pub heads_apart : (p q : ℕ) (ps qs x y : List ℕ) → (p ∷ ps) ++ x ≡ (q ∷ qs) ++ y → (p ≡ q) × (ps ++ x ≡ qs ++ y)
heads_apart p q ps qs x y e = (cc, cc)

-- Below: by what the test on a number tells.
abbrev pub Tells : ℕ → ℕ → Type 0
Tells n top = ((ltb n top ≡ true) × (suc n ≤ top)) ⊎ ((ltb n top ≡ false) × (top < suc n))

pub short_length : (n : ℕ) → nat_lt n 128 ≡ true → length_octets n ≡ n ∷ []
unfolding length_octets
short_length n h = rw h refl

pub long_length : (n : ℕ) → nat_lt n 128 ≡ false → length_octets n ≡ (128 + length (digits_of 256 n)) ∷ digits_of 256 n
unfolding length_octets
long_length n h = rw h refl

pub length_octets_end : (m n : ℕ) (x y : List ℕ) → length_octets m ++ x ≡ length_octets n ++ y → (m ≡ n) × (x ≡ y)
length_octets_end m n x y e = go (leb_tells (suc m) 128) (leb_tells (suc n) 128)
  where
    go : Tells m 128 → Tells n 128 → (m ≡ n) × (x ≡ y)
    go (inl s) (inl t) = heads_apart m n [] [] x y (rw (short_length m s.0, short_length n t.0) at e)
    go (inl s) (inr t) =
        let r : (m ≡ 128 + length (digits_of 256 n)) × (x ≡ digits_of 256 n ++ y) = heads_apart m (128 + length (digits_of 256 n)) [] (digits_of 256 n) x y (rw (short_length m s.0, long_length n t.0) at e) in
        absurd (omega (arith, r.0))
    go (inr s) (inl t) =
        let r : (128 + length (digits_of 256 m) ≡ n) × (digits_of 256 m ++ x ≡ y) = heads_apart (128 + length (digits_of 256 m)) n (digits_of 256 m) [] x y (rw (long_length m s.0, short_length n t.0) at e) in
        absurd (omega (arith, r.0))
    go (inr s) (inr t) =
        let r : (128 + length (digits_of 256 m) ≡ 128 + length (digits_of 256 n)) × (digits_of 256 m ++ x ≡ digits_of 256 n ++ y) = heads_apart (128 + length (digits_of 256 m)) (128 + length (digits_of 256 n)) (digits_of 256 m) (digits_of 256 n) x y (rw (long_length m s.0, long_length n t.0) at e) in
        let q : (digits_of 256 m ≡ digits_of 256 n) × (x ≡ y) = same_front (digits_of 256 m) (digits_of 256 n) x y (omega (arith, r.0)) r.1 in
        (same_from_digits_of 256 m n (omega arith) q.0, q.1)

-- all but the last have the high bit, so they end by themselves
pub high_bits_end : (ds es x y : List ℕ) → AllBelowBase 128 ds → AllBelowBase 128 es → 0 < length ds → 0 < length es → with_high_bits ds ++ x ≡ with_high_bits es ++ y → (ds ≡ es) × (x ≡ y)
high_bits_end [] es x y p q l m e = absurd (omega arith)
high_bits_end (d ∷ ds) [] x y p q l m e = absurd (omega arith)
high_bits_end (d ∷ []) (c ∷ []) x y p q l m e = (cc, cc)
high_bits_end (d ∷ []) (c ∷ b ∷ es) x y p q l m e = absurd (let h : d ≡ 128 + c = cc in let s : d < 128 = p.0 in omega arith)
high_bits_end (d ∷ a ∷ ds) (c ∷ []) x y p q l m e = absurd (let h : 128 + d ≡ c = cc in let s : c < 128 = q.0 in omega arith)
high_bits_end (d ∷ a ∷ ds) (c ∷ b ∷ es) x y p q l m e =
    let h : 128 + d ≡ 128 + c = cc in
    let heads : d ≡ c = omega arith in
    let tails : with_high_bits (a ∷ ds) ++ x ≡ with_high_bits (b ∷ es) ++ y = cc in
    let r : (a ∷ ds ≡ b ∷ es) × (x ≡ y) = high_bits_end (a ∷ ds) (b ∷ es) x y p.1 q.1 (omega arith) (omega arith) tails in
    (cc, r.1)

class_number : Class → ℕ
class_number Universal = 0
class_number Application = 1
class_number Context = 2
class_number Private = 3

form_number : Bool → ℕ
form_number true = 1
form_number false = 0

bits_are : (c : Class) (b : Bool) → (class_bits c + form_bit b ≡ 64 * class_number c + 32 * form_number b) × (class_number c < 4) × (form_number b < 2)
unfolding class_number form_number
bits_are Universal true = (refl, omega arith, omega arith)
bits_are Universal false = (refl, omega arith, omega arith)
bits_are Application true = (refl, omega arith, omega arith)
bits_are Application false = (refl, omega arith, omega arith)
bits_are Context true = (refl, omega arith, omega arith)
bits_are Context false = (refl, omega arith, omega arith)
bits_are Private true = (refl, omega arith, omega arith)
bits_are Private false = (refl, omega arith, omega arith)

one_class : (c d : Class) → class_number c ≡ class_number d → c ≡ d
unfolding class_number
one_class Universal Universal e = refl
one_class Application Application e = refl
one_class Context Context e = refl
one_class Private Private e = refl
one_class Universal Application e = absurd (omega arith)
one_class Universal Context e = absurd (omega arith)
one_class Universal Private e = absurd (omega arith)
one_class Application Universal e = absurd (omega arith)
one_class Application Context e = absurd (omega arith)
one_class Application Private e = absurd (omega arith)
one_class Context Universal e = absurd (omega arith)
one_class Context Application e = absurd (omega arith)
one_class Context Private e = absurd (omega arith)
one_class Private Universal e = absurd (omega arith)
one_class Private Application e = absurd (omega arith)
one_class Private Context e = absurd (omega arith)

one_form : (b c : Bool) → form_number b ≡ form_number c → b ≡ c
unfolding form_number
one_form true true e = refl
one_form false false e = refl
one_form true false e = absurd (omega arith)
one_form false true e = absurd (omega arith)

pub bits_tell : (b c : Bool) (s t : Class) (j k : ℕ) → j ≤ 31 → k ≤ 31 → class_bits s + form_bit b + j ≡ class_bits t + form_bit c + k → (b ≡ c) × (s ≡ t) × (j ≡ k)
bits_tell b c s t j k h l e =
    let p = bits_are s b in
    let q = bits_are t c in
    let p0 = p.0 in let p1 = p.1 in let p2 = p.2 in
    let q0 = q.0 in let q1 = q.1 in let q2 = q.2 in
    let classes : class_number s ≡ class_number t = omega arith in
    let forms : form_number b ≡ form_number c = omega arith in
    (one_form b c forms, one_class s t classes, omega arith)

pub short_tag : (b : Bool) (t : Tag) → nat_lt t.number 31 ≡ true → identifier b t ≡ (class_bits t.class + form_bit b + t.number) ∷ []
unfolding identifier
short_tag b t h = rw h refl

pub long_tag : (b : Bool) (t : Tag) → nat_lt t.number 31 ≡ false → identifier b t ≡ (class_bits t.class + form_bit b + 31) ∷ with_high_bits (digits_of 128 t.number)
unfolding identifier
long_tag b t h = rw h refl

tags_same : (t u : Tag) → t.class ≡ u.class → t.number ≡ u.number → t ≡ u
tags_same t u c n = ap (λ k. record { class = k; number = t.number }) c ∙ ap (λ m. record { class = u.class; number = m }) n

pub identifier_end : (b c : Bool) (t u : Tag) (x y : List ℕ) → identifier b t ++ x ≡ identifier c u ++ y → (b ≡ c) × (t ≡ u) × (x ≡ y)
identifier_end b c t u x y e = go (leb_tells (suc t.number) 31) (leb_tells (suc u.number) 31)
  where
    go : Tells t.number 31 → Tells u.number 31 → (b ≡ c) × (t ≡ u) × (x ≡ y)
    go (inl p) (inl q) =
        let h = heads_apart _ _ [] [] x y (rw (short_tag b t p.0, short_tag c u q.0) at e) in
        let r = bits_tell b c t.class u.class t.number u.number (omega arith) (omega arith) h.0 in
        (r.0, tags_same t u r.1 r.2, h.1)
    go (inl p) (inr q) =
        let h = heads_apart _ _ [] (with_high_bits (digits_of 128 u.number)) x y (rw (short_tag b t p.0, long_tag c u q.0) at e) in
        let r = bits_tell b c t.class u.class t.number 31 (omega arith) (omega arith) h.0 in
        absurd (omega (arith, r.2))
    go (inr p) (inl q) =
        let h = heads_apart _ _ (with_high_bits (digits_of 128 t.number)) [] x y (rw (long_tag b t p.0, short_tag c u q.0) at e) in
        let r = bits_tell b c t.class u.class 31 u.number (omega arith) (omega arith) h.0 in
        absurd (omega (arith, r.2))
    go (inr p) (inr q) =
        let h = heads_apart _ _ (with_high_bits (digits_of 128 t.number)) (with_high_bits (digits_of 128 u.number)) x y (rw (long_tag b t p.0, long_tag c u q.0) at e) in
        let r = bits_tell b c t.class u.class 31 31 (omega arith) (omega arith) h.0 in
        let d = high_bits_end (digits_of 128 t.number) (digits_of 128 u.number) x y (all_below_base_digits_of 128 t.number (omega arith)) (all_below_base_digits_of 128 u.number (omega arith)) (some-digits_of 128 t.number (omega arith) (omega arith)) (some-digits_of 128 u.number (omega arith) (omega arith)) h.1 in
        (r.0, tags_same t u r.1 (same_from_digits_of 128 t.number u.number (omega arith) d.0), d.1)

pub regrouped : {A : Type 0} (a b c x : List A) → (a ++ (b ++ c)) ++ x ≡ a ++ (b ++ (c ++ x))
regrouped a b c x = append_assoc a (b ++ c) x ∙ ap (λ z. a ++ z) (append_assoc b c x)

pub wrapped_nested : (head contents x : List ℕ) → wrapped head contents ++ x ≡ head ++ (length_octets (length contents) ++ (contents ++ x))
unfolding wrapped
wrapped_nested head contents x = regrouped head (length_octets (length contents)) contents x

-- two values: their forms, tags and contents are the same, and what follows them
pub wrapped_end : (b c : Bool) (t u : Tag) (v w x y : List ℕ) → wrapped (identifier b t) v ++ x ≡ wrapped (identifier c u) w ++ y → (b ≡ c) × (t ≡ u) × (v ≡ w) × (x ≡ y)
wrapped_end b c t u v w x y e =
    let nested : identifier b t ++ (length_octets (length v) ++ (v ++ x)) ≡ identifier c u ++ (length_octets (length w) ++ (w ++ y)) = sym (wrapped_nested (identifier b t) v x) ∙ (e ∙ wrapped_nested (identifier c u) w y) in
    let h = identifier_end b c t u _ _ nested in
    let l = length_octets_end (length v) (length w) (v ++ x) (w ++ y) h.2 in
    let s = same_front v w x y l.0 l.1 in
    (h.0, h.1, s.0, s.1)

pub wrapped_some : (b : Bool) (t : Tag) (v x : List ℕ) → wrapped (identifier b t) v ++ x ≡ [] → ⊥
unfolding wrapped
wrapped_some b t v x e = go (leb_tells (suc t.number) 31)
  where
    head_some : (p : ℕ) (ps tag : List ℕ) → tag ≡ p ∷ ps → (tag ++ (length_octets (length v) ++ v)) ++ x ≡ [] → ⊥
    head_some p ps tag t e = (let h : ((p ∷ ps) ++ (length_octets (length v) ++ v)) ++ x ≡ [] = rw t at e in absurd cc)

    go : Tells t.number 31 → ⊥
    go (inl p) = head_some _ _ (identifier b t) (short_tag b t p.0) e
    go (inr p) = head_some _ _ (identifier b t) (long_tag b t p.0) e

pub some_identifier : (b : Bool) (t : Tag) → 0 < length (identifier b t)
some_identifier b t = go (leb_tells (suc t.number) 31)
  where
    go : Tells t.number 31 → 0 < length (identifier b t)
    go (inl p) = rw (short_tag b t p.0) (omega arith)
    go (inr p) = rw (long_tag b t p.0) (omega arith)
