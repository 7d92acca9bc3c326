-- The tags of a list of elements, one after the other.
use Rattle.std.proofs.Common.{◌≡◌, ℕ, zero, suc, ◌+◌, ◌<◌, Bool, true, false, ◌||◌, List, [], ◌∷◌, ◌++◌, length, map, take, get_or, Some, refl, sym, ap, subst, ◌∙◌, arith, ◌⊎◌, inl, inr, Bor}
use Rattle.std.specs.Prelude.{slice_get, not, if◌then◌else◌}
use Rattle.std.specs.List.{list_any}
use Rattle.std.specs.Str.{bytes_eq}
use Rattle.std.proofs.lemmas.Slice.Eq.{bytes_eq-Decides}
use Rattle.std.proofs.lemmas.Bool.{cases_lt}
use Rattle.std.proofs.lemmas.List.{map_more, map-append}
use Rattle.std.proofs.lemmas.Option.{slice_get-get_or, get_or_from_slice_get}
use Rattle.repo_objects.specs.declared.objects.ElementDef.{ElementDef}
use Rattle.reference_check.specs.inner.Subjects.{HasTagTwice}
use Rattle.reference_check.proofs.Lookups.{none_there}

abbrev pub tag_of : ElementDef → List ℕ
tag_of e = e.tag

-- the tags of the first elements, which are distinct
abbrev pub AreTags : List ElementDef → ℕ → List (List ℕ) → Type 0
AreTags es n tags = (tags ≡ map (λ (e : ElementDef). e.tag) (take n es)) × (HasTagTwice (take n es) → ⊥)

-- an element whose tag is among those before it
some_of : (tag : List ℕ) (es : List ElementDef) → list_any (bytes_eq tag) (map tag_of es) ≡ true → (k : ℕ) × (e : ElementDef) × (slice_get es k ≡ Some e) × (e.tag ≡ tag)
some_of tag [] h = cc
some_of tag (x ∷ es) h = by (bytes_eq tag x.tag) refl (some_of tag es)
  where
    by : (b : Bool) → bytes_eq tag x.tag ≡ b → (list_any (bytes_eq tag) (map tag_of es) ≡ true → (k : ℕ) × (e : ElementDef) × (slice_get es k ≡ Some e) × (e.tag ≡ tag))
        → (k : ℕ) × (e : ElementDef) × (slice_get (x ∷ es) k ≡ Some e) × (e.tag ≡ tag)
    by true is later = (0, x, refl, sym ((bytes_eq-Decides tag x.tag).0 is))
    by false is later =
        let r : (k : ℕ) × (e : ElementDef) × (slice_get es k ≡ Some e) × (e.tag ≡ tag) = later (rw is at h) in
        (suc r.0, r.1, r.2, r.3)

among : (tag : List ℕ) (es : List ElementDef) (k : ℕ) (e : ElementDef) → slice_get es k ≡ Some e → e.tag ≡ tag → list_any (bytes_eq tag) (map tag_of es) ≡ true
among tag [] k e at same = absurd (none_there k at)
among tag (x ∷ es) zero e at same =
    let this : x ≡ e = cc in
    let yes_ : bytes_eq tag x.tag ≡ true = (bytes_eq-Decides tag x.tag).1 (sym (ap tag_of this ∙ same)) in
    rw yes_ refl
among tag (x ∷ es) (suc k) e at same = by (bytes_eq tag x.tag) (among tag es k e at same)
  where
    by : (b : Bool) → list_any (bytes_eq tag) (map tag_of es) ≡ true → (b || list_any (bytes_eq tag) (map tag_of es)) ≡ true
    by true h = refl
    by false h = h

-- what stands in the front stands in the whole
in_front : {A : Type 0} (xs : List A) (n k : ℕ) (x : A) → slice_get (take n xs) k ≡ Some x → slice_get xs k ≡ Some x
in_front [] zero k x at = at
in_front [] (suc n) k x at = at
in_front (y ∷ xs) zero k x at = absurd (none_there k at)
in_front (y ∷ xs) (suc n) zero x at = at
in_front (y ∷ xs) (suc n) (suc k) x at = in_front xs n k x at

front_within : {A : Type 0} (xs : List A) (n k : ℕ) (x : A) → slice_get (take n xs) k ≡ Some x → k < n
front_within [] zero k x at = absurd (none_there k at)
front_within [] (suc n) k x at = absurd (none_there k at)
front_within (y ∷ xs) zero k x at = absurd (none_there k at)
front_within (y ∷ xs) (suc n) zero x at = omega arith
front_within (y ∷ xs) (suc n) (suc k) x at = (let h : k < n = front_within xs n k x at in omega arith)

of_front : {A : Type 0} (xs : List A) (n k : ℕ) (x : A) → k < n → slice_get xs k ≡ Some x → slice_get (take n xs) k ≡ Some x
of_front [] n k x l at = absurd (none_there k at)
of_front (y ∷ xs) zero k x l at = absurd (omega arith)
of_front (y ∷ xs) (suc n) zero x l at = at
of_front (y ∷ xs) (suc n) (suc k) x l at = of_front xs n k x (omega arith) at

-- the tag of the next element is among those before it
pub twice : (es : List ElementDef) (n : ℕ) (tags : List (List ℕ)) → AreTags es n tags → n < length es → (e : ElementDef) → get_or es n e ≡ e → list_any (bytes_eq e.tag) tags ≡ true → HasTagTwice es
twice es n tags (are, apart) l e at h =
    let r : (k : ℕ) × (a : ElementDef) × (slice_get (take n es) k ≡ Some a) × (a.tag ≡ e.tag) = some_of e.tag (take n es) (rw are at h) in
    (r.0, n, r.1, e, front_within es n r.0 r.1 r.2, in_front es n r.0 r.1 r.2, slice_get-get_or es n e l ∙ ap Some at, r.3)

-- or it is not, and they stay distinct
pub one_more : (es : List ElementDef) (n : ℕ) (tags more : List (List ℕ)) → AreTags es n tags → n < length es → (e : ElementDef) → get_or es n e ≡ e → list_any (bytes_eq e.tag) tags ≡ false
    → more ≡ tags ++ e.tag ∷ [] → AreTags es (n + 1) more
one_more es n tags more (are, apart) l e at none is = (is ∙ ap (λ (ts : List (List ℕ)). ts ++ e.tag ∷ []) are ∙ ap (λ (x : ElementDef). map tag_of (take n es) ++ x.tag ∷ []) (sym at) ∙ sym (map_more tag_of es n e l), still)
  where
    other : (k : ℕ) (a : ElementDef) → k < n → slice_get es k ≡ Some a → a.tag ≡ e.tag → ⊥
    other k a before there same =
        let h : list_any (bytes_eq e.tag) (map tag_of (take n es)) ≡ true = among e.tag (take n es) k a (of_front es n k a before there) same in
        let g : list_any (bytes_eq e.tag) (map tag_of (take n es)) ≡ false = rw are at none in
        cc

    by : (i j : ℕ) (a b : ElementDef) → i < j → slice_get es i ≡ Some a → slice_get es j ≡ Some b → a.tag ≡ b.tag → (j < n) ⊎ (j ≡ n) → ⊥
    by i j a b before at_i at_j same (inl h) = apart (i, j, a, b, before, of_front es n i a (omega arith) at_i, of_front es n j b h at_j, same)
    by i j a b before at_i at_j same (inr h) =
        let here : b ≡ e = sym (get_or_from_slice_get es n b e (subst (λ k. slice_get es k ≡ Some b) h at_j)) ∙ at in
        other i a (omega arith) at_i (same ∙ ap tag_of here)

    still : HasTagTwice (take (n + 1) es) → ⊥
    still (i, j, a, b, before, at_i, at_j, same) =
        let within : j < n + 1 = front_within es (n + 1) j b at_j in
        by i j a b before (in_front es (n + 1) i a at_i) (in_front es (n + 1) j b at_j) same (last j within)
      where
        last : (j : ℕ) → j < n + 1 → (j < n) ⊎ (j ≡ n)
        last j h = (elim (cases_lt j n) [ inl l ↦ inl l | inr m ↦ inr (omega arith) ])

-- ---- what an insertion into the set of tags answers

pub was_among : (new found : Bool) → new ≡ not found → new ≡ false → found ≡ true
was_among new true e f = refl
was_among new false e f = cc

pub was_new : (new found : Bool) → new ≡ not found → new ≡ true → found ≡ false
was_new new true e f = cc
was_new new false e f = refl

any_now : (tag : List ℕ) (keys : List (Bor (List ℕ))) → list_any (λ (y : Bor (List ℕ)). bytes_eq tag y.now) keys ≡ list_any (bytes_eq tag) (map (λ (y : Bor (List ℕ)). y.now) keys)
any_now tag [] = refl
any_now tag (x ∷ keys) = ap (λ b. bytes_eq tag x.now || b) (any_now tag keys)

pub among_kept : (b : Bool) (tag other : List ℕ) (keys : List (Bor (List ℕ))) → tag ≡ other → list_any (λ (y : Bor (List ℕ)). bytes_eq tag y.now) keys ≡ b
    → list_any (bytes_eq other) (map (λ (y : Bor (List ℕ)). y.now) keys) ≡ b
among_kept b tag other keys same h = subst (λ t. list_any (bytes_eq t) (map (λ (y : Bor (List ℕ)). y.now) keys) ≡ b) same (sym (any_now tag keys) ∙ h)

pub added_last : (key : Bor (List ℕ)) (other : List ℕ) (keys more : List (Bor (List ℕ))) → key.now ≡ other
    → more ≡ (if list_any (λ (y : Bor (List ℕ)). bytes_eq key.now y.now) keys then keys else (keys ++ key ∷ [])) → list_any (λ (y : Bor (List ℕ)). bytes_eq key.now y.now) keys ≡ false
    → map (λ (y : Bor (List ℕ)). y.now) more ≡ map (λ (y : Bor (List ℕ)). y.now) keys ++ other ∷ []
added_last key other keys more same is none =
    ap (map (λ (y : Bor (List ℕ)). y.now)) (is ∙ ap (λ b. if b then keys else (keys ++ key ∷ [])) none)
    ∙ map-append (λ (y : Bor (List ℕ)). y.now) keys (key ∷ []) ∙ ap (λ (t : List ℕ). map (λ (y : Bor (List ℕ)). y.now) keys ++ t ∷ []) same
