-- One more attribute, and what is still to be declared.
use Rattle.std.proofs.Common.{◌≡◌, ℕ, ◌+◌, inl, inr, Bool, true, false, List, [], ◌∷◌, ◌++◌, refl, sym, ap, ap₂, subst, ◌∙◌, append_assoc, if◌then◌else◌}
use Rattle.std.specs.List.{flat_map}
use Rattle.std.specs.Str.{bytes_eq}
use Rattle.std.proofs.lemmas.Bool.{cases_Bool, true≢false}
use Rattle.lexical_core.specs.Tree.{Entry}
use Rattle.lexical_core.specs.Names.{xmlns}
use Rattle.lexical_core.proofs.EqualBytes.{equal_bytes, bytes_equal, other_bytes}
use Rattle.fragments.specs.Fragment.{Written, written_text, needs_none, before_others, namespaces_of, numbered_declarations, prefix_of}
use Rattle.respell.specs.inner.Declaring.{without, is_new}

-- a namespace before others, without it
without_before : (n : List ℕ) (xs : List (List ℕ)) → without n (before_others n xs) ≡ without n xs
without_before n [] = rw (bytes_equal n n refl) refl
without_before n (x ∷ xs) = elim (cases_Bool (bytes_eq n x)) as (λ _. without n (before_others n (x ∷ xs)) ≡ without n (x ∷ xs)) [
  | inl t ↦ rw t (ap (λ (b : Bool). if b then xs else x ∷ xs) t)
  | inr f ↦ rw (f, bytes_equal n n refl) refl
]

-- before others it stands first, and without it they are left
before_new : (n : List ℕ) (xs : List (List ℕ)) → before_others n xs ≡ n ∷ without n xs
before_new n [] = refl
before_new n (x ∷ xs) = elim (cases_Bool (bytes_eq n x)) as (λ _. before_others n (x ∷ xs) ≡ n ∷ without n (x ∷ xs)) [
  | inl t ↦ rw t (ap (λ (y : List ℕ). y ∷ xs) (sym (equal_bytes n x t)))
  | inr f ↦ rw f refl
]

new_parts : (last n : List ℕ) → is_new last n ≡ true → (needs_none n ≡ false) × (bytes_eq n last ≡ false)
new_parts last n h = elim (cases_Bool (needs_none n)) as (λ _. (needs_none n ≡ false) × (bytes_eq n last ≡ false)) [
  | inl t ↦ absurd (true≢false (sym h ∙ rw t refl))
  | inr f ↦ elim (cases_Bool (bytes_eq n last)) as (λ _. (needs_none n ≡ false) × (bytes_eq n last ≡ false)) [ inl t ↦ absurd (true≢false (sym h ∙ rw (f, t) refl)) | inr g ↦ (f, g) ]
]

pub without_new : (last : List ℕ) (e : Entry) (es : List Entry) → is_new last e.name.namespace ≡ true → without last (namespaces_of (e ∷ es)) ≡ e.name.namespace ∷ without e.name.namespace (namespaces_of es)
without_new last e es h =
    let p = new_parts last e.name.namespace h in
    let other : bytes_eq last e.name.namespace ≡ false = other_bytes last e.name.namespace (λ q. true≢false (sym (bytes_equal _ _ (sym q)) ∙ p.1)) in
    let all : namespaces_of (e ∷ es) ≡ e.name.namespace ∷ without e.name.namespace (namespaces_of es) = rw p.0 (before_new e.name.namespace (namespaces_of es)) in
    ap (without last) all ∙ rw other refl

pub without_old : (last : List ℕ) (e : Entry) (es : List Entry) → is_new last e.name.namespace ≡ false → without last (namespaces_of (e ∷ es)) ≡ without last (namespaces_of es)
without_old last e es h = elim (cases_Bool (needs_none e.name.namespace)) as (λ _. without last (namespaces_of (e ∷ es)) ≡ without last (namespaces_of es)) [
  | inl t ↦ rw t refl
  | inr f ↦ elim (cases_Bool (bytes_eq e.name.namespace last)) as (λ _. without last (namespaces_of (e ∷ es)) ≡ without last (namespaces_of es)) [
    | inl t ↦ (let all : namespaces_of (e ∷ es) ≡ before_others last (namespaces_of es) = rw f (ap (λ (n : List ℕ). before_others n (namespaces_of es)) (equal_bytes _ _ t)) in ap (without last) all ∙ without_before last (namespaces_of es))
    | inr g ↦ absurd (true≢false (sym (rw (f, g) refl) ∙ h))
  ]
]

first_needed : (n : List ℕ) (xs : List (List ℕ)) → needs_none n ≡ false → without [] xs ≡ xs → without [] (before_others n xs) ≡ before_others n xs
first_needed n [] f h = none n f
  where
    none : (n : List ℕ) → needs_none n ≡ false → without [] (n ∷ []) ≡ n ∷ []
    none [] f = absurd (true≢false f)
    none (c ∷ n) f = refl
first_needed n (x ∷ xs) f h = elim (cases_Bool (bytes_eq n x)) as (λ _. without [] (before_others n (x ∷ xs)) ≡ before_others n (x ∷ xs)) [
  | inl t ↦ rw t h
  | inr g ↦ rw g (none n f)
]
  where
    none : (n : List ℕ) → needs_none n ≡ false → without [] (n ∷ x ∷ xs) ≡ n ∷ x ∷ xs
    none [] f = absurd (true≢false f)
    none (c ∷ n) f = refl

-- at the start nothing is declared
pub without_none : (es : List Entry) → without [] (namespaces_of es) ≡ namespaces_of es
without_none [] = refl
without_none (e ∷ es) = elim (cases_Bool (needs_none e.name.namespace)) as (λ _. without [] (namespaces_of (e ∷ es)) ≡ namespaces_of (e ∷ es)) [
  | inl t ↦ rw t (without_none es)
  | inr f ↦ rw f (first_needed e.name.namespace (namespaces_of es) f (without_none es))
]

-- one more declaration, and those behind it
pub declared_step : (old new whole : List ℕ) (number : ℕ) (last n : List ℕ) (e : Entry) (es left : List Entry) → left ≡ e ∷ es → n ≡ e.name.namespace → is_new last n ≡ true
    → new ≡ old ++ written_text (record { name = record { prefix = xmlns; local = prefix_of (number + 1) }; value = n })
    → old ++ flat_map written_text (numbered_declarations (number + 1) (without last (namespaces_of left))) ≡ whole
    → new ++ flat_map written_text (numbered_declarations (number + 1 + 1) (without n (namespaces_of es))) ≡ whole
declared_step old new whole number last n e es left split named fresh pushed before =
    let w : Written = record { name = record { prefix = xmlns; local = prefix_of (number + 1) }; value = e.name.namespace } in
    let fresh' : is_new last e.name.namespace ≡ true = subst (λ (m : List ℕ). is_new last m ≡ true) named fresh in
    let rest = flat_map written_text (numbered_declarations (number + 1 + 1) (without e.name.namespace (namespaces_of es))) in
    let all : flat_map written_text (numbered_declarations (number + 1) (without last (namespaces_of left))) ≡ written_text w ++ rest =
    ap (λ (l : List Entry). flat_map written_text (numbered_declarations (number + 1) (without last (namespaces_of l)))) split ∙ ap (λ (l : List (List ℕ)). flat_map written_text (numbered_declarations (number + 1) l)) (without_new last e es fresh') in
    ap₂ (λ (x y : List ℕ). x ++ flat_map written_text (numbered_declarations (number + 1 + 1) (without y (namespaces_of es)))) (pushed ∙ ap (λ (m : List ℕ). old ++ written_text (record { name = record { prefix = xmlns; local = prefix_of (number + 1) }; value = m })) named) named
    ∙ (append_assoc old (written_text w) rest ∙ (ap (λ (l : List ℕ). old ++ l) (sym all) ∙ before))
