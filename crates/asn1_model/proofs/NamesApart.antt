-- Names that are given one after the other are apart.
use Rattle.std.proofs.Common.{◌≡◌, ◌≢◌, ◌⊎◌, inl, inr, ℕ, zero, suc, ◌+◌, ◌<◌, ◌≤◌, ◌^◌, Bool, true, false, ◌||◌, List, [], ◌∷◌, ◌++◌, length, get_or, Some, refl, sym, ap, subst, ◌∙◌, arith, eqb}
use Rattle.std.specs.Prelude.{if◌then◌else◌, slice_get}
use Rattle.std.specs.Fmt.{decimal}
use Rattle.std.specs.Str.{bytes_eq}
use Rattle.std.proofs.lemmas.Fmt.{decimal_injective}
use Rattle.std.proofs.lemmas.Bool.{or_parts}
use Rattle.std.proofs.lemmas.Bool.Decides.{eqb_tells}
use Rattle.std.proofs.lemmas.Option.{slice_get_within, slice_get-get_or}
use Rattle.lexical_core.proofs.EqualBytes.{equal_bytes, bytes_equal}
use Rattle.asn1_model.specs.Names.{is_name_among, candidate, first_free, given_after, given_names, hyphen}
use Rattle.asn1_model.specs.NameRules.{AreDistinct}

-- ---- tests

either : (a b : Bool) → (a || b) ≡ true → (a ≡ true) ⊎ ((a ≡ false) × (b ≡ true))
either true b e = inl refl
either false b e = inr (refl, e)

-- ---- one more name than were given

-- a list without the first of these
without : List ℕ → List (List ℕ) → List (List ℕ)
without name [] = []
without name (n ∷ ns) = if bytes_eq name n then ns else n ∷ without name ns

without_length : (name : List ℕ) (ns : List (List ℕ)) → is_name_among ns name ≡ true → suc (length (without name ns)) ≡ length ns
unfolding without
without_length name [] e = absurd cc
without_length name (n ∷ ns) e = go (bytes_eq name n) refl (λ h. without_length name ns h)
  where
    go : (r : Bool) → bytes_eq name n ≡ r → (is_name_among ns name ≡ true → suc (length (without name ns)) ≡ length ns) → suc (length (without name (n ∷ ns))) ≡ suc (length ns)
    go true h more = rw h refl
    go false h more = rw h (ap suc (more (let x : (bytes_eq name n || is_name_among ns name) ≡ true = e in rw h at x)))

without_among : (name other : List ℕ) (ns : List (List ℕ)) → other ≢ name → is_name_among ns other ≡ true → is_name_among (without name ns) other ≡ true
unfolding without
without_among name other [] apart e = e
without_among name other (n ∷ ns) apart e = go (bytes_eq name n) refl (bytes_eq other n) refl (λ h. without_among name other ns apart h)
  where
    go : (r : Bool) → bytes_eq name n ≡ r → (q : Bool) → bytes_eq other n ≡ q → (is_name_among ns other ≡ true → is_name_among (without name ns) other ≡ true) → is_name_among (without name (n ∷ ns)) other ≡ true
    go true h true g more = absurd (apart (equal_bytes other n g ∙ sym (equal_bytes name n h)))
    go true h false g more = rw h (let x : (bytes_eq other n || is_name_among ns other) ≡ true = e in rw g at x)
    go false h true g more = rw (h, g) refl
    go false h false g more = rw (h, g) (more (let x : (bytes_eq other n || is_name_among ns other) ≡ true = e in rw g at x))

longer : (name more : List ℕ) → name ≡ name ++ (hyphen ∷ more) → ⊥
longer [] more e = absurd cc
longer (c ∷ name) more e = longer name more cc

cut : (name a b : List ℕ) → name ++ a ≡ name ++ b → a ≡ b
cut [] a b e = e
cut (c ∷ name) a b e = cut name a b cc

candidates_apart : (name : List ℕ) (i j : ℕ) → i < 2 ^ 64 → j < 2 ^ 64 → candidate name i ≡ candidate name j → i ≡ j
unfolding candidate
candidates_apart name zero zero p q e = refl
candidates_apart name zero (suc j) p q e = absurd (longer name (decimal (suc j)) e)
candidates_apart name (suc i) zero p q e = absurd (longer name (decimal (suc i)) (sym e))
candidates_apart name (suc i) (suc j) p q e = decimal_injective (suc i) (suc j) p q (tail_same (cut name (hyphen ∷ decimal (suc i)) (hyphen ∷ decimal (suc j)) e))
  where
    tail_same : hyphen ∷ decimal (suc i) ≡ hyphen ∷ decimal (suc j) → decimal (suc i) ≡ decimal (suc j)
    tail_same e = cc

-- so many candidates and one more are not all among fewer names
many : (name : List ℕ) (f k : ℕ) (ns : List (List ℕ)) → k + f < 2 ^ 64 → ((j : ℕ) → k ≤ j → j ≤ k + f → is_name_among ns (candidate name j) ≡ true) → f < length ns
many name zero k ns small all = (let e = without_length (candidate name k) ns (all k (omega arith) (omega arith)) in omega arith)
many name (suc f) k ns small all =
    let e = without_length (candidate name (k + suc f)) ns (all (k + suc f) (omega arith) (omega arith)) in
    let fewer = many name f k (without (candidate name (k + suc f)) ns) (omega arith)
    (λ j low high. without_among (candidate name (k + suc f)) (candidate name j) ns
    (λ same. let is : j ≡ k + suc f = candidates_apart name j (k + suc f) (omega arith) (omega arith) same in omega arith)
    (all j low (omega arith))) in
    omega arith

-- what is found is free, or all that were tried were given
free_or_all : (name : List ℕ) (f k : ℕ) (taken : List (List ℕ)) → (is_name_among taken (first_free f taken name k) ≡ false) ⊎ ((j : ℕ) → k ≤ j → j ≤ k + f → is_name_among taken (candidate name j) ≡ true)
free_or_all name zero k taken = go (is_name_among taken (candidate name k)) refl
  where
    go : (r : Bool) → is_name_among taken (candidate name k) ≡ r → (is_name_among taken (candidate name k) ≡ false) ⊎ ((j : ℕ) → k ≤ j → j ≤ k + zero → is_name_among taken (candidate name j) ≡ true)
    go true e = inr (λ j low high. let same : j ≡ k = omega arith in subst (λ (x : ℕ). is_name_among taken (candidate name x) ≡ true) (sym same) e)
    go false e = inl e
free_or_all name (suc f) k taken = go (is_name_among taken (candidate name k)) refl (free_or_all name f (suc k) taken)
  where
    go : (r : Bool) → is_name_among taken (candidate name k) ≡ r → (is_name_among taken (first_free f taken name (suc k)) ≡ false) ⊎ ((j : ℕ) → suc k ≤ j → j ≤ suc k + f → is_name_among taken (candidate name j) ≡ true)
        → (is_name_among taken (first_free (suc f) taken name k) ≡ false) ⊎ ((j : ℕ) → k ≤ j → j ≤ k + suc f → is_name_among taken (candidate name j) ≡ true)
    go false e rest = inl (rw e e)
    go true e (inl free) = inl (rw e free)
    go true e (inr all) = inr (λ j low high. first j low high)
      where
        first : (j : ℕ) → k ≤ j → j ≤ k + suc f → is_name_among taken (candidate name j) ≡ true
        first j low high = by_place (eqb_tells j k)
          where
            by_place : ((eqb j k ≡ true) × (j ≡ k)) ⊎ ((eqb j k ≡ false) × (j ≢ k)) → is_name_among taken (candidate name j) ≡ true
            by_place (inl (t, same)) = subst (λ (x : ℕ). is_name_among taken (candidate name x) ≡ true) (sym same) e
            by_place (inr (f, other)) = all j (omega (arith, other)) (omega arith)

pub given_is_new : (name : List ℕ) (taken : List (List ℕ)) → length taken < 2 ^ 64 → is_name_among taken (first_free (length taken) taken name 0) ≡ false
given_is_new name taken small = go (free_or_all name (length taken) 0 taken)
  where
    go : (is_name_among taken (first_free (length taken) taken name 0) ≡ false) ⊎ ((j : ℕ) → 0 ≤ j → j ≤ 0 + length taken → is_name_among taken (candidate name j) ≡ true) → is_name_among taken (first_free (length taken) taken name 0) ≡ false
    go (inl free) = free
    go (inr all) = absurd (let n = many name (length taken) 0 taken (omega arith) all in omega arith)

-- each name is none of those before it
abbrev pub AreNew : List (List ℕ) → List (List ℕ) → Type 0
AreNew taken [] = Unit {0}
AreNew taken (n ∷ ns) = (is_name_among taken n ≡ false) × AreNew (n ∷ taken) ns

pub given_are_new : (taken ns : List (List ℕ)) → length taken + length ns < 2 ^ 64 → AreNew taken (given_after taken ns)
given_are_new taken [] small = tt
given_are_new taken (n ∷ ns) small = (given_is_new n taken (omega arith), given_are_new (first_free (length taken) taken n 0 ∷ taken) ns (omega arith))

-- what is given later is none of what was given
pub later_new : (taken ns : List (List ℕ)) (k : ℕ) → AreNew taken ns → k < length ns → is_name_among taken (get_or ns k []) ≡ false
later_new taken [] k new lt = absurd (omega arith)
later_new taken (n ∷ ns) zero new lt = new.0
later_new taken (n ∷ ns) (suc k) new lt = (or_parts (bytes_eq (get_or ns k []) n) (is_name_among taken (get_or ns k [])) (later_new (n ∷ taken) ns k new.1 (omega arith))).1

-- ---- new names are distinct

-- the first of them stands at no later place
none_later : (taken ns : List (List ℕ)) (m n : List ℕ) (k : ℕ) → AreNew (m ∷ taken) ns → m ≡ n → slice_get ns k ≡ Some n → ⊥
none_later taken ns m n k new same e =
    let within : k < length ns = slice_get_within ns k n e in
    let there : Some (get_or ns k []) ≡ Some n = sym (slice_get-get_or ns k [] within) ∙ e in
    let is : get_or ns k [] ≡ m = (let here : get_or ns k [] ≡ n = cc in here ∙ sym same) in
    let other : bytes_eq (get_or ns k []) m ≡ false = (or_parts (bytes_eq (get_or ns k []) m) (is_name_among taken (get_or ns k [])) (later_new (m ∷ taken) ns k new within)).0 in
    let x : false ≡ true = sym other ∙ bytes_equal (get_or ns k []) m is in absurd cc

pub new_distinct : (taken ns : List (List ℕ)) → AreNew taken ns → AreDistinct ns
new_distinct taken [] new i j n e f = absurd cc
new_distinct taken (m ∷ ns) new zero zero n e f = refl
new_distinct taken (m ∷ ns) new zero (suc j) n e f = absurd (none_later taken ns m n j new.1 (let same : m ≡ n = cc in same) f)
new_distinct taken (m ∷ ns) new (suc i) zero n e f = absurd (none_later taken ns m n i new.1 (let same : m ≡ n = cc in same) e)
new_distinct taken (m ∷ ns) new (suc i) (suc j) n e f = ap suc (new_distinct (m ∷ taken) ns new.1 i j n e f)

pub given_distinct : (names : List (List ℕ)) → length names < 2 ^ 64 → AreDistinct (given_names names)
given_distinct names few = new_distinct [] (given_names names) (given_are_new [] names (omega arith))
