-- `Document` keeps its name: no type before it in the order is named so.
use Rattle.std.proofs.Common.{◌≡◌, ◌≢◌, ◌⊎◌, inl, inr, ℕ, zero, suc, ◌-◌, ◌<◌, Bool, true, false, not, ◌||◌, List, [], ◌∷◌, ◌++◌, map, length, refl, sym, ap, subst, ◌∙◌, arith, eqb, codes}
use Rattle.std.specs.Prelude.{if◌then◌else◌}
use Rattle.std.specs.Fmt.{decimal}
use Rattle.std.specs.Str.{bytes_eq}
use Rattle.std.specs.List.{list_any}
use Rattle.std.specs.Cmp.{nat_cmp_is}
use Rattle.std.specs.Cmp.Lexicographic.{slice_cmp}
use Rattle.std.specs.Ordering.{nat_cmp, is_lt, ordering_then}
use Rattle.std.specs.declared.cmp.Ordering.TheVariants.{Equal, Greater}
use Rattle.std.proofs.lemmas.Bool.Decides.{eqb_tells}
use Rattle.lexical_core.proofs.EqualBytes.{equal_bytes}
use Rattle.lexical_core.proofs.Lists.{same_parts}
use Rattle.message_model.specs.Tables.{Tables, TypeEntry}
use Rattle.asn1_model.specs.Names.{is_name_among, is_name_digit, is_lower, is_in_name, hyphen, with_hyphens, without_gap, begun_with_letter, bare_name, to_upper, first_upper, reserved_names, asn_type_name, candidate, first_free, given_after}
use Rattle.asn1_model.specs.ModuleOf.{Numbered, comes_before, insert_numbered, sorted_from, type_name_of, name_in, asn_name_of}
use Rattle.asn1_model.specs.Sound.{BeginsName, AllBegin}
use Rattle.asn1_model.proofs.GivenLemmas.{taken_free}

-- ---- texts without a hyphen

abbrev IsBare : List ℕ → Type 0
IsBare [] = Unit {0}
IsBare (c ∷ cs) = (c ≢ hyphen) × IsBare cs

bare_append : (name more : List ℕ) → IsBare (name ++ hyphen ∷ more) → ⊥
bare_append [] more (other, rest) = other refl
bare_append (c ∷ cs) more (other, rest) = bare_append cs more rest

-- what reads as a bare text behind gaps is not before it
not_before : (text w : List ℕ) → IsBare w → with_hyphens false text ≡ w → is_lt (slice_cmp nat_cmp text w) ≡ true → ⊥
not_before [] [] bare e lt = absurd cc
not_before [] (c ∷ w) bare e lt = absurd cc
not_before (b ∷ bs) w bare e lt = go (is_in_name b) refl w bare e lt (λ v. not_before bs v)
  where
    gapped : (bs w : List ℕ) → IsBare w → with_hyphens true bs ≡ w → w ≡ []
    gapped [] w bare e = sym e
    gapped (c ∷ cs) w bare e = by_test (is_in_name c) refl (gapped cs w bare)
      where
        head_hyphen : (cs w : List ℕ) → IsBare w → hyphen ∷ cs ≡ w → ⊥
        head_hyphen cs [] bare e = absurd cc
        head_hyphen cs (d ∷ w) (other, rest) e = other (let same : hyphen ≡ d = cc in sym same)

        by_test : (r : Bool) → is_in_name c ≡ r → (with_hyphens true cs ≡ w → w ≡ []) → w ≡ []
        by_test true h more = absurd (head_hyphen (c ∷ with_hyphens false cs) w bare (let x : with_hyphens true (c ∷ cs) ≡ w = e in rw h at x))
        by_test false h more = more (let x : with_hyphens true (c ∷ cs) ≡ w = e in rw h at x)

    go : (r : Bool) → is_in_name b ≡ r → (w : List ℕ) → IsBare w → with_hyphens false (b ∷ bs) ≡ w → is_lt (slice_cmp nat_cmp (b ∷ bs) w) ≡ true → ((v : List ℕ) → IsBare v → with_hyphens false bs ≡ v → is_lt (slice_cmp nat_cmp bs v) ≡ true → ⊥) → ⊥
    go r h [] bare e lt more = absurd cc
    go true h (c ∷ w) (other, bare) e lt more =
        let x : b ∷ with_hyphens false bs ≡ c ∷ w = (let y : with_hyphens false (b ∷ bs) ≡ c ∷ w = e in rw h at y) in
        let head : b ≡ c = cc in
        let tails : with_hyphens false bs ≡ w = cc in
        let equal : Equal ≡ nat_cmp b c = nat_cmp_is b c Equal head in
        more w bare tails (ap (λ o. is_lt (ordering_then o (slice_cmp nat_cmp bs w))) equal ∙ lt)
    go false h (c ∷ w) bare e lt more =
        let x : with_hyphens true bs ≡ c ∷ w = (let y : with_hyphens false (b ∷ bs) ≡ c ∷ w = e in rw h at y) in
        let none : c ∷ w ≡ [] = gapped bs (c ∷ w) bare x in absurd cc

-- ---- `Document`

bare_rest : IsBare (codes "ocument")
bare_rest = (λ e. absurd (omega (arith, e)), (λ e. absurd (omega (arith, e)), (λ e. absurd (omega (arith, e)), (λ e. absurd (omega (arith, e)), (λ e. absurd (omega (arith, e)), (λ e. absurd (omega (arith, e)), (λ e. absurd (omega (arith, e)), tt)))))))

bare_document : IsBare (codes "Document")
bare_document = (λ e. absurd (omega (arith, e)), bare_rest)

-- a letter that is D in upper case is D or d
upper_d : (c : ℕ) → to_upper c ≡ 68 → (c ≡ 68) ⊎ (c ≡ 100)
upper_d c e = go (is_lower c) refl
  where
    go : (b : Bool) → is_lower c ≡ b → (c ≡ 68) ⊎ (c ≡ 100)
    go true h = inr (let x : c - 32 ≡ 68 = rw h at e in omega (arith, x))
    go false h = inl (rw h at e)

later : (c : ℕ) (cs : List ℕ) → 68 < c → is_lt (slice_cmp nat_cmp (c ∷ cs) (codes "Document")) ≡ true → ⊥
later c cs more lt = (let greater : Greater ≡ nat_cmp c 68 = nat_cmp_is c 68 Greater more in let x : is_lt Greater ≡ true = ap (λ o. is_lt (ordering_then o (slice_cmp nat_cmp cs (codes "ocument")))) greater ∙ lt in absurd cc)

begun_is : (y : List ℕ) → first_upper (begun_with_letter y) ≡ codes "Document" → (c : ℕ) × (y ≡ c ∷ codes "ocument") × (to_upper c ≡ 68)
begun_is [] e = absurd (let x = (same_parts 88 68 [] (codes "ocument") e).0 in omega (arith, x))
begun_is (c ∷ cs) e = go (is_name_digit c) refl
  where
    go : (b : Bool) → is_name_digit c ≡ b → (d : ℕ) × (c ∷ cs ≡ d ∷ codes "ocument") × (to_upper d ≡ 68)
    go true h = absurd (let z : first_upper (codes "x" ++ c ∷ cs) ≡ codes "Document" = (let y : first_upper (begun_with_letter (c ∷ cs)) ≡ codes "Document" = e in rw h at y) in let x = (same_parts 88 68 (c ∷ cs) (codes "ocument") z).0 in omega (arith, x))
    go false h =
        let z : to_upper c ∷ cs ≡ codes "Document" = (let y : first_upper (begun_with_letter (c ∷ cs)) ≡ codes "Document" = e in rw h at y) in
        let parts = same_parts (to_upper c) 68 cs (codes "ocument") z in
        (c, ap (λ x. c ∷ x) parts.1, parts.0)

in_order : (a : ℕ) (more : List ℕ) → (is_in_name a ≡ true) ⊎ (a ≡ 95) → is_lt (slice_cmp nat_cmp (a ∷ more) (codes "Document")) ≡ true → (c : ℕ) × (with_hyphens false (without_gap (a ∷ more)) ≡ c ∷ codes "ocument") × (to_upper c ≡ 68) → ⊥
in_order a more (inr score) lt found = later a more (omega (arith, score)) lt
in_order a more (inl h) lt (c, e, upper) =
    let z : with_hyphens false (a ∷ more) ≡ c ∷ codes "ocument" = (let y : with_hyphens false (without_gap (a ∷ more)) ≡ c ∷ codes "ocument" = e in rw h at y) in
    let x : a ∷ with_hyphens false more ≡ c ∷ codes "ocument" = rw h at z in
    let parts = same_parts a c (with_hyphens false more) (codes "ocument") x in
    elim (upper_d c upper) [
      | inl d ↦ (let equal : Equal ≡ nat_cmp a 68 = nat_cmp_is a 68 Equal (parts.0 ∙ d) in
          not_before more (codes "ocument") bare_rest parts.1 (ap (λ o. is_lt (ordering_then o (slice_cmp nat_cmp more (codes "ocument")))) equal ∙ lt))
      | inr d ↦ later a more (let same = parts.0 in omega (arith, same, d)) lt
    ]

not_named : (text : List ℕ) → BeginsName text → is_lt (slice_cmp nat_cmp text (codes "Document")) ≡ true → asn_type_name text ≢ codes "Document"
unfolding asn_type_name
not_named [] begins lt e = absurd begins
not_named (a ∷ more) begins lt e = go (not (list_any is_lower (first_upper (bare_name (a ∷ more)))) || is_name_among reserved_names (first_upper (bare_name (a ∷ more)))) e
  where
    go : (b : Bool) → (if b then first_upper (bare_name (a ∷ more)) ++ codes "-1" else first_upper (bare_name (a ∷ more))) ≡ codes "Document" → ⊥
    go true e = bare_append (first_upper (bare_name (a ∷ more))) (49 ∷ []) (subst IsBare (sym e) bare_document)
    go false e = in_order a more begins lt (begun_is (with_hyphens false (without_gap (a ∷ more))) e)

-- nor is it with an ending
not_candidate : (name : List ℕ) (k : ℕ) → name ≢ codes "Document" → candidate name k ≢ codes "Document"
unfolding candidate
not_candidate name zero other e = other e
not_candidate name (suc k) other e = bare_append name (decimal (suc k)) (subst IsBare (sym e) bare_document)

not_free : (f : ℕ) (taken : List (List ℕ)) (name : List ℕ) (k : ℕ) → name ≢ codes "Document" → first_free f taken name k ≢ codes "Document"
not_free zero taken name k other e = not_candidate name k other e
not_free (suc f) taken name k other e = go (is_name_among taken (candidate name k)) (not_free f taken name (suc k) other) e
  where
    go : (b : Bool) → first_free f taken name (suc k) ≢ codes "Document" → (if b then first_free f taken name (suc k) else candidate name k) ≢ codes "Document"
    go true more = more
    go false more = not_candidate name k other

-- ---- in the order of the types

-- the types begin as names do, and none of them is the first of the tables
abbrev Others : List Numbered → Type 0
Others [] = Unit {0}
Others (t ∷ ts) = BeginsName t.name × (t.number ≢ 0) × Others ts

others_insert : (t : Numbered) (ts : List Numbered) → BeginsName t.name → t.number ≢ 0 → Others ts → Others (insert_numbered t ts)
others_insert t [] begins other h = (begins, other, tt)
others_insert t (u ∷ us) begins other (first, second, h) = go (comes_before u t) (others_insert t us begins other h)
  where
    go : (b : Bool) → Others (insert_numbered t us) → Others (if b then u ∷ insert_numbered t us else t ∷ u ∷ us)
    go true more = (first, second, more)
    go false more = (begins, other, (first, second, h))

others_sorted : (k : ℕ) (ts : List TypeEntry) → 0 < k → AllBegin ts → Others (sorted_from k ts)
others_sorted k [] more h = tt
others_sorted k (t ∷ ts) more (first, h) = others_insert (record { number = k; name = t.name }) (sorted_from (suc k) ts) first (λ e. let x : k ≡ 0 = e in omega (arith, x, more)) (others_sorted (suc k) ts (omega arith) h)

free_first : (f : ℕ) (taken : List (List ℕ)) (name : List ℕ) → is_name_among taken name ≡ false → first_free f taken name 0 ≡ name
unfolding candidate
free_first f taken name e = taken_free f taken name 0 e

still_free : (taken : List (List ℕ)) (n : List ℕ) → is_name_among taken (codes "Document") ≡ false → n ≢ codes "Document" → is_name_among (n ∷ taken) (codes "Document") ≡ false
still_free taken n free other = go (bytes_eq (codes "Document") n) refl
  where
    go : (b : Bool) → bytes_eq (codes "Document") n ≡ b → (b || is_name_among taken (codes "Document")) ≡ false
    go true e = absurd (other (sym (equal_bytes (codes "Document") n e)))
    go false e = free

document_in : (taken : List (List ℕ)) (ts : List Numbered) (d : Numbered) → d.number ≡ 0 → d.name ≡ codes "Document" → asn_type_name d.name ≡ codes "Document" → Others ts → is_name_among taken (codes "Document") ≡ false
    → name_in (insert_numbered d ts) (given_after taken (map type_name_of (insert_numbered d ts))) 0 ≡ codes "Document"
document_in taken [] d zero_is name typed others free =
    rw zero_is (ap (λ n. first_free (length taken) taken n 0) typed ∙ free_first (length taken) taken (codes "Document") free)
document_in taken (u ∷ us) d zero_is name typed (begins, other, others) free = go (comes_before u d) refl (λ x. document_in (first_free (length taken) taken (asn_type_name u.name) 0 ∷ taken) us d zero_is name typed others x)
  where
    go : (b : Bool) → comes_before u d ≡ b
        → (is_name_among (first_free (length taken) taken (asn_type_name u.name) 0 ∷ taken) (codes "Document") ≡ false → name_in (insert_numbered d us) (given_after (first_free (length taken) taken (asn_type_name u.name) 0 ∷ taken) (map type_name_of (insert_numbered d us))) 0 ≡ codes "Document")
        → name_in (if b then u ∷ insert_numbered d us else d ∷ u ∷ us) (given_after taken (map type_name_of (if b then u ∷ insert_numbered d us else d ∷ u ∷ us))) 0 ≡ codes "Document"
    go true before more = by_number (eqb_tells u.number 0)
      where
        not_here : asn_type_name u.name ≢ codes "Document"
        not_here = not_named u.name begins (ap (λ n. is_lt (slice_cmp nat_cmp u.name n)) (sym name) ∙ before)

        by_number : ((eqb u.number 0 ≡ true) × (u.number ≡ 0)) ⊎ ((eqb u.number 0 ≡ false) × (u.number ≢ 0)) → name_in (u ∷ insert_numbered d us) (given_after taken (map type_name_of (u ∷ insert_numbered d us))) 0 ≡ codes "Document"
        by_number (inl (b, e)) = absurd (other e)
        by_number (inr (b, e)) = rw b (more (still_free taken (first_free (length taken) taken (asn_type_name u.name) 0) free (not_free (length taken) taken (asn_type_name u.name) 0 not_here)))
    go false after more = rw zero_is (ap (λ n. first_free (length taken) taken n 0) typed ∙ free_first (length taken) taken (codes "Document") free)

type_document : asn_type_name (codes "Document") ≡ codes "Document"
unfolding asn_type_name
type_document = refl

pub document_named : (T : Tables) → (first : TypeEntry) × (others : List TypeEntry) × (T.types ≡ first ∷ others) × (first.name ≡ codes "Document") × AllBegin others → asn_name_of T 0 ≡ codes "Document"
document_named T (first, others, is, name, begin) =
    ap (λ ts. name_in (sorted_from 0 ts) (given_after [] (map type_name_of (sorted_from 0 ts))) 0) is
    ∙ document_in [] (sorted_from 1 others) (record { number = 0; name = first.name }) refl name (ap asn_type_name name ∙ own) (others_sorted 1 others (omega arith) begin) refl
  where
    own : asn_type_name (codes "Document") ≡ codes "Document"
    own = type_document
