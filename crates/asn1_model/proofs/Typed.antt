-- Under the name of each type stands its shape.
use Rattle.std.proofs.Common.{◌≡◌, ◌≢◌, ◌⊎◌, inl, inr, ℕ, zero, suc, ◌+◌, ◌<◌, ◌≤◌, ◌^◌, Bool, true, false, not, ◌||◌, List, [], ◌∷◌, ◌++◌, map, length, Option, Some, None, refl, sym, ap, subst, ◌∙◌, arith, eqb, ltb, Decides}
use Rattle.std.specs.Prelude.{if◌then◌else◌, ◌==◌, codes}
use Rattle.std.specs.Str.{bytes_eq}
use Rattle.std.specs.List.{list_any}
use Rattle.std.proofs.lemmas.Bool.{or_parts, or_right}
use Rattle.std.proofs.lemmas.Bool.Decides.{eqb_tells, Decides-ltb}
use Rattle.std.proofs.lemmas.List.{length-map}
use Rattle.std.proofs.lemmas.Option.{slice_get_past}
use Rattle.lexical_core.proofs.EqualBytes.{equal_bytes, same_bytes}
use Rattle.message_model.specs.Tables.{Tables, TypeEntry, types_of, form_or_missing}
use Rattle.asn1_model.specs.declared.module.AsnType.{AsnType}
use Rattle.asn1_model.specs.declared.module.AsnShape.{AsnShape}
use Rattle.asn1_model.specs.Values.{find_asn_type}
use Rattle.asn1_model.specs.Names.{is_name_among, is_name_digit, is_lower, begun_with_letter, bare_name, with_hyphens, without_gap, first_upper, with_one, reserved_names, asn_type_name, candidate, first_free, given_after}
use Rattle.asn1_model.specs.ModuleOf.{Numbered, comes_before, insert_numbered, sorted_from, by_name, type_name_of, names_given, name_in, asn_name_of, with_shape, types_with, shape_of, module_of}
use Rattle.asn1_model.proofs.TypeNameLemmas.{length-given}
use Rattle.asn1_model.proofs.NamesApart.{AreNew, given_are_new}

-- ---- no name is empty

abbrev IsSome : List ℕ → Type 0
IsSome [] = ⊥
IsSome (c ∷ cs) = Unit {0}

begun_some : (text : List ℕ) → IsSome (begun_with_letter text)
begun_some [] = tt
begun_some (c ∷ cs) = go (is_name_digit c)
  where
    go : (b : Bool) → IsSome (if b then codes "x" ++ c ∷ cs else c ∷ cs)
    go true = tt
    go false = tt

upper_some : (name : List ℕ) → IsSome name → IsSome (first_upper name)
upper_some [] h = h
upper_some (c ∷ cs) h = tt

append_some : (name more : List ℕ) → IsSome name → IsSome (name ++ more)
append_some [] more h = absurd h
append_some (c ∷ cs) more h = tt

one_some : (name : List ℕ) → IsSome name → IsSome (with_one name)
one_some name h = go (not (list_any is_lower name) || is_name_among reserved_names name)
  where
    go : (b : Bool) → IsSome (if b then name ++ codes "-1" else name)
    go true = append_some name (codes "-1") h
    go false = h

type_name_some : (text : List ℕ) → IsSome (asn_type_name text)
unfolding asn_type_name
type_name_some text = one_some (first_upper (bare_name text)) (upper_some (bare_name text) (begun_some (with_hyphens false (without_gap text))))

candidate_some : (name : List ℕ) (k : ℕ) → IsSome name → IsSome (candidate name k)
unfolding candidate
candidate_some name zero h = h
candidate_some name (suc k) h = append_some name _ h

free_some : (f : ℕ) (taken : List (List ℕ)) (name : List ℕ) (k : ℕ) → IsSome name → IsSome (first_free f taken name k)
free_some zero taken name k h = candidate_some name k h
free_some (suc f) taken name k h = go (is_name_among taken (candidate name k)) (free_some f taken name (suc k) h)
  where
    go : (b : Bool) → IsSome (first_free f taken name (suc k)) → IsSome (if b then first_free f taken name (suc k) else candidate name k)
    go true more = more
    go false more = candidate_some name k h

abbrev AllSome : List (List ℕ) → Type 0
AllSome [] = Unit {0}
AllSome (n ∷ ns) = IsSome n × AllSome ns

given_some : (taken ns : List (List ℕ)) → AllSome ns → AllSome (given_after taken ns)
given_some taken [] h = tt
given_some taken (n ∷ ns) (h, more) = (free_some (length taken) taken n 0 h, given_some (first_free (length taken) taken n 0 ∷ taken) ns more)

type_names_some : (ts : List Numbered) → AllSome (map type_name_of ts)
type_names_some [] = tt
type_names_some (t ∷ ts) = (type_name_some t.name, type_names_some ts)

-- ---- the numbers of sorted types

abbrev IsIn : ℕ → List Numbered → Type 0
IsIn p [] = ⊥
IsIn p (t ∷ ts) = (t.number ≡ p) ⊎ IsIn p ts

in_insert : (p : ℕ) (t : Numbered) (ts : List Numbered) → IsIn p ts → IsIn p (insert_numbered t ts)
in_insert p t [] h = absurd h
in_insert p t (u ∷ us) h = go (comes_before u t) (in_insert p t us) h
  where
    go : (b : Bool) → (IsIn p us → IsIn p (insert_numbered t us)) → (u.number ≡ p) ⊎ IsIn p us → IsIn p (if b then u ∷ insert_numbered t us else t ∷ u ∷ us)
    go true more (inl e) = inl e
    go true more (inr x) = inr (more x)
    go false more x = inr x

own_insert : (t : Numbered) (ts : List Numbered) → IsIn t.number (insert_numbered t ts)
own_insert t [] = inl refl
own_insert t (u ∷ us) = go (comes_before u t) (own_insert t us)
  where
    go : (b : Bool) → IsIn t.number (insert_numbered t us) → IsIn t.number (if b then u ∷ insert_numbered t us else t ∷ u ∷ us)
    go true more = inr more
    go false more = inl refl

all_in : (k p : ℕ) (ts : List TypeEntry) → k ≤ p → p < k + length ts → IsIn p (sorted_from k ts)
all_in k p [] low high = absurd (omega arith)
all_in k p (t ∷ ts) low high = go (eqb_tells k p) (λ q. all_in (suc k) p ts q (omega arith))
  where
    go : ((eqb k p ≡ true) × (k ≡ p)) ⊎ ((eqb k p ≡ false) × (k ≢ p)) → (suc k ≤ p → IsIn p (sorted_from (suc k) ts)) → IsIn p (insert_numbered (record { number = k; name = t.name }) (sorted_from (suc k) ts))
    go (inl (b, e)) more = subst (λ (x : ℕ). IsIn x (insert_numbered (record { number = k; name = t.name }) (sorted_from (suc k) ts))) e (own_insert (record { number = k; name = t.name }) (sorted_from (suc k) ts))
    go (inr (b, other)) more = in_insert p (record { number = k; name = t.name }) (sorted_from (suc k) ts) (more (omega (arith, low, other)))

insert_length : (t : Numbered) (ts : List Numbered) → length (insert_numbered t ts) ≡ suc (length ts)
insert_length t [] = refl
insert_length t (u ∷ us) = go (comes_before u t) (insert_length t us)
  where
    go : (b : Bool) → length (insert_numbered t us) ≡ suc (length us) → length (if b then u ∷ insert_numbered t us else t ∷ u ∷ us) ≡ suc (suc (length us))
    go true more = ap suc more
    go false more = refl

pub sorted_length : (k : ℕ) (ts : List TypeEntry) → length (sorted_from k ts) ≡ length ts
sorted_length k [] = refl
sorted_length k (t ∷ ts) = insert_length (record { number = k; name = t.name }) (sorted_from (suc k) ts) ∙ ap suc (sorted_length (suc k) ts)

-- ---- looking up

apart : (taken : List (List ℕ)) (m n : List ℕ) → is_name_among taken m ≡ false → is_name_among taken n ≡ true → bytes_eq n m ≡ false
apart taken m n new old = go (bytes_eq n m) refl
  where
    go : (b : Bool) → bytes_eq n m ≡ b → bytes_eq n m ≡ false
    go true e = (let same : n ≡ m = equal_bytes n m e in let x : is_name_among taken m ≡ true = subst (λ y. is_name_among taken y ≡ true) same old in let z : false ≡ true = sym new ∙ x in absurd cc)
    go false e = e

skip : (n m : List ℕ) (sh : Option AsnShape) (rest : List AsnType) → bytes_eq n m ≡ false → find_asn_type n (with_shape m sh rest) ≡ find_asn_type n rest
skip n m None rest e = refl
skip n m (Some s) rest e = rw e refl

-- a name that was given before is that of no type
not_later : (T : Tables) (taken : List (List ℕ)) (n : List ℕ) (ts : List Numbered) (ns : List (List ℕ)) → is_name_among taken n ≡ true → AreNew taken ns → find_asn_type n (types_with T ts ns) ≡ None
not_later T taken n [] ns old new = refl
not_later T taken n (t ∷ ts) [] old new = refl
not_later T taken n (t ∷ ts) (m ∷ ns) old (first, new) =
    skip n m (shape_of (asn_name_of T) (types_of T t.number)) (types_with T ts ns) (apart taken m n first old)
    ∙ not_later T (m ∷ taken) n ts ns (or_right (bytes_eq n m) (is_name_among taken n) old) new

-- the empty name is that of no type
none_empty : (T : Tables) (ts : List Numbered) (ns : List (List ℕ)) → AllSome ns → find_asn_type [] (types_with T ts ns) ≡ None
none_empty T [] ns h = refl
none_empty T (t ∷ ts) [] h = refl
none_empty T (t ∷ ts) ([] ∷ ns) h = absurd h.0
none_empty T (t ∷ ts) ((c ∷ cs) ∷ ns) h = skip [] (c ∷ cs) (shape_of (asn_name_of T) (types_of T t.number)) (types_with T ts ns) refl ∙ none_empty T ts ns h.1

-- the name of a type is one of those that are given
name_new : (taken : List (List ℕ)) (ts : List Numbered) (ns : List (List ℕ)) (p : ℕ) → AreNew taken ns → length ts ≡ length ns → IsIn p ts → is_name_among taken (name_in ts ns p) ≡ false
name_new taken [] ns p new long h = absurd h
name_new taken (t ∷ ts) [] p new long h = absurd cc
name_new taken (t ∷ ts) (n ∷ ns) p (first, new) long h = go (eqb_tells t.number p) h (name_new (n ∷ taken) ts ns p new cc)
  where
    go : ((eqb t.number p ≡ true) × (t.number ≡ p)) ⊎ ((eqb t.number p ≡ false) × (t.number ≢ p)) → (t.number ≡ p) ⊎ IsIn p ts → (IsIn p ts → is_name_among (n ∷ taken) (name_in ts ns p) ≡ false) → is_name_among taken (if t.number == p then n else name_in ts ns p) ≡ false
    go (inl (b, e)) x more = rw b first
    go (inr (b, other)) (inl e) more = absurd (other e)
    go (inr (b, other)) (inr x) more = rw b (or_parts (bytes_eq (name_in ts ns p) n) (is_name_among taken (name_in ts ns p)) (more x)).1

found : (T : Tables) (taken : List (List ℕ)) (ts : List Numbered) (ns : List (List ℕ)) (p : ℕ) → AreNew taken ns → length ts ≡ length ns → IsIn p ts
    → find_asn_type (name_in ts ns p) (types_with T ts ns) ≡ shape_of (asn_name_of T) (types_of T p)
found T taken [] ns p new long h = absurd h
found T taken (t ∷ ts) [] p new long h = absurd cc
found T taken (t ∷ ts) (n ∷ ns) p (first, new) long h = go (eqb_tells t.number p) h (found T (n ∷ taken) ts ns p new cc) (name_new (n ∷ taken) ts ns p new cc)
  where
    here : (sh : Option AsnShape) → find_asn_type n (with_shape n sh (types_with T ts ns)) ≡ sh
    here None = not_later T (n ∷ taken) n ts ns (rw (same_bytes n) refl) new
    here (Some s) = rw (same_bytes n) refl

    go : ((eqb t.number p ≡ true) × (t.number ≡ p)) ⊎ ((eqb t.number p ≡ false) × (t.number ≢ p)) → (t.number ≡ p) ⊎ IsIn p ts
        → (IsIn p ts → find_asn_type (name_in ts ns p) (types_with T ts ns) ≡ shape_of (asn_name_of T) (types_of T p)) → (IsIn p ts → is_name_among (n ∷ taken) (name_in ts ns p) ≡ false)
        → find_asn_type (if t.number == p then n else name_in ts ns p) (with_shape n (shape_of (asn_name_of T) (types_of T t.number)) (types_with T ts ns)) ≡ shape_of (asn_name_of T) (types_of T p)
    go (inl (b, e)) x more other = rw b (here (shape_of (asn_name_of T) (types_of T t.number)) ∙ ap (λ (q : ℕ). shape_of (asn_name_of T) (types_of T q)) e)
    go (inr (b, no_one)) (inl e) more other = absurd (no_one e)
    go (inr (b, no_one)) (inr x) more other =
        rw b (skip (name_in ts ns p) n (shape_of (asn_name_of T) (types_of T t.number)) (types_with T ts ns) (or_parts (bytes_eq (name_in ts ns p) n) (is_name_among taken (name_in ts ns p)) (other x)).0 ∙ more x)

in_or_nameless : (ts : List Numbered) (ns : List (List ℕ)) (p : ℕ) → IsIn p ts ⊎ (name_in ts ns p ≡ [])
in_or_nameless [] ns p = inr refl
in_or_nameless (t ∷ ts) [] p = inr refl
in_or_nameless (t ∷ ts) (n ∷ ns) p = go (eqb_tells t.number p) (in_or_nameless ts ns p)
  where
    go : ((eqb t.number p ≡ true) × (t.number ≡ p)) ⊎ ((eqb t.number p ≡ false) × (t.number ≢ p)) → IsIn p ts ⊎ (name_in ts ns p ≡ []) → ((t.number ≡ p) ⊎ IsIn p ts) ⊎ ((if t.number == p then n else name_in ts ns p) ≡ [])
    go (inl (b, e)) more = inl (inl e)
    go (inr (b, other)) (inl x) = inl (inr x)
    go (inr (b, other)) (inr e) = inr (rw b e)

-- under the name of a type stands its shape, and under that of no type nothing
pub typed : (T : Tables) → length T.types < 2 ^ 64 → (p : ℕ) → find_asn_type (asn_name_of T p) (module_of T).types ≡ shape_of (asn_name_of T) (types_of T p)
unfolding module_of
typed T few p = go (ltb p (length T.types)) (Decides-ltb p (length T.types)) (in_or_nameless (by_name T) (names_given T) p)
  where
    long : length (map type_name_of (by_name T)) ≡ length T.types
    long = length-map (by_name T) type_name_of ∙ sorted_length 0 T.types

    new : AreNew [] (names_given T)
    new = given_are_new [] (map type_name_of (by_name T)) (omega (arith, long, few))

    same : length (by_name T) ≡ length (names_given T)
    same = sym (length-given [] (map type_name_of (by_name T)) ∙ length-map (by_name T) type_name_of)

    not_below : (p < length T.types → ⊥) → length T.types ≤ p
    not_below h = omega (arith, h)

    Typed : Type 0
    Typed = find_asn_type (asn_name_of T p) (types_with T (by_name T) (names_given T)) ≡ shape_of (asn_name_of T) (types_of T p)

    go : (b : Bool) → Decides b (p < length T.types) → IsIn p (by_name T) ⊎ (asn_name_of T p ≡ []) → Typed
    go true d x = found T [] (by_name T) (names_given T) p new same (all_in 0 p T.types (omega arith) (omega (arith, d.0 refl)))
    go false d (inl x) = found T [] (by_name T) (names_given T) p new same x
    go false d (inr e) =
        ap (λ n. find_asn_type n (types_with T (by_name T) (names_given T))) e
        ∙ (none_empty T (by_name T) (names_given T) (given_some [] (map type_name_of (by_name T)) (type_names_some (by_name T)))
        ∙ ap (shape_of (asn_name_of T)) (sym (ap form_or_missing (slice_get_past T.types p (not_below (λ lt. let x : false ≡ true = d.1 lt in absurd cc))))))
