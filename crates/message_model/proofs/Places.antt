-- Objects of a repository by their places in file order.
use Rattle.std.proofs.Common.{◌≡◌, ℕ, zero, suc, ◌<◌, Bool, true, false, List, [], ◌∷◌, get_or, Some, refl, sym, ap, ◌∙◌, arith, inl, inr}
use Rattle.std.specs.Prelude.{slice_get}
use Rattle.std.specs.Str.{bytes_eq}
use Rattle.std.specs.List.{position_or_len}
use Rattle.std.specs.Option.{option_map}
use Rattle.std.proofs.lemmas.Bool.{cases_lt}
use Rattle.std.proofs.lemmas.Option.{slice_get-map, slice_get_within, get_or_from_slice_get, same_Some}
use Rattle.lexical_core.proofs.EqualBytes.{equal_bytes, same_bytes, other_bytes}
use Rattle.repo_objects.specs.declared.objects.Object.{Object}
use Rattle.repo_objects.specs.Repository.{DictionaryEntry, Contents, ids_of, IsRepository}
use Rattle.reference_check.specs.Graph.{entry, find_entry}
use Rattle.reference_check.specs.Reach.{rank_of}
use Rattle.reference_check.proofs.Lookups.{IsFound}

-- no entry before that place has its id
abbrev pub IsFirstAt : List DictionaryEntry → ℕ → List ℕ → Type 0
IsFirstAt es k id = (j : ℕ) (a : DictionaryEntry) → j < k → slice_get es j ≡ Some a → a.id ≡ id → ⊥

pub find_at : (es : List DictionaryEntry) (k : ℕ) (e : DictionaryEntry) → IsFirstAt es k e.id → slice_get es k ≡ Some e → find_entry e.id es ≡ Some e.object
find_at [] k e first h = absurd cc
find_at (a ∷ es) zero e first h =
    let same : a ≡ e = same_Some a e h in
    let hit : bytes_eq a.id e.id ≡ true = ap (λ (x : DictionaryEntry). bytes_eq x.id e.id) same ∙ same_bytes e.id in
    rw hit (ap (λ (x : DictionaryEntry). Some x.object) same)
find_at (a ∷ es) (suc k) e first h =
    let miss : bytes_eq a.id e.id ≡ false = other_bytes a.id e.id (first 0 a (omega arith) refl) in
    rw miss (find_at es k e (λ j b lt g. first (suc j) b (omega arith) g) h)

pub rank_at : (es : List DictionaryEntry) (k : ℕ) (e : DictionaryEntry) → IsFirstAt es k e.id → slice_get es k ≡ Some e → position_or_len (λ (x : DictionaryEntry). bytes_eq x.id e.id) es ≡ k
rank_at [] k e first h = absurd cc
rank_at (a ∷ es) zero e first h =
    let same : a ≡ e = same_Some a e h in
    let hit : bytes_eq a.id e.id ≡ true = ap (λ (x : DictionaryEntry). bytes_eq x.id e.id) same ∙ same_bytes e.id in
    rw hit refl
rank_at (a ∷ es) (suc k) e first h =
    let miss : bytes_eq a.id e.id ≡ false = other_bytes a.id e.id (first 0 a (omega arith) refl) in
    let rest = rank_at es k e (λ j b lt g. first (suc j) b (omega arith) g) h in
    rw miss (omega (arith, rest))

same_entry : (a : DictionaryEntry) (id : List ℕ) (o : Object) → a.id ≡ id → a.object ≡ o → a ≡ record { id = id; object = o }
same_entry a id o name what =
    let by_id : List ℕ → DictionaryEntry = λ i. record { id = i; object = a.object } in
    let by_object : Object → DictionaryEntry = λ x. record { id = id; object = x } in
    ap by_id name ∙ ap by_object what

-- what is found by an id stands at some place
pub found_entry : (es : List DictionaryEntry) (id : List ℕ) (o : Object) → find_entry id es ≡ Some o → (k : ℕ) × (slice_get es k ≡ Some (record { id = id; object = o }))
found_entry [] id o h = absurd cc
found_entry (a ∷ es) id o h = by (bytes_eq a.id id) refl (λ k. found_entry es id o k)
  where
    by : (b : Bool) → bytes_eq a.id id ≡ b → (find_entry id es ≡ Some o → (k : ℕ) × (slice_get es k ≡ Some (record { id = id; object = o })))
        → (k : ℕ) × (slice_get (a ∷ es) k ≡ Some (record { id = id; object = o }))
    by true hit later =
        let here : Some a.object ≡ Some o = rw hit at h in
        let name : a.id ≡ id = equal_bytes a.id id hit in
        let what : a.object ≡ o = cc in
        (0, ap Some (same_entry a id o name what))
    by false miss later = (let r = later (rw miss at h) in (suc r.0, r.1))

pub id_at : (es : List DictionaryEntry) (k : ℕ) (e : DictionaryEntry) → slice_get es k ≡ Some e → slice_get (ids_of es) k ≡ Some e.id
id_at es k e h = slice_get-map (λ (x : DictionaryEntry). x.id) es k ∙ ap (option_map (λ (x : DictionaryEntry). x.id)) h

-- two ids that are found at one rank are the same
pub found_once : (es : List DictionaryEntry) (id other : List ℕ) (x : IsFound id es) (y : IsFound other es) → x.place ≡ y.place → id ≡ other
found_once es id other x y places =
    let both : Some x.there ≡ Some y.there = sym x.at ∙ (ap (slice_get es) places ∙ y.at) in
    let entries : x.there ≡ y.there = cc in
    sym x.named ∙ (ap (λ (e : DictionaryEntry). e.id) entries ∙ y.named)

module _ (R : Contents) (whole : IsRepository R) where
  differ : (i j : ℕ) (a b : DictionaryEntry) → i < j → slice_get R.objects i ≡ Some a → slice_get R.objects j ≡ Some b → a.id ≡ b.id → ⊥
  differ i j a b lt ha hb same =
      let ga : slice_get (ids_of R.objects) i ≡ Some a.id = id_at R.objects i a ha in
      let gb : slice_get (ids_of R.objects) j ≡ Some b.id = id_at R.objects j b hb in
      let ia : get_or (ids_of R.objects) i [] ≡ a.id = get_or_from_slice_get (ids_of R.objects) i a.id [] ga in
      let ib : get_or (ids_of R.objects) j [] ≡ b.id = get_or_from_slice_get (ids_of R.objects) j b.id [] gb in
      whole.distinct i j [] lt (slice_get_within (ids_of R.objects) j b.id gb) (ia ∙ same ∙ sym ib)

  pub first_at : (k : ℕ) (e : DictionaryEntry) → slice_get R.objects k ≡ Some e → IsFirstAt R.objects k e.id
  first_at k e h j a lt g same = differ j k a e lt g h same

  -- an id has one place
  pub same_place : (i j : ℕ) (a b : DictionaryEntry) → slice_get R.objects i ≡ Some a → slice_get R.objects j ≡ Some b → a.id ≡ b.id → i ≡ j
  same_place i j a b ha hb same =
      elim (cases_lt i j) [
        | inl below ↦ absurd (differ i j a b below ha hb same)
        | inr above ↦ elim (cases_lt j i) [
          | inl below ↦ absurd (differ j i b a below hb ha (sym same))
          | inr other ↦ omega arith
        ]
      ]

  pub finds_at : (k : ℕ) (e : DictionaryEntry) → slice_get R.objects k ≡ Some e → find_entry e.id R.objects ≡ Some e.object
  finds_at k e h = find_at R.objects k e (first_at k e h) h

  pub ranks_at : (k : ℕ) (e : DictionaryEntry) → slice_get R.objects k ≡ Some e → rank_of R (entry e.id) ≡ k
  ranks_at k e h = rank_at R.objects k e (first_at k e h) h
