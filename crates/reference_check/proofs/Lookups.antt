-- What a look-up by id finds, and where it stands in file order.
use Rattle.std.proofs.Common.{◌≡◌, ◌≢◌, ℕ, zero, suc, ◌<◌, Bool, true, false, List, [], ◌∷◌, length, get_or, Some, None, refl, sym, ap, subst, ◌∙◌, arith, ◌⊎◌, inl, inr, Contains}
use Rattle.std.specs.Prelude.{slice_get, AllPairs, IsTrue, ◌↔◌, not}
use Rattle.std.specs.List.{position_or_len}
use Rattle.std.specs.Str.{bytes_eq}
use Rattle.std.proofs.lemmas.Slice.Eq.{bytes_eq-Decides}
use Rattle.std.proofs.lemmas.Option.{slice_get_within, slice_get-get_or, get_or_from_slice_get}
use Rattle.std.proofs.lemmas.List.{length-map, get_or-map}
use Rattle.std.proofs.lemmas.Bool.{cases_lt}
use Rattle.repo_objects.specs.declared.objects.Object.{Object}
use Rattle.repo_objects.specs.Repository.{DictionaryEntry, HasId, ids_of}
use Rattle.reference_check.specs.Graph.{find_entry}
use Rattle.reference_check.specs.Rules.{IsTextKind}

abbrev pub rank_in : List ℕ → List DictionaryEntry → ℕ
rank_in id es = position_or_len (λ (e : DictionaryEntry). bytes_eq e.id id) es

-- ---- lists

pub none_there : {A : Type 0} {x : A} (k : ℕ) → slice_get [] k ≡ Some x → ⊥
none_there zero at = cc
none_there (suc k) at = cc

pub first_in : {A : Type 0} (x : A) (xs : List A) → Contains (x ∷ xs) x
first_in x xs = (0, omega arith, refl)

pub at_contained : {A : Type 0} (xs : List A) (x : A) (has : Contains xs x) → slice_get xs has.0 ≡ Some x
at_contained xs x (k, l, e) = slice_get-get_or xs k x l ∙ ap Some e

-- ---- entries

-- the first entry of that id
pub record IsFound (id : List ℕ) (es : List DictionaryEntry) : Type 0 where
  pub place : ℕ
  pub there : DictionaryEntry
  pub at : slice_get es place ≡ Some there
  pub named : there.id ≡ id
  pub found : find_entry id es ≡ Some there.object
  pub rank : rank_in id es ≡ place

-- no entry has the id
pub record IsAbsent (id : List ℕ) (es : List DictionaryEntry) : Type 0 where
  pub none : find_entry id es ≡ None
  pub rank : rank_in id es ≡ length es
  pub nowhere : (k : ℕ) (e : DictionaryEntry) → slice_get es k ≡ Some e → e.id ≡ id → ⊥

pub find_place : (id : List ℕ) (es : List DictionaryEntry) → IsAbsent id es ⊎ IsFound id es
find_place id [] = inl (record { none = refl; rank = refl; nowhere = λ k e at named. none_there k at })
find_place id (x ∷ es) = by (bytes_eq x.id id) refl (find_place id es)
  where
    nowhere : bytes_eq x.id id ≡ false → IsAbsent id es → (k : ℕ) (e : DictionaryEntry) → slice_get (x ∷ es) k ≡ Some e → e.id ≡ id → ⊥
    nowhere other a zero e at named =
        let same : x ≡ e = cc in
        let yes : bytes_eq x.id id ≡ true = (bytes_eq-Decides x.id id).1 (ap (λ (z : DictionaryEntry). z.id) same ∙ named) in
        cc
    nowhere other a (suc k) e at named = a.nowhere k e at named

    by : (b : Bool) → bytes_eq x.id id ≡ b → IsAbsent id es ⊎ IsFound id es → IsAbsent id (x ∷ es) ⊎ IsFound id (x ∷ es)
    by true e rest = inr (record {
      place = 0;
      there = x;
      at = refl;
      named = (bytes_eq-Decides x.id id).0 e;
      found = rw e refl;
      rank = rw e refl;
    })
    by false e (inl a) = inl (record {
      none = rw e a.none;
      rank = rw e (let n : rank_in id es ≡ length es = a.rank in omega arith);
      nowhere = nowhere e a;
    })
    by false e (inr f) = inr (record {
      place = suc f.place;
      there = f.there;
      at = f.at;
      named = f.named;
      found = rw e f.found;
      rank = rw e (let n : rank_in id es ≡ f.place = f.rank in omega arith);
    })

-- two entries of one id stand at one place
pub one_place : (es : List DictionaryEntry) (i j : ℕ) (a b : DictionaryEntry) → AllPairs (λ x y. x ≢ y) (ids_of es) → slice_get es i ≡ Some a → slice_get es j ≡ Some b → a.id ≡ b.id → i ≡ j
one_place es i j a b distinct at_i at_j same =
    elim (cases_lt i j) [
      | inl before ↦ absurd (apart i j a b before at_i at_j same)
      | inr later ↦
          elim (cases_lt j i) [
            | inl after ↦ absurd (apart j i b a after at_j at_i (sym same))
            | inr never ↦ omega arith
          ]
    ]
  where
    id_at : (k : ℕ) (e : DictionaryEntry) (d : List ℕ) → slice_get es k ≡ Some e → get_or (ids_of es) k d ≡ e.id
    id_at k e d at = get_or-map (λ (e : DictionaryEntry). e.id) es k e d (slice_get_within es k e at) ∙ ap (λ (e : DictionaryEntry). e.id) (get_or_from_slice_get es k e e at)

    apart : (i j : ℕ) (a b : DictionaryEntry) → i < j → slice_get es i ≡ Some a → slice_get es j ≡ Some b → a.id ≡ b.id → ⊥
    apart i j a b l at_i at_j same =
        distinct i j a.id l (subst (λ n. j < n) (sym (length-map es (λ (e : DictionaryEntry). e.id))) (slice_get_within es j b at_j))
        (id_at i a a.id at_i ∙ same ∙ sym (id_at j b a.id at_j))

-- the entry at a place is found by its id, and its place is its rank
pub find_at : (es : List DictionaryEntry) (k : ℕ) (e : DictionaryEntry) → AllPairs (λ x y. x ≢ y) (ids_of es) → slice_get es k ≡ Some e → find_entry e.id es ≡ Some e.object
find_at es k e distinct at = go (find_place e.id es)
  where
    go : IsAbsent e.id es ⊎ IsFound e.id es → find_entry e.id es ≡ Some e.object
    go (inl a) = absurd (a.nowhere k e at refl)
    go (inr f) =
        let same_place : f.place ≡ k = one_place es f.place k f.there e distinct f.at at f.named in
        let there : slice_get es k ≡ Some f.there = subst (λ n. slice_get es n ≡ Some f.there) same_place f.at in
        let same : f.there ≡ e = cc in
        f.found ∙ ap (λ (z : DictionaryEntry). Some z.object) same

pub rank_at : (es : List DictionaryEntry) (k : ℕ) (e : DictionaryEntry) → AllPairs (λ x y. x ≢ y) (ids_of es) → slice_get es k ≡ Some e → rank_in e.id es ≡ k
rank_at es k e distinct at = go (find_place e.id es)
  where
    go : IsAbsent e.id es ⊎ IsFound e.id es → rank_in e.id es ≡ k
    go (inl a) = absurd (a.nowhere k e at refl)
    go (inr f) = f.rank ∙ one_place es f.place k f.there e distinct f.at at f.named

-- ---- ids that some object has

pub has_at : (es : List DictionaryEntry) (k : ℕ) (e : DictionaryEntry) → slice_get es k ≡ Some e → HasId es e.id
has_at (x ∷ es) zero e at = (let same : x ≡ e = cc in (0, omega arith, ap (λ (z : DictionaryEntry). z.id) same))
has_at (x ∷ es) (suc k) e at = later (has_at es k e at)
  where
    later : HasId es e.id → HasId (x ∷ es) e.id
    later (i, l, same) = (suc i, omega arith, same)
has_at [] k e at = absurd (none_there k at)

pub entry_of_id : (es : List DictionaryEntry) (id : List ℕ) → HasId es id → (k : ℕ) × (e : DictionaryEntry) × (slice_get es k ≡ Some e) × (e.id ≡ id)
entry_of_id [] id (k, l, e) = absurd (omega arith)
entry_of_id (x ∷ es) id (zero, l, e) = (0, x, refl, e)
entry_of_id (x ∷ es) id (suc k, l, e) = later (entry_of_id es id (k, omega arith, e))
  where
    later : (k : ℕ) × (e : DictionaryEntry) × (slice_get es k ≡ Some e) × (e.id ≡ id) → (k : ℕ) × (e : DictionaryEntry) × (slice_get (x ∷ es) k ≡ Some e) × (e.id ≡ id)
    later (k, e, at, same) = (suc k, e, at, same)

pub none_of_no_id : (es : List DictionaryEntry) (id : List ℕ) → (HasId es id → ⊥) → find_entry id es ≡ None
none_of_no_id es id lacks = go (find_place id es)
  where
    go : IsAbsent id es ⊎ IsFound id es → find_entry id es ≡ None
    go (inl a) = a.none
    go (inr f) = absurd (lacks (subst (λ z. HasId es z) f.named (has_at es f.place f.there f.at)))

pub no_id_of_none : (es : List DictionaryEntry) (id : List ℕ) → find_entry id es ≡ None → HasId es id → ⊥
no_id_of_none es id none has = go (find_place id es)
  where
    go : IsAbsent id es ⊎ IsFound id es → ⊥
    go (inl a) = (let r : (k : ℕ) × (e : DictionaryEntry) × (slice_get es k ≡ Some e) × (e.id ≡ id) = entry_of_id es id has in a.nowhere r.0 r.1 r.2 r.3)
    go (inr f) = (let same : None ≡ Some f.there.object = sym none ∙ f.found in cc)

-- what an id finds among distinct ones
pub find_contained : (es : List DictionaryEntry) (id : List ℕ) (o : Object) → AllPairs (λ x y. x ≢ y) (ids_of es) → Contains es (record { id = id; object = o }) → find_entry id es ≡ Some o
find_contained es id o distinct has = (let e : DictionaryEntry = record { id = id; object = o } in find_at es has.0 e distinct (at_contained es e has))

-- ---- what a look-up answers

pub present : (es : List DictionaryEntry) (id : List ℕ) → HasId es id → IsTrue false ↔ (find_entry id es ≡ None)
present es id has = (λ t. cc, λ e. absurd (no_id_of_none es id e has))

pub absent : (es : List DictionaryEntry) (id : List ℕ) → (HasId es id → ⊥) → IsTrue true ↔ (find_entry id es ≡ None)
absent es id lacks = (λ t. none_of_no_id es id lacks, λ e. refl)

pub no_text_found : (es : List DictionaryEntry) (id : List ℕ) (o : Object) (b : Bool) → find_entry id es ≡ Some o → (IsTrue b ↔ IsTextKind o.kind)
    → IsTrue (not b) ↔ ((x : Object) × (find_entry id es ≡ Some x) × (IsTextKind x.kind → ⊥))
no_text_found es id o true found text = (λ t. cc, λ (x, at, other). absurd (other (let same : o ≡ x = cc in subst (λ (z : Object). IsTextKind z.kind) same (text.0 refl))))
no_text_found es id o false found text = (λ t. (o, found, λ k. (let yes : IsTrue false = text.1 k in cc)), λ h. refl)

pub none_found : (es : List DictionaryEntry) (id : List ℕ) → (HasId es id → ⊥)
    → IsTrue false ↔ ((x : Object) × (find_entry id es ≡ Some x) × (IsTextKind x.kind → ⊥))
none_found es id lacks = (λ t. cc, λ (x, at, other). (let none : find_entry id es ≡ None = none_of_no_id es id lacks in cc))
