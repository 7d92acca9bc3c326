-- What elements lead to: at most one object, which is the one that the graph names.
use Rattle.std.proofs.Common.{◌≡◌, ℕ, zero, suc, ◌<◌, Bool, true, false, List, [], ◌∷◌, Option, Some, None, true≢false, refl, sym, ap, ◌∙◌, subst, arith, ◌⊎◌, inl, inr}
use Rattle.std.specs.Prelude.{slice_get, AllPairs, ◌≢◌}
use Rattle.std.specs.Option.{option_map}
use Rattle.std.specs.Str.{bytes_eq}
use Rattle.std.proofs.lemmas.Option.{slice_get_within, get_or_from_slice_get, slice_get-map}
use Rattle.std.proofs.lemmas.Slice.Eq.{bytes_eq-Decides}
use native.Mathlib.Decide.{dec_lt}
use Rattle.repo_objects.specs.declared.objects.ElementDef.{ElementDef}
use Rattle.repo_objects.specs.Repository.{DictionaryEntry, Contents, ids_of, HasId, HasIdAt, IsRepository}
use Rattle.reference_check.specs.Graph.{entry, one_of, slot_of, references, find_entry}
use Rattle.reference_check.specs.inner.FiniteSearch.{only_one, LeadsTo, TellsTarget}

-- no id stands twice
abbrev pub Apart : List (List ℕ) → Type 0
Apart ids = AllPairs (λ one other. one ≢ other) ids

pub some_some : {A : Type 0} (x y : A) → ◌≡◌ {A = Option A} (Some x) (Some y) → x ≡ y
some_some x y e = cc

-- the id of the object at a place
id_at : (es : List DictionaryEntry) (k : ℕ) (id : List ℕ) → HasIdAt es k id → slice_get (ids_of es) k ≡ Some id
id_at es k id (e, at, same) = slice_get-map (λ (x : DictionaryEntry). x.id) es k ∙ (ap (option_map (λ (x : DictionaryEntry). x.id)) at ∙ ap Some same)

pub has_id : (es : List DictionaryEntry) (k : ℕ) (id : List ℕ) → HasIdAt es k id → HasId es id
has_id es k id h =
    let at : slice_get (ids_of es) k ≡ Some id = id_at es k id h in
    (k, slice_get_within (ids_of es) k id at, get_or_from_slice_get (ids_of es) k id id at)

-- no id stands at two places
not_before : (es : List DictionaryEntry) (j k : ℕ) (id : List ℕ) → Apart (ids_of es) → HasIdAt es j id → HasIdAt es k id → j < k → ⊥
not_before es j k id apart h i l =
    let at : slice_get (ids_of es) j ≡ Some id = id_at es j id h in
    let also : slice_get (ids_of es) k ≡ Some id = id_at es k id i in
    apart j k id l (slice_get_within (ids_of es) k id also) (get_or_from_slice_get (ids_of es) j id id at ∙ sym (get_or_from_slice_get (ids_of es) k id id also))

pub one_place : (es : List DictionaryEntry) (j k : ℕ) (id : List ℕ) → Apart (ids_of es) → HasIdAt es j id → HasIdAt es k id → j ≡ k
one_place es j k id apart h i = go (dec_lt j k) (dec_lt k j)
  where
    go : Dec (j < k) → Dec (k < j) → j ≡ k
    go (yes l) other = absurd (not_before es j k id apart h i l)
    go (no l) (yes q) = absurd (not_before es k j id apart i h q)
    go (no l) (no q) = omega arith

-- ---- what an element leads to

pub target_found : (R : Contents) (d : ElementDef) (id : List ℕ) (k : ℕ) → IsRepository R → only_one (references d) ≡ Some id → HasIdAt R.objects k id → TellsTarget R.objects d (Some k)
target_found R d id k whole one at = ((id, one, at), λ j (i, o, h). one_place R.objects j k id whole.distinct (subst (λ (x : List ℕ). HasIdAt R.objects j x) (some_some i id (sym o ∙ one)) h) at)

pub target_missing : (es : List DictionaryEntry) (d : ElementDef) (id : List ℕ) → only_one (references d) ≡ Some id → (HasId es id → ⊥) → TellsTarget es d None
target_missing es d id one none = λ j (i, o, h). none (subst (λ (x : List ℕ). HasId es x) (some_some i id (sym o ∙ one)) (has_id es j i h))

-- the place that the graph names
one_of_only : (ids : List (List ℕ)) (id : List ℕ) → only_one ids ≡ Some id → one_of ids ≡ entry id
one_of_only [] id e = absurd cc
one_of_only (x ∷ []) id e = ap entry (some_some x id e)
one_of_only (x ∷ y ∷ ids) id e = absurd cc

pub target_is : (d : ElementDef) (id : List ℕ) → only_one (references d) ≡ Some id → (slot_of d).target ≡ entry id
target_is d id e = one_of_only (references d) id e

entry_one_of : (ids : List (List ℕ)) (id : List ℕ) → one_of ids ≡ entry id → only_one ids ≡ Some id
entry_one_of [] id e = absurd cc
entry_one_of (x ∷ []) id e = (let same : x ≡ id = cc in ap Some same)
entry_one_of (x ∷ y ∷ ids) id e = absurd cc

pub only_target : (d : ElementDef) (id : List ℕ) → (slot_of d).target ≡ entry id → only_one (references d) ≡ Some id
only_target d id e = entry_one_of (references d) id e

-- an element leads to the object at this place, or it does not
leads_here : (es : List DictionaryEntry) (d : ElementDef) (k : ℕ) (id : List ℕ) (e : DictionaryEntry) → only_one (references d) ≡ Some id → slice_get es k ≡ Some e → (b : Bool) → bytes_eq e.id id ≡ b → LeadsTo es d k ⊎ (LeadsTo es d k → ⊥)
leads_here es d k id e one at true t = inl (id, one, (e, at, (bytes_eq-Decides e.id id).0 t))
leads_here es d k id e one at false t = inr (λ (i, o, (f, got, same)).
    let same_id : i ≡ id = some_some i id (sym o ∙ one) in
    let same_entry : f ≡ e = some_some f e (sym got ∙ at) in
    let equal : e.id ≡ id = ap (λ (x : DictionaryEntry). x.id) (sym same_entry) ∙ (same ∙ same_id) in
    true≢false (sym ((bytes_eq-Decides e.id id).1 equal) ∙ t))

pub leads_or_not : (es : List DictionaryEntry) (d : ElementDef) (k : ℕ) → LeadsTo es d k ⊎ (LeadsTo es d k → ⊥)
leads_or_not es d k = by_id (only_one (references d)) refl
  where
    by_entry : (id : List ℕ) (o : Option DictionaryEntry) → only_one (references d) ≡ Some id → slice_get es k ≡ o → LeadsTo es d k ⊎ (LeadsTo es d k → ⊥)
    by_entry id None one at = inr (λ (i, o, (f, got, same)). absurd (let e : ◌≡◌ {A = Option DictionaryEntry} None (Some f) = sym at ∙ got in cc))
    by_entry id (Some e) one at = leads_here es d k id e one at (bytes_eq e.id id) refl

    by_id : (o : Option (List ℕ)) → only_one (references d) ≡ o → LeadsTo es d k ⊎ (LeadsTo es d k → ⊥)
    by_id None none = inr (λ (i, o, h). absurd (let e : ◌≡◌ {A = Option (List ℕ)} None (Some i) = sym none ∙ o in cc))
    by_id (Some id) one = by_entry id (slice_get es k) one refl

-- ---- the object of an id

pub find_at : (es : List DictionaryEntry) (k : ℕ) (e : DictionaryEntry) → Apart (ids_of es) → slice_get es k ≡ Some e → find_entry e.id es ≡ Some e.object
find_at [] k e apart at = absurd cc
find_at (x ∷ es) zero e apart at =
    let same : x ≡ e = some_some x e at in
    let here : bytes_eq x.id e.id ≡ true = (bytes_eq-Decides x.id e.id).1 (ap (λ (y : DictionaryEntry). y.id) same) in
    rw here (ap (λ (y : DictionaryEntry). Some y.object) same)
find_at (x ∷ es) (suc k) e apart at = go (bytes_eq x.id e.id) refl (find_at es k e (λ i j d l h. apart (suc i) (suc j) d (omega arith) (omega arith)) at)
  where
    go : (b : Bool) → bytes_eq x.id e.id ≡ b → find_entry e.id es ≡ Some e.object → find_entry e.id (x ∷ es) ≡ Some e.object
    go false t later = rw t later
    go true t later = absurd (not_before (x ∷ es) 0 (suc k) e.id apart (x, refl, (bytes_eq-Decides x.id e.id).0 t) (e, at, refl) (omega arith))
