-- What a look-up in the map of a repository says of the objects and their ids.
use Rattle.std.proofs.Common.{◌≡◌, ℕ, ◌↔◌, Bool, true, false, cond, true≢false, List, [], ◌∷◌, ◌++◌, Option, None, Some, IsSome, IfSome, is_some, unwrap_or, Contains, Vec, refl, sym, ap, ◌∙◌, inl, inr, arith, Bor}
use Rattle.std.proofs.lemmas.List.{map-append}
use Rattle.std.proofs.lemmas.List.Elements.{Contains-append_right, Contains-append_cases, Contains-push_cases}
use Rattle.std.proofs.lemmas.Slice.Eq.{bytes_eq-Decides}
use Rattle.std.specs.declared.alloc.Global.{Global}
use Rattle.std.specs.Map.{lookup}
use Rattle.std.specs.Option.{option_copied}
use Rattle.std.specs.Str.{bytes_eq}
use Rattle.std.specs.Prelude.{position, map, slice_get}
use Rattle.std.proofs.lemmas.List.Quantifiers.{position-Some}
use Rattle.std.proofs.lemmas.List.{length-map, get_or-map}
use Rattle.std.proofs.Common.{suc, zero, length, get_or, subst, ◌<◌}
use Rattle.indexmap.specs.IndexMap.{IndexMap, get, insert_entry}
use Rattle.indexmap.proofs.CallerLemmas.{insert_entry-new}
use Rattle.repo_objects.specs.declared.objects.Object.{Object}
use Rattle.repo_objects.specs.Repository.{DictionaryEntry, HasId, HasIdAt}
use Rattle.repo_objects.specs.Stored.{stored_entry, entries_of}

-- what the map stores
abbrev pub Stored : Type 0
Stored = Vec ℕ Global × Object

-- the key has that id
abbrev pub named : List ℕ → Vec ℕ Global → Bool
named id key = bytes_eq id key.items

-- an object that is found stands in the list under that id
pub found_there : (id : List ℕ) (stored : List Stored) (object : Object) → lookup (named id) stored ≡ Some object
    → Contains (entries_of stored) (record { id = id; object = object })
found_there id [] object h = absurd (true≢false (sym (ap is_some h)))
found_there id (e ∷ es) object h = by (named id e.0) refl h (found_there id es object)
  where
    entry : DictionaryEntry
    entry = record { id = id; object = object }

    by : (b : Bool) → named id e.0 ≡ b → cond b (Some e.1) (lookup (named id) es) ≡ Some object
        → (lookup (named id) es ≡ Some object → Contains (entries_of es) entry) → Contains (entries_of (e ∷ es)) entry
    by true is h later =
        let same_id : e.0.items ≡ id = sym ((bytes_eq-Decides id e.0.items).0 is) in
        let same : e.1 ≡ object = ap (λ r. unwrap_or r e.1) h in
        (0, omega arith, λ i. record { id = same_id i; object = same i })
    by false is h later = Contains-append_right (stored_entry e ∷ []) (entries_of es) entry (later h)

-- so some object has that id
pub found_id : (id : List ℕ) (stored : List Stored) → is_some (lookup (named id) stored) ≡ true → HasId (entries_of stored) id
found_id id [] h = absurd (true≢false (sym h))
found_id id (e ∷ es) h = by (named id e.0) refl h (found_id id es)
  where
    by : (b : Bool) → named id e.0 ≡ b → is_some (cond b (Some e.1) (lookup (named id) es)) ≡ true
        → (is_some (lookup (named id) es) ≡ true → HasId (entries_of es) id) → HasId (entries_of (e ∷ es)) id
    by true is h later = (0, omega arith, sym ((bytes_eq-Decides id e.0.items).0 is))
    by false is h later = Contains-append_right (e.0.items ∷ []) _ id (later h)

-- an object that has that id is found
pub id_found : (id : List ℕ) (stored : List Stored) → HasId (entries_of stored) id → is_some (lookup (named id) stored) ≡ true
id_found id [] h = absurd (omega (arith, h.1))
id_found id (e ∷ es) h = by (named id e.0) refl (id_found id es)
  where
    rest : named id e.0 ≡ false → HasId (entries_of es) id
    rest is =
        elim (Contains-append_cases (e.0.items ∷ []) _ id h) [
          | inl first ↦
              elim (Contains-push_cases [] e.0.items id first) [
                | inl none ↦ absurd (omega (arith, none.1))
                | inr same ↦ absurd (true≢false (sym ((bytes_eq-Decides id e.0.items).1 (sym same)) ∙ is))
              ]
          | inr later ↦ later
        ]

    by : (b : Bool) → named id e.0 ≡ b → (HasId (entries_of es) id → is_some (lookup (named id) es) ≡ true)
        → is_some (cond b (Some e.1) (lookup (named id) es)) ≡ true
    by true is later = refl
    by false is later = later (rest is)

-- what a look-up gives is the object with that id
pub found_of_result : (id : List ℕ) (stored : List Stored) (result : Option (Bor Object)) → option_copied result ≡ lookup (named id) stored
    → IfSome result (λ o. Contains (entries_of stored) (record { id = id; object = o.now }))
found_of_result id stored None h = tt
found_of_result id stored (Some o) h = found_there id stored o.now (sym h)

-- and it gives one exactly where there is one
pub there_of_result : (id : List ℕ) (stored : List Stored) (result : Option (Bor Object)) → option_copied result ≡ lookup (named id) stored
    → IsSome result ↔ HasId (entries_of stored) id
there_of_result id stored None h = (λ some. absurd (true≢false (sym some)), λ has. ap is_some h ∙ id_found id stored has)
there_of_result id stored (Some o) h = (λ _. found_id id stored (sym (ap is_some h)), λ _. refl)

-- two keys have the same bytes
abbrev pub same_bytes : Vec ℕ Global → Vec ℕ Global → Bool
same_bytes one other = bytes_eq one.items other.items

-- an insert under an id that no object has goes to the end
pub inserted_last : {S : Type 0} (dictionary : IndexMap (Vec ℕ Global) Object S) (id : Vec ℕ Global) (object : Object)
    → (HasId (entries_of dictionary.entries) id.items → ⊥)
    → entries_of (insert_entry same_bytes dictionary.entries id object)
    ≡ entries_of dictionary.entries ++ record { id = id.items; object = object } ∷ []
inserted_last dictionary id object new =
    ap entries_of (insert_entry-new same_bytes dictionary id object (none_of (get same_bytes dictionary id) (λ some. new (found_id id.items dictionary.entries some))))
    ∙ map-append stored_entry dictionary.entries ((id, object) ∷ [])
  where
    none_of : (r : Option Object) → (is_some r ≡ true → ⊥) → r ≡ None
    none_of None h = refl
    none_of (Some x) h = absurd (h refl)

-- a place that is found is that of an object with that id
pub placed_at : (id : List ℕ) (stored : List Stored) (k : ℕ) → position (named id) (map (λ (e : Stored). e.0) stored) ≡ Some k → HasIdAt (entries_of stored) k id
placed_at id [] k h = absurd (true≢false (sym (ap is_some h)))
placed_at id (e ∷ es) k h =
    let keys = map (λ (e : Stored). e.0) (e ∷ es) in
    let at = position-Some (named id) keys k e.0 h in
    let within : k < length (e ∷ es) = subst (λ n. k < n) (length-map (e ∷ es) (λ (e : Stored). e.0)) at.0 in
    let stored = get_or (e ∷ es) k e in
    let key : get_or keys k e.0 ≡ stored.0 = get_or-map (λ (e : Stored). e.0) (e ∷ es) k e e.0 within in
    (stored_entry stored, there (e ∷ es) k e within, sym ((bytes_eq-Decides id stored.0.items).0 (subst (λ v. named id v ≡ true) key at.1)))
  where
    there : (xs : List Stored) (k : ℕ) (d : Stored) → k < length xs → slice_get (entries_of xs) k ≡ Some (stored_entry (get_or xs k d))
    there [] k d l = absurd (omega (arith, l))
    there (x ∷ xs) zero d l = refl
    there (x ∷ xs) (suc k) d l = there xs k d (omega (arith, l))

pub place_of_result : (id : List ℕ) (stored : List Stored) (result : Option ℕ) → result ≡ position (named id) (map (λ (e : Stored). e.0) stored)
    → IfSome result (λ k. HasIdAt (entries_of stored) k id)
place_of_result id stored None h = tt
place_of_result id stored (Some k) h = placed_at id stored k (sym h)
