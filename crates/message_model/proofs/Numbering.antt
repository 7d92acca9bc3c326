-- The numbers of types, and the places that they stand for.
use Rattle.std.proofs.Common.{◌≡◌, ℕ, zero, suc, ◌+◌, List, [], ◌∷◌, map, Some, None, sym, ap, ◌∙◌, arith}
use Rattle.std.specs.Prelude.{slice_get}
use Rattle.std.specs.Option.{option_map}
use Rattle.std.proofs.lemmas.Option.{slice_get-map, same_Some}
use Rattle.repo_objects.specs.Repository.{DictionaryEntry, Contents, IsRepository, HasIdAt, entry_id}
use Rattle.reference_check.specs.Graph.{entry}
use Rattle.message_model.specs.Compiled.{place_of, place_or_nowhere}
use Rattle.message_model.specs.inner.Numbers.{AreNumbers, StandsAmong, ids_at}
use Rattle.message_model.proofs.Places.{same_place}

-- the id that stands at a place of the list
pub ids_get : (es : List DictionaryEntry) (places : List ℕ) (i k : ℕ) (e : DictionaryEntry) → slice_get places i ≡ Some k → slice_get es k ≡ Some e → slice_get (ids_at es places) i ≡ Some e.id
ids_get es [] i k e h g = absurd cc
ids_get es (p ∷ places) zero k e h g =
    let same : p ≡ k = same_Some p k h in
    ap (λ o. Some (entry_id o)) (ap (slice_get es) same ∙ g)
ids_get es (p ∷ places) (suc i) k e h g = ids_get es places i k e h g

-- the types of objects have numbers from 2 on
pub place_behind : (ids : List (List ℕ)) (i : ℕ) (id : List ℕ) → slice_get ids i ≡ Some id → place_of ids (i + 2) ≡ entry id
place_behind ids i id h =
    let number : i + 2 ≡ suc (suc i) = omega arith in
    let at : slice_get (map entry ids) i ≡ Some (entry id) = slice_get-map entry ids i ∙ ap (option_map entry) h in
    rw number (ap place_or_nowhere at)

pub stands_get : (es : List DictionaryEntry) (places : List ℕ) (id : List ℕ) (s : StandsAmong es places id) → slice_get (ids_at es places) s.position ≡ Some id
stands_get es places id s = ids_get es places s.position s.place (record { id = id; object = s.object }) s.there s.found

-- the number that is kept for an object is that of its type
pub numbered : (R : Contents) (whole : IsRepository R) (places numbers : List ℕ) (id : List ℕ) (k n : ℕ) → AreNumbers places numbers → StandsAmong R.objects places id
    → HasIdAt R.objects k id → slice_get numbers k ≡ Some n → place_of (ids_at R.objects places) n ≡ entry id
numbered R whole places numbers id k n are s (e, at, named) h =
    let same : k ≡ s.place = same_place R whole k s.place e (record { id = id; object = s.object }) at s.found named in
    let kept : slice_get numbers k ≡ Some (s.position + 2) = ap (slice_get numbers) same ∙ are s.position s.place s.there in
    let number : n ≡ s.position + 2 = same_Some n (s.position + 2) (sym h ∙ kept) in
    ap (place_of (ids_at R.objects places)) number ∙ place_behind (ids_at R.objects places) s.position id (stands_get R.objects places id s)

-- each place of the list has a number
pub has_number : (R : Contents) (whole : IsRepository R) (places numbers : List ℕ) (id : List ℕ) (k : ℕ) → AreNumbers places numbers → StandsAmong R.objects places id
    → HasIdAt R.objects k id → slice_get numbers k ≡ None → ⊥
has_number R whole places numbers id k are s (e, at, named) h =
    let same : k ≡ s.place = same_place R whole k s.place e (record { id = id; object = s.object }) at s.found named in
    let kept : slice_get numbers k ≡ Some (s.position + 2) = ap (slice_get numbers) same ∙ are s.position s.place s.there in
    cc
