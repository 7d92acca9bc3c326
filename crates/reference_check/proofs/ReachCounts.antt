-- How many objects are reached, and which sizes break the rule on them.
use Rattle.std.proofs.Common.{◌≡◌, ℕ, ◌<◌, ◌≤◌, ◌⊎◌, inl, inr, true, true≢false, List, [], length, map, get_or, Option, Some, None, is_some, Contains, refl, sym, ap, subst, ◌∙◌, arith}
use Rattle.std.specs.Prelude.{slice_get}
use Rattle.std.specs.List.{list_any, IsDistinct}
use Rattle.std.specs.Str.{bytes_eq}
use Rattle.std.proofs.lemmas.Cmp.{nat_list_eq_equiv}
use Rattle.std.proofs.lemmas.List.{length-map, get_or-map}
use Rattle.std.proofs.lemmas.Map.Views.{list_any-from_Contains, Contains-from_any}
use Rattle.std.proofs.lemmas.Map.Keys.{IsDistinct-from_apart}
use Rattle.std.proofs.lemmas.Map.Made.{length-le_from_is_member}
use Rattle.std.proofs.lemmas.Option.{slice_get_cases, slice_get_within, get_or_from_slice_get, slice_get-get_or}
use Rattle.std.proofs.lemmas.Slice.Eq.{bytes_eq-Decides}
use Rattle.lexical_core.proofs.EqualBytes.{other_bytes}
use Rattle.repo_objects.specs.declared.objects.MessageDef.{MessageDef}
use Rattle.repo_objects.specs.declared.objects.Object.{Object}
use Rattle.repo_objects.specs.Repository.{DictionaryEntry, Contents, IsRepository, ids_of, entry_id}
use Rattle.reference_check.specs.declared.reached.Reach.{Reach}
use Rattle.reference_check.specs.Graph.{document, message, entry, nowhere, find_entry}
use Rattle.reference_check.specs.Reach.{Reaches, elements_or_none, blocks_or_none}
use Rattle.reference_check.specs.Reached.{HasReach}
use Rattle.reference_check.specs.Rules.{AreReached, TooMany, Breaks, HasTooMuch}
use Rattle.reference_check.specs.inner.Sizes.{IsTooLarge}
use Rattle.reference_check.proofs.FirstPlaces.{Stands, as_message, as_object, BreaksWhereItStands, ranked, same_default, stands_as_object, of_object, no_message}
use Rattle.reference_check.proofs.Lists.{item_of}
use Rattle.reference_check.proofs.Lookups.{find_at}

-- ---- the ids of places

abbrev id_at : Contents → ℕ → List ℕ
id_at R k = entry_id (slice_get R.objects k)

pub entry_within : (es : List DictionaryEntry) (k : ℕ) → k < length es → (e : DictionaryEntry) × (slice_get es k ≡ Some e)
entry_within es k l =
    elim ((slice_get_cases es k).1) [
      | inl here ↦ (here.0, here.2)
      | inr past ↦ absurd (omega (arith, past.0, l))
    ]

-- places of the dictionary have different ids
pub other_ids : (R : Contents) (k l : ℕ) (a b : DictionaryEntry) → IsRepository R → slice_get R.objects k ≡ Some a → slice_get R.objects l ≡ Some b → k < l → a.id ≡ b.id → ⊥
other_ids R k l a b whole first second less same =
    whole.distinct k l [] less (subst (λ n. l < n) (sym (length-map R.objects (λ (v : DictionaryEntry). v.id))) (slice_get_within R.objects l b second)) (at k a first ∙ same ∙ sym (at l b second))
  where
    at : (i : ℕ) (e : DictionaryEntry) → slice_get R.objects i ≡ Some e → get_or (ids_of R.objects) i [] ≡ e.id
    at i e there =
        get_or-map (λ (v : DictionaryEntry). v.id) R.objects i e [] (slice_get_within R.objects i e there) ∙ ap (λ (v : DictionaryEntry). v.id) (get_or_from_slice_get R.objects i e e there)

-- ---- the ids of what is reached

-- the entry behind an id of a list of places
record IsIdOf (R : Contents) (ks : List ℕ) (i : ℕ) (id : List ℕ) : Type 0 where
  within : i < length ks
  stored : DictionaryEntry
  there : slice_get R.objects (get_or ks i 0) ≡ Some stored
  id_is : id ≡ stored.id

id_behind : (R : Contents) (ks : List ℕ) (i : ℕ) (id : List ℕ) → ((j : ℕ) → j < length ks → get_or ks j 0 < length R.objects) → slice_get (map (id_at R) ks) i ≡ Some id → IsIdOf R ks i id
id_behind R ks i id all at =
    let within : i < length ks = subst (λ n. i < n) (length-map ks (id_at R)) (slice_get_within (map (id_at R) ks) i id at) in
    let (stored, there) = entry_within R.objects (get_or ks i 0) (all i within) in
    record { within = within; stored = stored; there = there; id_is = sym (get_or_from_slice_get (map (id_at R) ks) i id [] at) ∙ get_or-map (id_at R) ks i 0 [] within ∙ ap entry_id there }

pub reached_ids : (R : Contents) (m : List ℕ) (r : Reach) → IsRepository R → HasReach R m r → AreReached R m (map (id_at R) r.objects)
reached_ids R m r whole has = (apart, each)
  where
    all : (j : ℕ) → j < length r.objects → get_or r.objects j 0 < length R.objects
    all j l = has.within j 0 l

    apart : (i j : ℕ) (a : List ℕ) → i < j → slice_get (map (id_at R) r.objects) i ≡ Some a → slice_get (map (id_at R) r.objects) j ≡ Some a → ⊥
    apart i j a less first second =
        let one = id_behind R r.objects i a all first in
        let other = id_behind R r.objects j a all second in
        other_ids R (get_or r.objects i 0) (get_or r.objects j 0) one.stored other.stored whole one.there other.there (has.rising i j 0 less other.within) (sym one.id_is ∙ other.id_is)

    each : (id : List ℕ) → Contains (map (id_at R) r.objects) id → Reaches R m (entry id) × (find_entry id R.objects ≡ None → ⊥)
    each id among =
        let (i, l, at) = item_of (map (id_at R) r.objects) id among in
        let one = id_behind R r.objects i id all at in
        let reached : Reaches R m (entry one.stored.id) = (has.reached (get_or r.objects i 0) one.stored one.there).0 (i, one.within, same_place i one.within) in
        let found : find_entry one.stored.id R.objects ≡ Some one.stored.object = find_at R.objects (get_or r.objects i 0) one.stored whole.distinct one.there in
        (subst (λ v. Reaches R m (entry v)) (sym one.id_is) reached, λ none. true≢false (sym (ap is_some (sym none ∙ ap (λ v. find_entry v R.objects) one.id_is ∙ found))))
      where
        same_place : (i : ℕ) → i < length r.objects → get_or r.objects i (get_or r.objects i 0) ≡ get_or r.objects i 0
        same_place i l = same_default r.objects i (get_or r.objects i 0) 0 l

-- no list of ids of what is reached is longer
pub no_more_ids : (R : Contents) (m : List ℕ) (r : Reach) (ids : List (List ℕ)) → HasReach R m r → AreReached R m ids → length ids ≤ length r.objects
no_more_ids R m r ids has (apart, each) =
    subst (λ n. length ids ≤ n) (length-map r.objects (id_at R)) (length-le_from_is_member nat_list_eq_equiv ids (map (id_at R) r.objects) distinct member)
  where
    distinct : IsDistinct bytes_eq ids
    distinct =
        IsDistinct-from_apart bytes_eq ids (λ i j d less within.
        other_bytes (get_or ids i d) (get_or ids j d) (λ same.
        apart i j (get_or ids j d) less (slice_get-get_or ids i d (omega (arith, less, within)) ∙ ap Some same) (slice_get-get_or ids j d within)))

    found : (q : List ℕ) (o : Option Object) → find_entry q R.objects ≡ o → Reaches R m (entry q) → (find_entry q R.objects ≡ None → ⊥) → Contains (map (id_at R) r.objects) q
    found q None is reached there = absurd (there is)
    found q (Some o) is reached there =
        let (k, rank, place, e, at, id) = ranked R q o is in
        let (j, l, here) = (has.reached k e at).1 (subst (λ v. Reaches R m (entry v)) (sym id) reached) in
        (j, subst (λ n. j < n) (sym (length-map r.objects (id_at R))) l, get_or-map (id_at R) r.objects j k q l ∙ ap (id_at R) here ∙ ap entry_id at ∙ id)

    member : (q : List ℕ) → list_any (bytes_eq q) ids ≡ true → list_any (bytes_eq q) (map (id_at R) r.objects) ≡ true
    member q h =
        let (reached, there) = each q (Contains-from_any (λ x y. (bytes_eq-Decides x y).0) q ids h) in
        list_any-from_Contains nat_list_eq_equiv q (map (id_at R) r.objects) (found q (find_entry q R.objects) refl reached there)

-- ---- the rule

pub many_stands : (R : Contents) (m : List ℕ) → BreaksWhereItStands R m TooMany
many_stands R m document (inl h) = absurd (omega (arith, h))
many_stands R m message (inl h) = as_message
many_stands R m nowhere (inl h) = absurd (omega (arith, h))
many_stands R m (entry id) (inl h) = by (find_entry id R.objects) refl h
  where
    by : (r : Option Object) → find_entry id R.objects ≡ r → 4096 < length (elements_or_none r) → Stands R (entry id)
    by None is h = absurd (omega (arith, h))
    by (Some o) is h = as_object id o is
many_stands R m p (inr (inl h)) = stands_as_object R (HasTooMuch R) p h
many_stands R m p (inr (inr h)) = subst (Stands R) (sym h.0) as_message

-- an object breaks it where it has too much
pub many_of_object : (R : Contents) (m id : List ℕ) (o : Object) → find_entry id R.objects ≡ Some o → Breaks R m TooMany (entry id) → IsTooLarge R o
many_of_object R m id o found (inl h) = inl (subst (λ r. 4096 < length (elements_or_none r)) found h)
many_of_object R m id o found (inr (inl h)) = inr (of_object R id o (HasTooMuch R) found h)
many_of_object R m id o found (inr (inr h)) = absurd (no_entry (h.0))
  where
    no_entry : entry id ≡ message → ⊥
    no_entry e = cc

pub object_of_many : (R : Contents) (m id : List ℕ) (o : Object) → find_entry id R.objects ≡ Some o → IsTooLarge R o → Breaks R m TooMany (entry id)
object_of_many R m id o found (inl h) = inl (subst (λ r. 4096 < length (elements_or_none r)) (sym found) h)
object_of_many R m id o found (inr h) = inr (inl (id, o, refl, found, h))

-- the message breaks it where it has too many blocks or reaches too much
pub many_of_message : (R : Contents) (m : List ℕ) (r : Reach) (d : MessageDef) → HasReach R m r → slice_get R.messages r.message ≡ Some d → Breaks R m TooMany message
    → (4096 < length d.blocks) ⊎ (65536 < length r.objects)
many_of_message R m r d has at (inl h) = inl (subst (λ v. 4096 < length (blocks_or_none v)) (has.first ∙ sym has.message_is ∙ at) h)
many_of_message R m r d has at (inr (inl h)) = absurd (no_message R (HasTooMuch R) h)
many_of_message R m r d has at (inr (inr (is, ids, reached, many))) = inr (let most = no_more_ids R m r ids has reached in omega (arith, most, many))

pub message_of_many : (R : Contents) (m : List ℕ) (r : Reach) (d : MessageDef) → IsRepository R → HasReach R m r → slice_get R.messages r.message ≡ Some d
    → (4096 < length d.blocks) ⊎ (65536 < length r.objects) → Breaks R m TooMany message
message_of_many R m r d whole has at (inl h) = inl (subst (λ v. 4096 < length (blocks_or_none v)) (sym (has.first ∙ sym has.message_is ∙ at)) h)
message_of_many R m r d whole has at (inr h) = inr (inr (refl, map (id_at R) r.objects, reached_ids R m r whole has, subst (λ n. 65536 < n) (sym (length-map r.objects (id_at R))) h))
