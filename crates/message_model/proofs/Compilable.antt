-- What a message reaches that breaks no rule can be compiled.
use Rattle.std.proofs.Common.{◌≡◌, ℕ, zero, suc, ◌<◌, List, [], ◌∷◌, length, get_or, Option, Some, None, refl, sym, ap, subst, ◌∙◌, arith, inl, inr}
use Rattle.std.specs.Prelude.{slice_get, Contains, AllPairs}
use Rattle.std.proofs.lemmas.Option.{slice_get_within, get_or_from_slice_get, slice_get-get_or, slice_get_read, same_Some}
use Rattle.repo_objects.specs.declared.objects.ElementDef.{ElementDef}
use Rattle.repo_objects.specs.declared.objects.MessageDef.{MessageDef}
use Rattle.repo_objects.specs.declared.objects.Object.{Object}
use Rattle.repo_objects.specs.Repository.{DictionaryEntry, Contents, IsRepository}
use Rattle.reference_check.specs.declared.reached.Reach.{Reach}
use Rattle.reference_check.specs.Graph.{Place, message, entry, references, find_entry, find_message}
use Rattle.reference_check.specs.Reach.{Reaches, itself, element, currency, elements_of, elements_or_none, blocks_or_none, currency_or_none, rank_of}
use Rattle.reference_check.specs.Reached.{HasReach}
use Rattle.reference_check.specs.Rules.{Breaks, Dangling, NotOneReference, LeftOutKind}
use Rattle.message_model.specs.Ready.{IsReady, OnObjects, BadFacets}
use Rattle.message_model.specs.Compiled.{IsReachedList}
use Rattle.message_model.specs.inner.Numbers.{StandsAmong, NamesPlace, NamePlaces, IsCompilable, AreCompilable, ids_at}
use Rattle.message_model.proofs.Places.{found_entry, finds_at, ranks_at}
use Rattle.message_model.proofs.Numbering.{ids_get, stands_get}

pub contains_at : {A : Type 0} (xs : List A) (x : A) → Contains xs x → (i : ℕ) × (slice_get xs i ≡ Some x)
contains_at xs x (i, lt, h) = (i, slice_get_read xs (length xs) i x refl lt (sym h))

pub at_contains : {A : Type 0} (xs : List A) (x : A) (i : ℕ) → slice_get xs i ≡ Some x → Contains xs x
at_contains xs x i h = (i, slice_get_within xs i x h, get_or_from_slice_get xs i x x h)

-- where a reached object does not stand in the repository, what refers to it breaks a rule
pub referrer : (R : Contents) (m : List ℕ) {p : Place} → Reaches R m p → (id : List ℕ) → p ≡ entry id → find_entry id R.objects ≡ None → (q : Place) × Reaches R m q × Breaks R m Dangling q
referrer R m itself id k none = absurd cc
referrer R m (element {p = p} {e = e} {id = i} reach inside names) id k none =
    let same : i ≡ id = cc in
    (p, reach, inl (e, i, inside, names, ap (λ x. find_entry x R.objects) same ∙ none))
referrer R m (currency {p = p} {id = i} reach is) id k none =
    let same : i ≡ id = cc in
    (p, reach, inr (i, is, ap (λ x. find_entry x R.objects) same ∙ none))

module _ (R : Contents) (m : List ℕ) (ready : IsReady R m) where
  -- what is reached stands in the repository
  stands_if : (id : List ℕ) → Reaches R m (entry id) → find_entry id R.objects ≡ None → ⊥
  stands_if id reach none = (let r = referrer R m reach id refl none in ready (OnObjects Dangling) r.0 r.1 r.2)

  pub object_there : (id : List ℕ) → Reaches R m (entry id) → (o : Object) × (find_entry id R.objects ≡ Some o)
  object_there id reach = by (find_entry id R.objects) refl
    where
      by : (o : Option Object) → find_entry id R.objects ≡ o → (x : Object) × (find_entry id R.objects ≡ Some x)
      by None h = absurd (stands_if id reach h)
      by (Some x) h = (x, h)

  module _ (whole : IsRepository R) (r : Reach) (has : HasReach R m r) where
    pub stands : (id : List ℕ) → Reaches R m (entry id) → StandsAmong R.objects r.objects id
    stands id reach =
        let found = object_there id reach in
        let at = found_entry R.objects id found.0 found.1 in
        let i = contains_at r.objects at.0 ((has.reached at.0 (record { id = id; object = found.0 }) at.1).1 reach) in
        record { position = i.0; place = at.0; object = found.0; there = i.1; found = at.1 }

    pub names : (p : Place) (e : ElementDef) → Reaches R m p → Contains (elements_of R m p) e → NamesPlace R.objects r.objects e
    names p e reach inside = by (references e) refl
      where
        by : (ids : List (List ℕ)) → references e ≡ ids → NamesPlace R.objects r.objects e
        by [] h = absurd (ready (OnObjects NotOneReference) p reach (e, inside, λ one. omega (arith, one, ap length h)))
        by (id ∷ []) h =
            let named : Contains (references e) id = subst (λ ids. Contains ids id) (sym h) (0, omega arith, refl) in
            record { id = id; one = h; stands = stands id (element reach inside named) }
        by (id ∷ (other ∷ ids)) h = absurd (ready (OnObjects NotOneReference) p reach (e, inside, λ one. omega (arith, one, ap length h)))

    pub blocks_name : (d : MessageDef) → find_message m R.messages ≡ Some d → NamePlaces R.objects r.objects d.blocks
    blocks_name d first e inside = names message e itself (subst (λ o. Contains (blocks_or_none o) e) (sym first) inside)

    pub compilable : (k : ℕ) (e : DictionaryEntry) → Contains r.objects k → slice_get R.objects k ≡ Some e → IsCompilable R r.objects e.object
    compilable k e inside at =
        let reach : Reaches R m (entry e.id) = (has.reached k e at).0 inside in
        let found : find_entry e.id R.objects ≡ Some e.object = finds_at R whole k e at in
        record {
          elements = λ d here. names (entry e.id) d reach (subst (λ o. Contains (elements_or_none o) d) (sym found) here);
          currency = λ c here. stands c (currency reach (ap currency_or_none found ∙ here));
          facets = λ bad. ready BadFacets (entry e.id) reach (e.id, e.object, refl, found, bad);
          kind = λ other. ready (OnObjects LeftOutKind) (entry e.id) reach (e.id, e.object, refl, found, inl other);
        }

    pub all_compilable : AreCompilable R r.objects
    all_compilable = record { within = has.within; each = compilable }

    entry_at : (k : ℕ) → k < length R.objects → (e : DictionaryEntry) × (slice_get R.objects k ≡ Some e)
    entry_at k lt = by (slice_get R.objects k) refl
      where
        by : (o : Option DictionaryEntry) → slice_get R.objects k ≡ o → (e : DictionaryEntry) × (slice_get R.objects k ≡ Some e)
        by None h = absurd (none R.objects k lt h)
          where
            none : (es : List DictionaryEntry) (k : ℕ) → k < length es → slice_get es k ≡ None → ⊥
            none [] k lt h = omega arith
            none (e ∷ es) zero lt h = cc
            none (e ∷ es) (suc k) lt h = none es k (omega arith) h
        by (Some e) h = (e, h)

    -- the place that stands there in the list, and its entry
    listed : (i : ℕ) (id : List ℕ) → slice_get (ids_at R.objects r.objects) i ≡ Some id
        → (k : ℕ) × (e : DictionaryEntry) × (slice_get r.objects i ≡ Some k) × (slice_get R.objects k ≡ Some e) × (e.id ≡ id)
    listed i id h = by (slice_get r.objects i) refl
      where
        past : (places : List ℕ) (i : ℕ) → slice_get places i ≡ None → slice_get (ids_at R.objects places) i ≡ None
        past [] i g = refl
        past (p ∷ places) zero g = absurd cc
        past (p ∷ places) (suc i) g = past places i g

        by : (o : Option ℕ) → slice_get r.objects i ≡ o → (k : ℕ) × (e : DictionaryEntry) × (slice_get r.objects i ≡ Some k) × (slice_get R.objects k ≡ Some e) × (e.id ≡ id)
        by None g = (let none = past r.objects i g in absurd cc)
        by (Some k) g =
            let inside : get_or r.objects i k ≡ k = get_or_from_slice_get r.objects i k k g in
            let below : k < length R.objects = subst (λ n. n < length R.objects) inside (has.within i k (slice_get_within r.objects i k g)) in
            let e = entry_at k below in
            (k, e.0, g, e.1, same_Some e.0.id id (sym (ids_get R.objects r.objects i k e.0 g e.1) ∙ h))

    pub reached_list : IsReachedList R m (ids_at R.objects r.objects)
    reached_list = record { ordered = ordered; reached = λ id. (from id, to id) }
      where
        ids : List (List ℕ)
        ids = ids_at R.objects r.objects

        ordered : AllPairs (λ a b. rank_of R (entry a) < rank_of R (entry b)) (ids_at R.objects r.objects)
        ordered i j d lt below =
            let ids = ids_at R.objects r.objects in
            let a = listed i (get_or ids i d) (slice_get-get_or ids i d (omega (arith, below))) in
            let b = listed j (get_or ids j d) (slice_get-get_or ids j d below) in
            let ra : rank_of R (entry (get_or ids i d)) ≡ a.0 = ap (λ x. rank_of R (entry x)) (sym a.4) ∙ ranks_at R whole a.0 a.1 a.3 in
            let rb : rank_of R (entry (get_or ids j d)) ≡ b.0 = ap (λ x. rank_of R (entry x)) (sym b.4) ∙ ranks_at R whole b.0 b.1 b.3 in
            let up = has.rising i j 0 lt (slice_get_within r.objects j b.0 b.2) in
            let ia = get_or_from_slice_get r.objects i a.0 0 a.2 in
            let ib = get_or_from_slice_get r.objects j b.0 0 b.2 in
            rw (ra, rb) (omega (arith, up, ia, ib))

        from : (id : List ℕ) → Contains (ids_at R.objects r.objects) id → Reaches R m (entry id)
        from id inside =
            let i = contains_at (ids_at R.objects r.objects) id inside in
            let k = listed i.0 id i.1 in
            subst (λ x. Reaches R m (entry x)) k.4 ((has.reached k.0 k.1 k.3).0 (at_contains r.objects k.0 i.0 k.2))

        to : (id : List ℕ) → Reaches R m (entry id) → Contains (ids_at R.objects r.objects) id
        to id reach =
            let s = stands id reach in
            at_contains (ids_at R.objects r.objects) id s.position (stands_get R.objects r.objects id s)
