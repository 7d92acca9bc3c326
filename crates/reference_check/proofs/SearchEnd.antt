-- The beginning of the search for the reached objects that have a finite instance, and what it has found at its end.
use Rattle.std.proofs.Common.{◌≡◌, ℕ, zero, suc, ◌<◌, Bool, true, false, List, [], ◌∷◌, length, map, Option, Some, None, refl, sym, ap, ◌∙◌, subst, arith, ◌⊎◌, inl, inr}
use Rattle.std.specs.Prelude.{slice_get, Contains}
use Rattle.std.specs.List.{AllByRecursion}
use Rattle.std.specs.Str.{bytes_eq}
use Rattle.std.proofs.lemmas.Option.{slice_get_within}
use Rattle.std.proofs.lemmas.Slice.Eq.{bytes_eq-Decides}
use Rattle.repo_objects.specs.declared.objects.ElementDef.{ElementDef}
use Rattle.repo_objects.specs.declared.objects.MessageDef.{MessageDef}
use Rattle.repo_objects.specs.declared.objects.Object.{Object}
use Rattle.repo_objects.specs.declared.objects.ObjectKind.{ObjectKind}
use Rattle.repo_objects.specs.declared.objects.ObjectKind.TheVariants.{Component, Choice}
use Rattle.repo_objects.specs.Repository.{DictionaryEntry, Contents, ids_of, IsRepository}
use Rattle.reference_check.specs.declared.breaker.Breaker.TheVariants as breaker
use Rattle.reference_check.specs.declared.finite.Mark.{Mark}
use Rattle.reference_check.specs.declared.finite.Mark.TheVariants.{Unreached, Open, Finite}
use Rattle.reference_check.specs.declared.reached.Reach.{Reach}
use Rattle.reference_check.specs.Forms.{Slot, form_slots}
use Rattle.reference_check.specs.Graph.{Place, document, message, entry, nowhere, graph, one_of, slot_of, references, object_form, entry_form, message_form, find_entry}
use Rattle.reference_check.specs.Shapes.{IsFinite, IsReached, MayBeFound}
use Rattle.reference_check.specs.Reach.{Reaches, itself, element, currency, rank_of}
use Rattle.reference_check.specs.Reached.{HasReach}
use Rattle.reference_check.specs.Rules.{Dangling, Endless, HasNoEntry, IsSound, IsBelowEndless}
use Rattle.reference_check.specs.inner.First.{TellsFirst}
use Rattle.reference_check.specs.inner.FiniteSearch.{IsFoundAt, IsBlocked, SomeBlocked, HoldBack, IsStartMark, AreStart, IsReachedMark, IsSearch, HoldsReached, TellsFirstOpen, TellsMessage}
use Rattle.reference_check.proofs.FiniteForms.{finite_form}
use Rattle.reference_check.proofs.FiniteMarks.{finite_found, finite_marked}
use Rattle.reference_check.proofs.Decided.{bounds_in, form_bounds, one_reference}
use Rattle.reference_check.proofs.Targets.{Apart, some_some, only_target, one_place}
use Rattle.reference_check.proofs.Freed.{none_in}
use Rattle.reference_check.proofs.SearchSteps.{all_reached}
use Rattle.reference_check.proofs.Lookups.{rank_in}

-- ---- the beginning

slice_below : {A : Type 0} (xs : List A) (k : ℕ) → k < length xs → (x : A) × (slice_get xs k ≡ Some x)
slice_below [] k h = absurd (omega arith)
slice_below (x ∷ xs) zero h = (x, refl)
slice_below (x ∷ xs) (suc k) h = slice_below xs k (omega arith)

module _ (R : Contents) (m : List ℕ) (r : Reach) (has : HasReach R m r) where
  pub holds_reached : HoldsReached R m r.objects
  holds_reached k e at reach = (has.reached k e at).1 reach

  pub starts_search : (marks : List Mark) → IsRepository R → IsSound R m IsBelowEndless → length marks ≡ length R.objects → AreStart r.objects marks → IsSearch R m marks [] r.objects
  starts_search marks whole below size start = record {
    whole = whole;
    below = below;
    size = size;
    marked = marked';
    reached = reached';
    finite = λ k e at found. absurd (start k Finite found);
    free = λ k n e at got. λ i d l h is. absurd (let none : n ≡ 0 = (start k (Open n) got).0 in omega arith);
    held = λ k n e at got. inr (start k (Open n) got).1;
  }
    where
      marked' : (k : ℕ) (e : DictionaryEntry) → slice_get R.objects k ≡ Some e → Reaches R m (entry e.id) → (x : Mark) × (slice_get marks k ≡ Some x) × IsReachedMark x
      marked' k e at reach = go (slice_below marks k (let h : k < length R.objects = slice_get_within R.objects k e at in omega arith))
        where
          by : (x : Mark) → slice_get marks k ≡ Some x → IsStartMark r.objects k x → IsReachedMark x
          by Unreached got none = none (holds_reached k e at reach)
          by (Open n) got h = tt
          by Finite got h = tt

          go : ((x : Mark) × (slice_get marks k ≡ Some x)) → (x : Mark) × (slice_get marks k ≡ Some x) × IsReachedMark x
          go (x, got) = (x, got, by x got (start k x got))

      reached' : (k : ℕ) (e : DictionaryEntry) (x : Mark) → slice_get R.objects k ≡ Some e → slice_get marks k ≡ Some x → IsReachedMark x → Reaches R m (entry e.id)
      reached' k e x at got is = go x (start k x got) is
        where
          go : (x : Mark) → IsStartMark r.objects k x → IsReachedMark x → Reaches R m (entry e.id)
          go Unreached h is = absurd is
          go (Open n) h is = (has.reached k e at).0 h.1
          go Finite h is = absurd h

-- ---- the object of an id, by its place and its rank

find_back : (es : List DictionaryEntry) (id : List ℕ) (o : Object) → find_entry id es ≡ Some o → (k : ℕ) × (e : DictionaryEntry) × (slice_get es k ≡ Some e) × (e.id ≡ id) × (e.object ≡ o)
find_back [] id o h = absurd cc
find_back (x ∷ es) id o h = go (bytes_eq x.id id) refl (λ later. find_back es id o later)
  where
    go : (b : Bool) → bytes_eq x.id id ≡ b → (find_entry id es ≡ Some o → (k : ℕ) × (e : DictionaryEntry) × (slice_get es k ≡ Some e) × (e.id ≡ id) × (e.object ≡ o))
        → (k : ℕ) × (e : DictionaryEntry) × (slice_get (x ∷ es) k ≡ Some e) × (e.id ≡ id) × (e.object ≡ o)
    go true t later = (0, x, refl, (bytes_eq-Decides x.id id).0 t, some_some x.object o (rw t at h))
    go false t later = by (later (rw t at h))
      where
        by : (k : ℕ) × (e : DictionaryEntry) × (slice_get es k ≡ Some e) × (e.id ≡ id) × (e.object ≡ o) → (k : ℕ) × (e : DictionaryEntry) × (slice_get (x ∷ es) k ≡ Some e) × (e.id ≡ id) × (e.object ≡ o)
        by (k, e, at, same, is) = (suc k, e, at, same, is)

rank_at : (es : List DictionaryEntry) (k : ℕ) (e : DictionaryEntry) → Apart (ids_of es) → slice_get es k ≡ Some e → rank_in e.id es ≡ k
rank_at [] k e apart at = absurd cc
rank_at (x ∷ es) zero e apart at =
    let same : x ≡ e = some_some x e at in
    let here : bytes_eq x.id e.id ≡ true = (bytes_eq-Decides x.id e.id).1 (ap (λ (y : DictionaryEntry). y.id) same) in
    rw here refl
rank_at (x ∷ es) (suc k) e apart at = go (bytes_eq x.id e.id) refl (rank_at es k e (λ i j d l h. apart (suc i) (suc j) d (omega arith) (omega arith)) at)
  where
    go : (b : Bool) → bytes_eq x.id e.id ≡ b → rank_in e.id es ≡ k → rank_in e.id (x ∷ es) ≡ suc k
    go false t later = rw t (omega arith)
    go true t later = absurd (let q : 0 ≡ suc k = one_place (x ∷ es) 0 (suc k) e.id apart (x, refl, (bytes_eq-Decides x.id e.id).0 t) (e, at, refl) in omega arith)

-- ---- at the end

not_message : (ids : List (List ℕ)) → one_of ids ≡ message → ⊥
not_message [] e = cc
not_message (x ∷ []) e = cc
not_message (x ∷ y ∷ ids) e = cc

slot_back : (ds : List ElementDef) (k : ℕ) (s : Slot Place) → slice_get (map slot_of ds) k ≡ Some s → (d : ElementDef) × (slice_get ds k ≡ Some d) × (slot_of d ≡ s)
slot_back [] k s e = absurd cc
slot_back (d ∷ ds) zero s e = (d, refl, some_some (slot_of d) s e)
slot_back (d ∷ ds) (suc k) s e = slot_back ds k s e

module _ {R : Contents} {m : List ℕ} {marks : List Mark} (s : IsSearch R m marks [] []) where
  abbrev IsFoundPlace : Place → Type 0
  IsFoundPlace p = (k : ℕ) × (e : DictionaryEntry) × (slice_get R.objects k ≡ Some e) × (p ≡ entry e.id) × IsFoundAt marks k

  abbrev F : Place → Type 0
  F p = (p ≡ message) ⊎ IsFoundPlace p

  found_finite : (p : Place) → IsFoundPlace p → IsFinite (graph R m) p
  found_finite p (k, e, at, is, found) = subst (λ (q : Place). IsFinite (graph R m) q) (sym is) (s.finite k e at found)

  blocked_not : (d : ElementDef) → IsBlocked R.objects marks [] d → IsReached F (slot_of d) → ⊥
  blocked_not d (must, each) (inl none) = must none
  blocked_not d (must, each) (inr (inl is)) = not_message (references d) is
  blocked_not d (must, each) (inr (inr (k, e, at, is, found))) = none_in k (each k (e.id, only_target d e.id is, (e, at, refl)) found)

  some_not : (ds : List ElementDef) (i : ℕ) (d : ElementDef) → slice_get ds i ≡ Some d → IsBlocked R.objects marks [] d → AllByRecursion (IsReached F) (map slot_of ds) → ⊥
  some_not [] i d at blocked all = absurd cc
  some_not (x ∷ ds) zero d at blocked all = (let same : x ≡ d = some_some x d at in blocked_not d blocked (subst (λ (y : ElementDef). IsReached F (slot_of y)) same all.0))
  some_not (x ∷ ds) (suc i) d at blocked all = some_not ds i d at blocked all.1

  held_not : (o : Object) (kind : ObjectKind) → HoldBack R.objects marks [] kind o.elements → MayBeFound F (object_form R o kind) → ⊥
  held_not o Component (i, d, at, blocked) all = some_not o.elements i d at blocked all
  held_not o Choice h (k, t, at, reach) = go (slot_back o.elements k t at)
    where
      go : (d : ElementDef) × (slice_get o.elements k ≡ Some d) × (slot_of d ≡ t) → ⊥
      go (d, is, same) = blocked_not d (h k d is) (subst (λ (x : Slot Place). IsReached F x) (sym same) reach)
  held_not o kind h may = absurd h

  no_document : Reaches R m document → ⊥
  no_document h = elim h [ ]

  no_nowhere : Reaches R m nowhere → ⊥
  no_nowhere h = elim h [ ]

  -- a round finds no more
  stable : (p : Place) → Reaches R m p → MayBeFound F (graph R m p) → F p
  stable document reach may = absurd (no_document reach)
  stable message reach may = inl refl
  stable nowhere reach may = absurd may
  stable (entry id) reach may = go (find_entry id R.objects) refl
    where
      by_mark : (k : ℕ) (e : DictionaryEntry) (o : Object) → find_entry id R.objects ≡ Some o → slice_get R.objects k ≡ Some e → e.id ≡ id → e.object ≡ o → (x : Mark) → slice_get marks k ≡ Some x → IsReachedMark x → F (entry id)
      by_mark k e o found at same is Unreached got marked = absurd marked
      by_mark k e o found at same is Finite got marked = inr (k, e, at, ap entry (sym same), got)
      by_mark k e o found at same is (Open n) got marked = by_held (s.held k n e at got)
        where
          by_held : HoldBack R.objects marks [] e.object.kind e.object.elements ⊎ Contains [] k → F (entry id)
          by_held (inr h) = absurd (none_in k h)
          by_held (inl h) = absurd (held_not o o.kind (subst (λ (x : Object). HoldBack R.objects marks [] x.kind x.elements) is h) (subst (λ (x : Option Object). MayBeFound F (entry_form R x)) found may))

      by_place : (o : Object) → find_entry id R.objects ≡ Some o → ((k : ℕ) × (e : DictionaryEntry) × (slice_get R.objects k ≡ Some e) × (e.id ≡ id) × (e.object ≡ o)) → F (entry id)
      by_place o found (k, e, at, same, is) = with_mark (s.marked k e at (subst (λ (i : List ℕ). Reaches R m (entry i)) (sym same) reach))
        where
          with_mark : (x : Mark) × (slice_get marks k ≡ Some x) × IsReachedMark x → F (entry id)
          with_mark (x, got, marked) = by_mark k e o found at same is x got marked

      go : (o : Option Object) → find_entry id R.objects ≡ o → F (entry id)
      go None none = absurd (subst (λ (x : Option Object). MayBeFound F (entry_form R x)) none may)
      go (Some o) found = by_place o found (find_back R.objects id o found)

  finite_is_found : (p : Place) → Reaches R m p → IsFinite (graph R m) p → F p
  finite_is_found p reach finite = finite_marked R m F stable (one_reference R m s.below) p reach finite

  -- an open object has no finite instance
  open_endless : (k n : ℕ) (e : DictionaryEntry) → slice_get R.objects k ≡ Some e → slice_get marks k ≡ Some (Open n) → IsFinite (graph R m) (entry e.id) → ⊥
  open_endless k n e at got finite = go (finite_is_found (entry e.id) (s.reached k e (Open n) at got tt) finite)
    where
      go : F (entry e.id) → ⊥
      go (inl is) = cc
      go (inr (j, f, there, is, found)) =
          let ids : e.id ≡ f.id = cc in
          let same : j ≡ k = one_place R.objects j k e.id s.whole.distinct (f, there, sym ids) (e, at, refl) in
          absurd (let q : ◌≡◌ {A = Option Mark} (Some Finite) (Some (Open n)) = sym found ∙ (ap (slice_get marks) same ∙ got) in cc)

  -- a reached object has an entry
  has_entry : (id : List ℕ) → Reaches R m (entry id) → HasNoEntry R id → ⊥
  has_entry id reach none = elim reach [ element before here names ↦ s.below Dangling _ (omega arith) before (inl (_, _, here, names, none)) | currency before is ↦ s.below Dangling _ (omega arith) before (inr (_, is, none)) ]

  -- a reached place that has no finite instance is an open object or the message
  endless_cases : (q : Place) → Reaches R m q → (IsFinite (graph R m) q → ⊥) → (q ≡ message) ⊎ ((k : ℕ) × (n : ℕ) × (rank_of R q ≡ k) × (slice_get marks k ≡ Some (Open n)))
  endless_cases document reach endless = absurd (no_document reach)
  endless_cases message reach endless = inl refl
  endless_cases nowhere reach endless = absurd (no_nowhere reach)
  endless_cases (entry id) reach endless = go (find_entry id R.objects) refl
    where
      by_mark : (k : ℕ) (e : DictionaryEntry) → slice_get R.objects k ≡ Some e → e.id ≡ id → (x : Mark) → slice_get marks k ≡ Some x → IsReachedMark x → (entry id ≡ message) ⊎ ((k : ℕ) × (n : ℕ) × (rank_of R (entry id) ≡ k) × (slice_get marks k ≡ Some (Open n)))
      by_mark k e at same Unreached got marked = absurd marked
      by_mark k e at same Finite got marked = absurd (endless (subst (λ (i : List ℕ). IsFinite (graph R m) (entry i)) same (s.finite k e at got)))
      by_mark k e at same (Open n) got marked = inr (k, n, subst (λ (i : List ℕ). rank_in i R.objects ≡ k) same (rank_at R.objects k e s.whole.distinct at), got)

      by_place : ((k : ℕ) × (e : DictionaryEntry) × (slice_get R.objects k ≡ Some e) × (e.id ≡ id)) → (entry id ≡ message) ⊎ ((k : ℕ) × (n : ℕ) × (rank_of R (entry id) ≡ k) × (slice_get marks k ≡ Some (Open n)))
      by_place (k, e, at, same) = with_mark (s.marked k e at (subst (λ (i : List ℕ). Reaches R m (entry i)) (sym same) reach))
        where
          with_mark : (x : Mark) × (slice_get marks k ≡ Some x) × IsReachedMark x → (entry id ≡ message) ⊎ ((k : ℕ) × (n : ℕ) × (rank_of R (entry id) ≡ k) × (slice_get marks k ≡ Some (Open n)))
          with_mark (x, got, marked) = by_mark k e at same x got marked

      go : (o : Option Object) → find_entry id R.objects ≡ o → (entry id ≡ message) ⊎ ((k : ℕ) × (n : ℕ) × (rank_of R (entry id) ≡ k) × (slice_get marks k ≡ Some (Open n)))
      go None none = absurd (has_entry id reach none)
      go (Some o) found = (let b : (k : ℕ) × (e : DictionaryEntry) × (slice_get R.objects k ≡ Some e) × (e.id ≡ id) × (e.object ≡ o) = find_back R.objects id o found in by_place (b.0, b.1, b.2, b.3))

  -- ---- the answer

  pub tells_object : (k : ℕ) → TellsFirstOpen marks (Some k) → TellsFirst R m Endless (Some (breaker.Object k))
  tells_object k (n, got, before) = go (slice_below R.objects k (let h : k < length marks = slice_get_within marks k (Open n) got in let size : length marks ≡ length R.objects = s.size in omega arith))
    where
      go : (e : DictionaryEntry) × (slice_get R.objects k ≡ Some e) → TellsFirst R m Endless (Some (breaker.Object k))
      go (e, at) = (entry e.id, (e, at, refl), record { reached = s.reached k e (Open n) at got tt; broken = open_endless k n e at got; first = first })
        where
          rank : rank_in e.id R.objects ≡ k
          rank = rank_at R.objects k e s.whole.distinct at

          first : (q : Place) → rank_of R q < rank_of R (entry e.id) → Reaches R m q → (IsFinite (graph R m) q → ⊥) → ⊥
          first q less reach endless = by (endless_cases q reach endless)
            where
              by : (q ≡ message) ⊎ ((j : ℕ) × (n : ℕ) × (rank_of R q ≡ j) × (slice_get marks j ≡ Some (Open n))) → ⊥
              by (inl is) =
                  let far : rank_of R q ≡ length R.objects = ap (rank_of R) is in
                  let within : k < length R.objects = slice_get_within R.objects k e at in
                  let here : rank_of R (entry e.id) ≡ k = rank in
                  omega arith
              by (inr (j, i, there, open_j)) = before j i (let here : rank_of R (entry e.id) ≡ k = rank in omega arith) open_j

  module _ (r : Reach) (has : HasReach R m r) (none : TellsFirstOpen marks None) where
    message_slots : graph R m message ≡ message_form (Some has.definition)
    message_slots = ap message_form has.first

    same_definition : (d : MessageDef) → slice_get R.messages r.message ≡ Some d → has.definition ≡ d
    same_definition d at = some_some has.definition d (sym has.message_is ∙ at)

    pub tells_none : TellsMessage R marks r.message true → TellsFirst R m Endless None
    tells_none (d, at, free) = λ q reach endless. go q endless (endless_cases q reach endless)
      where
        bounds : graph R m message ≡ message_form (Some d)
        bounds = message_slots ∙ ap (λ (x : MessageDef). message_form (Some x)) (same_definition d at)

        message_finite : IsFinite (graph R m) message
        message_finite = finite_form (graph R m) (graph R m message) (bounds_in (form_slots (graph R m message)) (form_bounds R m s.below message itself))
            (rw bounds (all_reached R m marks (IsFinite (graph R m)) s.finite d.blocks free))

        go : (q : Place) → (IsFinite (graph R m) q → ⊥) → (q ≡ message) ⊎ ((j : ℕ) × (n : ℕ) × (rank_of R q ≡ j) × (slice_get marks j ≡ Some (Open n))) → ⊥
        go q endless (inl is) = endless (subst (λ (x : Place). IsFinite (graph R m) x) (sym is) message_finite)
        go q endless (inr (j, n, there, open_j)) = none j n open_j

    pub tells_message : TellsMessage R marks r.message false → TellsFirst R m Endless (Some breaker.Message)
    tells_message told = (message, refl, record { reached = itself; broken = broken'; first = first })
      where
        broken' : IsFinite (graph R m) message → ⊥
        broken' finite = go (told has.definition has.message_is) (rw message_slots at (finite_found R m F stable (one_reference R m s.below) message itself finite))
          where
            go : SomeBlocked R.objects marks [] has.definition.blocks → MayBeFound F (message_form (Some has.definition)) → ⊥
            go (i, d, at, blocked) all = some_not has.definition.blocks i d at blocked all

        first : (q : Place) → rank_of R q < rank_of R message → Reaches R m q → (IsFinite (graph R m) q → ⊥) → ⊥
        first q less reach endless = by (endless_cases q reach endless)
          where
            by : (q ≡ message) ⊎ ((j : ℕ) × (n : ℕ) × (rank_of R q ≡ j) × (slice_get marks j ≡ Some (Open n))) → ⊥
            by (inl is) = (let same : rank_of R q ≡ length R.objects = ap (rank_of R) is in omega arith)
            by (inr (j, n, there, open_j)) = none j n open_j
