-- The steps of the search for the reached objects that have a finite instance.
use Rattle.std.proofs.Common.{◌≡◌, ℕ, zero, suc, List, [], ◌∷◌, ◌++◌, length, map, Option, Some, None, refl, sym, ap, ◌∙◌, subst, arith, ◌⊎◌, inl, inr}
use Rattle.std.specs.Prelude.{slice_get, slice_set, Contains}
use Rattle.std.specs.Option.{option_map}
use Rattle.std.specs.List.{AllByRecursion}
use Rattle.std.proofs.lemmas.Option.{slice_get-map}
use Rattle.std.proofs.lemmas.List.{length-set}
use Rattle.std.proofs.lemmas.List.Elements.{Contains-append_left, Contains-append_right, Contains-append_cases}
use Rattle.std.proofs.lemmas.Bool.{cases_eq}
use Rattle.repo_objects.specs.declared.objects.ElementDef.{ElementDef}
use Rattle.repo_objects.specs.declared.objects.Object.{Object}
use Rattle.repo_objects.specs.declared.objects.Kinds.{Kinds}
use Rattle.repo_objects.specs.declared.objects.Kinds.TheVariants as kinds
use Rattle.repo_objects.specs.declared.objects.ObjectKind.{ObjectKind}
use Rattle.repo_objects.specs.declared.objects.ObjectKind.TheVariants.{Simple, Component, Choice, External, Other}
use Rattle.repo_objects.specs.Repository.{DictionaryEntry, Contents}
use Rattle.reference_check.specs.declared.finite.Mark.{Mark}
use Rattle.reference_check.specs.declared.finite.Mark.TheVariants.{Open, Finite}
use Rattle.reference_check.specs.Forms.{form_slots}
use Rattle.reference_check.specs.Graph.{Place, entry, graph, slot_of, simple_form, object_form, entry_form, find_entry}
use Rattle.reference_check.specs.Shapes.{IsFinite, IsReached, MayBeFound}
use Rattle.reference_check.specs.Reach.{Reaches}
use Rattle.reference_check.specs.inner.FiniteSearch.{LeadsTo, IsFoundAt, IsFree, IsBlocked, AreFree, LetThrough, HoldBack, TellsHeld, IsUser, AreListed, IsReachedMark, IsSearch, HoldsReached}
use Rattle.reference_check.proofs.FiniteForms.{finite_form}
use Rattle.reference_check.proofs.Decided.{bounds_in, form_bounds}
use Rattle.reference_check.proofs.Targets.{target_is, leads_or_not, find_at}
use Rattle.reference_check.proofs.Freed.{get_set_same, get_set_other, none_in, are_free_more, held_more}

-- ---- what lets an object through

module _ (R : Contents) (m : List ℕ) (marks : List Mark) (F : Place → Type 0) (found : (k : ℕ) (e : DictionaryEntry) → slice_get R.objects k ≡ Some e → IsFoundAt marks k → F (entry e.id)) where
  pub free_reached : (d : ElementDef) → IsFree R.objects marks d → IsReached F (slot_of d)
  free_reached d (inl none) = inl none
  free_reached d (inr (k, (id, one, (e, at, same)), h)) =
      inr (subst (λ (p : Place). F p) (sym (target_is d id one)) (subst (λ (i : List ℕ). F (entry i)) same (found k e at h)))

  pub all_reached : (ds : List ElementDef) → AreFree R.objects marks ds 0 (length ds) → AllByRecursion (IsReached F) (map slot_of ds)
  all_reached [] h = tt
  all_reached (d ∷ ds) h = (free_reached d (h 0 d (omega arith) (omega arith) refl), all_reached ds (λ i x l r at. h (suc i) x (omega arith) (omega arith) at))

  simple_found : (o : Object) (k : Kinds) (c : Option (List ℕ)) → MayBeFound F (simple_form R o k c)
  simple_found o kinds.Amount None = tt
  simple_found o kinds.Amount (Some c) = tt
  simple_found o _ c = tt

  pub let_through : (o : Object) (kind : ObjectKind) → LetThrough R.objects marks kind o.elements → MayBeFound F (object_form R o kind)
  let_through o (Simple k) h = simple_found o k o.currency
  let_through o Component h = all_reached o.elements h
  let_through o Choice (i, d, at, free) = (i, slot_of d, slice_get-map slot_of o.elements i ∙ ap (option_map slot_of) at, free_reached d free)
  let_through o External h = tt
  let_through o Other h = tt

module _ {R : Contents} {m : List ℕ} {marks : List Mark} {untold rest : List ℕ} (s : IsSearch R m marks untold rest) where
  -- an object that is let through has a finite instance
  pub through_finite : (k : ℕ) (e : DictionaryEntry) → slice_get R.objects k ≡ Some e → Reaches R m (entry e.id) → LetThrough R.objects marks e.object.kind e.object.elements → IsFinite (graph R m) (entry e.id)
  through_finite k e at reach h =
      let form_is : find_entry e.id R.objects ≡ Some e.object = find_at R.objects k e s.whole.distinct at in
      let may : MayBeFound (IsFinite (graph R m)) (object_form R e.object e.object.kind) = let_through R m marks (IsFinite (graph R m)) s.finite e.object e.object.kind h in
      finite_form (graph R m) (graph R m (entry e.id)) (bounds_in (form_slots (graph R m (entry e.id))) (form_bounds R m s.below (entry e.id) reach))
      (subst (λ (o : Option Object). MayBeFound (IsFinite (graph R m)) (entry_form R o)) (sym form_is) may)

-- ---- the object at p is looked at

module _ {R : Contents} {m : List ℕ} {marks : List Mark} {untold rest : List ℕ} {p : ℕ} (s : IsSearch R m marks untold (p ∷ rest)) where
  later : (k : ℕ) → (k ≡ p → ⊥) → Contains (p ∷ rest) k → Contains rest k
  later k other h = go (Contains-append_cases (p ∷ []) rest k h)
    where
      go : Contains (p ∷ []) k ⊎ Contains rest k → Contains rest k
      go (inl (zero, within, e)) = absurd (other (sym e))
      go (inl (suc i, within, e)) = absurd (omega arith)
      go (inr h) = h

  -- where it is no open object
  pub not_open : ((n : ℕ) (e : DictionaryEntry) → slice_get R.objects p ≡ Some e → slice_get marks p ≡ Some (Open n) → ⊥) → IsSearch R m marks untold rest
  not_open none = record { whole = s.whole; below = s.below; size = s.size; marked = s.marked; reached = s.reached; finite = s.finite; free = s.free; held = held' }
    where
      held' : (k n : ℕ) (e : DictionaryEntry) → slice_get R.objects k ≡ Some e → slice_get marks k ≡ Some (Open n) → HoldBack R.objects marks untold e.object.kind e.object.elements ⊎ Contains rest k
      held' k n e at got = go (cases_eq k p) (s.held k n e at got)
        where
          go : (k ≡ p) ⊎ (k ≡ p → ⊥) → HoldBack R.objects marks untold e.object.kind e.object.elements ⊎ Contains (p ∷ rest) k → HoldBack R.objects marks untold e.object.kind e.object.elements ⊎ Contains rest k
          go (inl same) h = absurd (none n e (subst (λ (x : ℕ). slice_get R.objects x ≡ Some e) same at) (subst (λ (x : ℕ). slice_get marks x ≡ Some (Open n)) same got))
          go (inr other) (inl h) = inl h
          go (inr other) (inr h) = inr (later k other h)

  -- where it is open: the mark that it gets
  module _ (n : ℕ) (e : DictionaryEntry) (at : slice_get R.objects p ≡ Some e) (was : slice_get marks p ≡ Some (Open n)) where
    reach_p : Reaches R m (entry e.id)
    reach_p = s.reached p e (Open n) at was tt

    module _ (y : Mark) where
      new : List Mark
      new = slice_set marks p y

      here : slice_get (slice_set marks p y) p ≡ Some y
      here = get_set_same marks p y (Open n) was

      there : (k : ℕ) → (k ≡ p → ⊥) → slice_get (slice_set marks p y) k ≡ slice_get marks k
      there k other = get_set_other marks p k y other

      at_here : (k : ℕ) → k ≡ p → slice_get (slice_set marks p y) k ≡ Some y
      at_here k same = subst (λ (x : ℕ). slice_get (slice_set marks p y) x ≡ Some y) (sym same) here

      more : (k : ℕ) → IsFoundAt marks k → IsFoundAt (slice_set marks p y) k
      more k found = go (cases_eq k p)
        where
          go : (k ≡ p) ⊎ (k ≡ p → ⊥) → IsFoundAt (slice_set marks p y) k
          go (inl same) = absurd (let e : ◌≡◌ {A = Option Mark} (Some Finite) (Some (Open n)) = sym found ∙ (ap (slice_get marks) same ∙ was) in cc)
          go (inr other) = there k other ∙ found

      marked' : IsReachedMark y → (k : ℕ) (f : DictionaryEntry) → slice_get R.objects k ≡ Some f → Reaches R m (entry f.id) → (x : Mark) × (slice_get (slice_set marks p y) k ≡ Some x) × IsReachedMark x
      marked' is k f got reach = go (cases_eq k p) (s.marked k f got reach)
        where
          go : (k ≡ p) ⊎ (k ≡ p → ⊥) → ((x : Mark) × (slice_get marks k ≡ Some x) × IsReachedMark x) → (x : Mark) × (slice_get (slice_set marks p y) k ≡ Some x) × IsReachedMark x
          go (inl same) h = (y, at_here k same, is)
          go (inr other) (x, e, h) = (x, there k other ∙ e, h)

      reached' : (k : ℕ) (f : DictionaryEntry) (x : Mark) → slice_get R.objects k ≡ Some f → slice_get (slice_set marks p y) k ≡ Some x → IsReachedMark x → Reaches R m (entry f.id)
      reached' k f x got mark is = go (cases_eq k p)
        where
          go : (k ≡ p) ⊎ (k ≡ p → ⊥) → Reaches R m (entry f.id)
          go (inl same) = s.reached k f (Open n) got (ap (slice_get marks) same ∙ was) tt
          go (inr other) = s.reached k f x got (sym (there k other) ∙ mark) is

      -- what held back the others holds them back, where the users of what was found are told
      held_on : (told : List ℕ) → ((k : ℕ) → IsFoundAt (slice_set marks p y) k → (IsFoundAt marks k → Contains untold k) → Contains told k) → ((k : ℕ) (f : DictionaryEntry) (i : ℕ) → k ≡ p → slice_get R.objects k ≡ Some f → slice_get (slice_set marks p y) k ≡ Some (Open i) → HoldBack R.objects (slice_set marks p y) told f.object.kind f.object.elements)
          → (k i : ℕ) (f : DictionaryEntry) → slice_get R.objects k ≡ Some f → slice_get (slice_set marks p y) k ≡ Some (Open i) → HoldBack R.objects (slice_set marks p y) told f.object.kind f.object.elements ⊎ Contains rest k
      held_on told some self k i f got mark = go (cases_eq k p)
        where
          go : (k ≡ p) ⊎ (k ≡ p → ⊥) → HoldBack R.objects (slice_set marks p y) told f.object.kind f.object.elements ⊎ Contains rest k
          go (inl same) = inl (self k f i same got mark)
          go (inr other) = by (s.held k i f got (sym (there k other) ∙ mark))
            where
              by : HoldBack R.objects marks untold f.object.kind f.object.elements ⊎ Contains (p ∷ rest) k → HoldBack R.objects (slice_set marks p y) told f.object.kind f.object.elements ⊎ Contains rest k
              by (inl h) = inl (held_more R.objects marks (slice_set marks p y) untold told some f.object.kind f.object.elements h)
              by (inr h) = inr (later k other h)

    -- its first element that is in the way moves on
    module _ (free : ℕ) where
      back : (k : ℕ) → IsFoundAt (slice_set marks p (Open free)) k → IsFoundAt marks k
      back k found = go (cases_eq k p)
        where
          go : (k ≡ p) ⊎ (k ≡ p → ⊥) → IsFoundAt marks k
          go (inl same) = absurd (let e : ◌≡◌ {A = Option Mark} (Some Finite) (Some (Open free)) = sym found ∙ at_here (Open free) k same in cc)
          go (inr other) = sym (there (Open free) k other) ∙ found

      same_entry : (k : ℕ) (f : DictionaryEntry) → k ≡ p → slice_get R.objects k ≡ Some f → e ≡ f
      same_entry k f same got = (let h : ◌≡◌ {A = Option DictionaryEntry} (Some e) (Some f) = sym at ∙ (ap (slice_get R.objects) (sym same) ∙ got) in cc)

      pub moves_on : TellsHeld R.objects marks e.object n (Some free) → IsSearch R m (slice_set marks p (Open free)) untold rest
      moves_on (hold, front) = record {
        whole = s.whole;
        below = s.below;
        size = length-set marks p (Open free) ∙ s.size;
        marked = marked' (Open free) tt;
        reached = reached' (Open free);
        finite = λ k f got found. s.finite k f got (back k found);
        free = free';
        held = held_on (Open free) untold (λ k found told. told (back k found)) self;
      }
        where
          free' : (k i : ℕ) (f : DictionaryEntry) → slice_get R.objects k ≡ Some f → slice_get (slice_set marks p (Open free)) k ≡ Some (Open i) → AreFree R.objects (slice_set marks p (Open free)) f.object.elements 0 i
          free' k i f got mark = are_free_more R.objects marks (slice_set marks p (Open free)) (more (Open free)) f.object.elements 0 i (go (cases_eq k p))
            where
              go : (k ≡ p) ⊎ (k ≡ p → ⊥) → AreFree R.objects marks f.object.elements 0 i
              go (inl same) =
                  let number : free ≡ i = (let h : ◌≡◌ {A = Option Mark} (Some (Open free)) (Some (Open i)) = sym (at_here (Open free) k same) ∙ mark in cc) in
                  subst (λ (j : ℕ). AreFree R.objects marks f.object.elements 0 j) number (subst (λ (x : DictionaryEntry). AreFree R.objects marks x.object.elements 0 free) (same_entry k f same got) (front (s.free p n e at was)))
              go (inr other) = s.free k i f got (sym (there (Open free) k other) ∙ mark)

          self : (k : ℕ) (f : DictionaryEntry) (i : ℕ) → k ≡ p → slice_get R.objects k ≡ Some f → slice_get (slice_set marks p (Open free)) k ≡ Some (Open i) → HoldBack R.objects (slice_set marks p (Open free)) untold f.object.kind f.object.elements
          self k f i same got mark =
              subst (λ (x : DictionaryEntry). HoldBack R.objects (slice_set marks p (Open free)) untold x.object.kind x.object.elements) (same_entry k f same got)
              (held_more R.objects marks (slice_set marks p (Open free)) [] untold (λ j found told. absurd (none_in j (told (back j found)))) e.object.kind e.object.elements hold)

    -- it has a finite instance
    only_p : (k : ℕ) → IsFoundAt (slice_set marks p Finite) k → (k ≡ p) ⊎ IsFoundAt marks k
    only_p k found = go (cases_eq k p)
      where
        go : (k ≡ p) ⊎ (k ≡ p → ⊥) → (k ≡ p) ⊎ IsFoundAt marks k
        go (inl same) = inl same
        go (inr other) = inr (sym (there Finite k other) ∙ found)

    pub is_found : TellsHeld R.objects marks e.object n None → IsSearch R m (slice_set marks p Finite) (untold ++ p ∷ []) rest
    is_found through = record {
      whole = s.whole;
      below = s.below;
      size = length-set marks p Finite ∙ s.size;
      marked = marked' Finite tt;
      reached = reached' Finite;
      finite = finite';
      free = free';
      held = held_on Finite (untold ++ p ∷ []) some (λ k f i same got mark. absurd (let h : ◌≡◌ {A = Option Mark} (Some Finite) (Some (Open i)) = sym (at_here Finite k same) ∙ mark in cc));
    }
      where
        finite_p : IsFinite (graph R m) (entry e.id)
        finite_p = through_finite s p e at reach_p (through (s.free p n e at was))

        finite' : (k : ℕ) (f : DictionaryEntry) → slice_get R.objects k ≡ Some f → IsFoundAt (slice_set marks p Finite) k → IsFinite (graph R m) (entry f.id)
        finite' k f got found = go (only_p k found)
          where
            go : (k ≡ p) ⊎ IsFoundAt marks k → IsFinite (graph R m) (entry f.id)
            go (inl same) = (let h : e ≡ f = (let q : ◌≡◌ {A = Option DictionaryEntry} (Some e) (Some f) = sym at ∙ (ap (slice_get R.objects) (sym same) ∙ got) in cc) in subst (λ (x : DictionaryEntry). IsFinite (graph R m) (entry x.id)) h finite_p)
            go (inr h) = s.finite k f got h

        free' : (k i : ℕ) (f : DictionaryEntry) → slice_get R.objects k ≡ Some f → slice_get (slice_set marks p Finite) k ≡ Some (Open i) → AreFree R.objects (slice_set marks p Finite) f.object.elements 0 i
        free' k i f got mark = are_free_more R.objects marks (slice_set marks p Finite) (more Finite) f.object.elements 0 i (go (cases_eq k p))
          where
            go : (k ≡ p) ⊎ (k ≡ p → ⊥) → AreFree R.objects marks f.object.elements 0 i
            go (inl same) = absurd (let h : ◌≡◌ {A = Option Mark} (Some Finite) (Some (Open i)) = sym (at_here Finite k same) ∙ mark in cc)
            go (inr other) = s.free k i f got (sym (there Finite k other) ∙ mark)

        some : (k : ℕ) → IsFoundAt (slice_set marks p Finite) k → (IsFoundAt marks k → Contains untold k) → Contains (untold ++ p ∷ []) k
        some k found told = go (only_p k found)
          where
            go : (k ≡ p) ⊎ IsFoundAt marks k → Contains (untold ++ p ∷ []) k
            go (inl same) = Contains-append_right untold (p ∷ []) k (0, omega arith, sym same)
            go (inr h) = Contains-append_left untold (p ∷ []) k (told h)

-- ---- the users of the object at p are told

some_leads : (es : List DictionaryEntry) (p : ℕ) (ds : List ElementDef) → ((i : ℕ) × (d : ElementDef) × (slice_get ds i ≡ Some d) × LeadsTo es d p) ⊎ ((i : ℕ) (d : ElementDef) → slice_get ds i ≡ Some d → LeadsTo es d p → ⊥)
some_leads es p [] = inr (λ i d at leads. absurd cc)
some_leads es p (x ∷ ds) = go (leads_or_not es x p) (some_leads es p ds)
  where
    go : LeadsTo es x p ⊎ (LeadsTo es x p → ⊥) → ((i : ℕ) × (d : ElementDef) × (slice_get ds i ≡ Some d) × LeadsTo es d p) ⊎ ((i : ℕ) (d : ElementDef) → slice_get ds i ≡ Some d → LeadsTo es d p → ⊥)
        → ((i : ℕ) × (d : ElementDef) × (slice_get (x ∷ ds) i ≡ Some d) × LeadsTo es d p) ⊎ ((i : ℕ) (d : ElementDef) → slice_get (x ∷ ds) i ≡ Some d → LeadsTo es d p → ⊥)
    go (inl leads) later = inl (0, x, refl, leads)
    go (inr no_lead) (inl (i, d, at, leads)) = inl (suc i, d, at, leads)
    go (inr no_lead) (inr none) = inr each
      where
        each : (i : ℕ) (d : ElementDef) → slice_get (x ∷ ds) i ≡ Some d → LeadsTo es d p → ⊥
        each zero d at leads = (let same : x ≡ d = cc in no_lead (subst (λ (y : ElementDef). LeadsTo es y p) (sym same) leads))
        each (suc i) d at leads = none i d at leads

module _ {R : Contents} {m : List ℕ} {marks : List Mark} (untold : List ℕ) (p : ℕ) (s : IsSearch R m marks (untold ++ p ∷ []) []) where
  -- what does not lead to p is held back by others
  others : (d : ElementDef) → (LeadsTo R.objects d p → ⊥) → IsBlocked R.objects marks (untold ++ p ∷ []) d → IsBlocked R.objects marks untold d
  others d other (must, each) = (must, λ k leads found. go k leads (Contains-append_cases untold (p ∷ []) k (each k leads found)))
    where
      go : (k : ℕ) → LeadsTo R.objects d k → Contains untold k ⊎ Contains (p ∷ []) k → Contains untold k
      go k leads (inl h) = h
      go k leads (inr (zero, within, e)) = absurd (other (subst (λ (x : ℕ). LeadsTo R.objects d x) (sym e) leads))
      go k leads (inr (suc i, within, e)) = absurd (omega arith)

  pub told : (rest : List ℕ) → ((k n : ℕ) (e : DictionaryEntry) (i : ℕ) (d : ElementDef) → slice_get R.objects k ≡ Some e → slice_get marks k ≡ Some (Open n) → slice_get e.object.elements i ≡ Some d → (d.min ≡ 0 → ⊥) → LeadsTo R.objects d p → Contains rest k) → IsSearch R m marks untold rest
  told rest user = record { whole = s.whole; below = s.below; size = s.size; marked = s.marked; reached = s.reached; finite = s.finite; free = s.free; held = held' }
    where
      held' : (k n : ℕ) (e : DictionaryEntry) → slice_get R.objects k ≡ Some e → slice_get marks k ≡ Some (Open n) → HoldBack R.objects marks untold e.object.kind e.object.elements ⊎ Contains rest k
      held' k n e at got = go (s.held k n e at got)
        where
          by_kind : (kind : ObjectKind) → HoldBack R.objects marks (untold ++ p ∷ []) kind e.object.elements → HoldBack R.objects marks untold kind e.object.elements ⊎ Contains rest k
          by_kind Component (i, d, is, blocked) = by (leads_or_not R.objects d p)
            where
              by : LeadsTo R.objects d p ⊎ (LeadsTo R.objects d p → ⊥) → HoldBack R.objects marks untold Component e.object.elements ⊎ Contains rest k
              by (inl leads) = inr (user k n e i d at got is blocked.0 leads)
              by (inr other) = inl (i, d, is, others d other blocked)
          by_kind Choice h = by (some_leads R.objects p e.object.elements)
            where
              by : ((i : ℕ) × (d : ElementDef) × (slice_get e.object.elements i ≡ Some d) × LeadsTo R.objects d p) ⊎ ((i : ℕ) (d : ElementDef) → slice_get e.object.elements i ≡ Some d → LeadsTo R.objects d p → ⊥) → HoldBack R.objects marks untold Choice e.object.elements ⊎ Contains rest k
              by (inl (i, d, is, leads)) = inr (user k n e i d at got is (h i d is).0 leads)
              by (inr none) = inl (λ i d is. others d (none i d is) (h i d is))
          by_kind kind h = absurd h

          go : HoldBack R.objects marks (untold ++ p ∷ []) e.object.kind e.object.elements ⊎ Contains [] k → HoldBack R.objects marks untold e.object.kind e.object.elements ⊎ Contains rest k
          go (inl h) = by_kind e.object.kind h
          go (inr h) = absurd (none_in k h)

  module _ (users : List (List ℕ)) (places : List ℕ) (listed : AreListed R.objects users places) (all : HoldsReached R m places) where
    user_of : (k n : ℕ) (e : DictionaryEntry) (i : ℕ) (d : ElementDef) → slice_get R.objects k ≡ Some e → slice_get marks k ≡ Some (Open n) → slice_get e.object.elements i ≡ Some d → (d.min ≡ 0 → ⊥) → LeadsTo R.objects d p → IsUser users p k
    user_of k n e i d at got is must leads = listed k (all k e at (s.reached k e (Open n) at got tt)) e at i d is p must leads

    pub told_list : (list : List ℕ) → slice_get users p ≡ Some list → IsSearch R m marks untold list
    told_list list is = told list (λ k n e i d at got here must leads. in_list k (user_of k n e i d at got here must leads))
      where
        in_list : (k : ℕ) → IsUser users p k → Contains list k
        in_list k (other, at, h) = (let same : other ≡ list = (let q : ◌≡◌ {A = Option (List ℕ)} (Some other) (Some list) = sym at ∙ is in cc) in subst (λ (x : List ℕ). Contains x k) same h)

    pub told_none : slice_get users p ≡ None → IsSearch R m marks untold []
    told_none none = told [] (λ k n e i d at got here must leads. no_list k (user_of k n e i d at got here must leads))
      where
        no_list : (k : ℕ) → IsUser users p k → Contains [] k
        no_list k (other, at, h) = absurd (let q : ◌≡◌ {A = Option (List ℕ)} None (Some other) = sym none ∙ at in cc)
