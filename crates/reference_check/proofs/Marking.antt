-- What one step of the search keeps, and how steps join.
use Rattle.std.proofs.Common.{◌≡◌, ◌≢◌, ℕ, zero, suc, ◌+◌, ◌<◌, Bool, true, false, true≢false, List, [], ◌∷◌, ◌++◌, length, take, append-nil, replicate, get_or, set, Option, Some, None, refl, sym, ap, subst, ◌∙◌, arith, ◌⊎◌, inl, inr, Contains}
use Rattle.std.specs.Prelude.{slice_get, AllPairs, ◌↔◌, if◌then◌else◌}
use Rattle.std.specs.List.{flat_map}
use Rattle.std.proofs.lemmas.Bool.{cases_lt}
use Rattle.std.proofs.lemmas.Bool.Decides.{eqb_tells}
use Rattle.std.proofs.lemmas.List.{length-set, take_more, get_or-set_same, get_or-set_other, set-get_or, get_or_past, length_push, get_or-replicate, length-replicate}
use Rattle.std.proofs.lemmas.List.Concat.{flat_map-append}
use Rattle.std.proofs.lemmas.List.Elements.{Contains-append_left, Contains-append_right, Contains-append_cases, Contains-get_or}
use Rattle.lexical_core.proofs.Lists.{only_one}
use Rattle.repo_objects.specs.declared.objects.ElementDef.{ElementDef}
use Rattle.repo_objects.specs.declared.objects.MessageDef.{MessageDef}
use Rattle.repo_objects.specs.declared.objects.Object.{Object}
use Rattle.repo_objects.specs.Repository.{DictionaryEntry, Contents, HasId, ids_of}
use Rattle.reference_check.specs.declared.marks.Marks.{Marks}
use Rattle.reference_check.specs.Graph.{Place, message, entry, find_entry, find_message, references, given_id}
use Rattle.reference_check.specs.Reach.{elements_of, currency_of, kind_elements, kind_currency, blocks_or_none, elements_or_none, currency_or_none, Reaches, itself, element, currency}
use Rattle.reference_check.specs.Reached.{HasReach}
use Rattle.reference_check.specs.inner.Marking.{IsObjectMarked, IsIdMarked, LeadsWithin, AreMarks, unmarked_count, AddsAt, Grows, Adds, Visits, targets_of}
use Rattle.reference_check.proofs.Lookups.{has_at, IsAbsent, IsFound, find_place, one_place, first_in}

-- ---- lists of marks

mark_more : (l : List Bool) (at k : ℕ) → at < length l → IsObjectMarked l k → IsObjectMarked (set l at true) k
mark_more l at k l_at is = elim (eqb_tells k at) [
  | inl same ↦ subst (λ n. get_or (set l at true) n false ≡ true) (sym same.1) (get_or-set_same l at true false l_at)
  | inr other ↦ get_or-set_other l at k true false other.1 ∙ is
]

mark_less : (l : List Bool) (at k : ℕ) → IsObjectMarked (set l at true) k → (k ≡ at) ⊎ IsObjectMarked l k
mark_less l at k is = elim (eqb_tells k at) [
  | inl same ↦ inl same.1
  | inr other ↦ inr (sym (get_or-set_other l at k true false other.1) ∙ is)
]

pub mark_within : (l : List Bool) (k : ℕ) → IsObjectMarked l k → k < length l
mark_within l k is = elim (cases_lt k (length l)) [
  | inl lt ↦ lt
  | inr past ↦ absurd (true≢false (sym is ∙ get_or_past l k false (omega arith)))
]

unmarked_less : (l : List Bool) (at : ℕ) → at < length l → get_or l at false ≡ false → unmarked_count (set l at true) + 1 ≡ unmarked_count l
unmarked_less [] at within off = absurd (omega arith)
unmarked_less (b ∷ l) zero within off = (let no_ : b ≡ false = off in rw no_ (omega arith))
unmarked_less (b ∷ l) (suc at) within off = (let h : unmarked_count (set l at true) + 1 ≡ unmarked_count l = unmarked_less l at (omega arith) off in omega arith)

-- ---- steps

pub grows_not : (s : Marks) → Grows s s
grows_not s = record { kept = λ k is. is; turns = refl; long = refl }

pub grows_on : (s t u : Marks) → Grows s t → Grows t u → Grows s u
grows_on s t u a b = record { kept = λ k is. b.kept k (a.kept k is); turns = b.turns ∙ a.turns; long = b.long ∙ a.long }

pub adds_nothing : (R : Contents) (s : Marks) → Adds R [] s s
adds_nothing R s = record { sound = λ m followed reach inv. inv; added = λ id (k, l, e). absurd (omega arith); grows = grows_not s }

pub adds_append : (R : Contents) (xs ys : List (List ℕ)) (s t u : Marks) → Adds R xs s t → Adds R ys t u → Adds R (xs ++ ys) s u
adds_append R xs ys s t u a b = record {
  sound = λ m followed reach inv.
      b.sound m followed (λ id h. reach id (Contains-append_right xs ys id h)) (a.sound m followed (λ id h. reach id (Contains-append_left xs ys id h)) inv);
  added = λ id has k e at same. elim (Contains-append_cases xs ys id has) [
    | inl h ↦ b.grows.kept k (a.added id h k e at same)
    | inr h ↦ b.added id h k e at same
  ];
  grows = grows_on s t u a.grows b.grows;
}

-- an id that no object has
pub adds_absent : (R : Contents) (id : List ℕ) (s : Marks) → (HasId R.objects id → ⊥) → Adds R (id ∷ []) s s
adds_absent R id s lacks = record {
  sound = λ m followed reach inv. inv;
  added = λ other has k e at same. absurd (lacks (subst (λ z. HasId R.objects z) (same ∙ sym (only id other has)) (has_at R.objects k e at)));
  grows = grows_not s;
}
  where
    only : (id other : List ℕ) → Contains (id ∷ []) other → id ≡ other
    only id other (zero, l, e) = e
    only id other (suc k, l, e) = absurd (omega arith)

module _ (R : Contents) (at : ℕ) (e : DictionaryEntry) (there : slice_get R.objects at ≡ Some e) (m : List ℕ) (followed : List ℕ) (marked : List Bool) (waiting : List ℕ)
    (within : at < length marked) (reach : Reaches R m (entry e.id)) (inv : AreMarks R m followed marked waiting) where
  -- a new mark waits
  more_leads : (p : Place) → LeadsWithin R m marked p → LeadsWithin R m (set marked at true) p
  more_leads p leads id has k f here same = mark_more marked at k within (leads id has k f here same)

  new_reached : (k : ℕ) (f : DictionaryEntry) → slice_get R.objects k ≡ Some f → (k ≡ at) ⊎ IsObjectMarked marked k → Reaches R m (entry f.id)
  new_reached k f here (inl same) =
      let again : slice_get R.objects at ≡ Some f = subst (λ n. slice_get R.objects n ≡ Some f) same here in
      let equal : e ≡ f = cc in
      subst (λ (z : DictionaryEntry). Reaches R m (entry z.id)) equal reach
  new_reached k f here (inr is) = inv.reached k f is here

  new_closed : (k : ℕ) (f : DictionaryEntry) → slice_get R.objects k ≡ Some f → (k ≡ at) ⊎ IsObjectMarked marked k
      → Contains followed k ⊎ Contains (waiting ++ at ∷ []) k ⊎ LeadsWithin R m (set marked at true) (entry f.id)
  new_closed k f here (inl same) = inr (inl (subst (λ n. Contains (waiting ++ at ∷ []) n) (sym same) (Contains-append_right waiting (at ∷ []) at (first_in at []))))
  new_closed k f here (inr is) = old (inv.closed k f is here)
    where
      old : Contains followed k ⊎ Contains waiting k ⊎ LeadsWithin R m marked (entry f.id)
          → Contains followed k ⊎ Contains (waiting ++ at ∷ []) k ⊎ LeadsWithin R m (set marked at true) (entry f.id)
      old (inl h) = inl h
      old (inr (inl h)) = inr (inl (Contains-append_left waiting (at ∷ []) k h))
      old (inr (inr h)) = inr (inr (more_leads (entry f.id) h))

  new_waits : (k : ℕ) → Contains (waiting ++ at ∷ []) k → IsObjectMarked (set marked at true) k
  new_waits k has = elim (Contains-append_cases waiting (at ∷ []) k has) [
    | inl h ↦ mark_more marked at k within (inv.waits k h)
    | inr h ↦ subst (λ n. IsObjectMarked (set marked at true) n) (only_one at k h) (get_or-set_same marked at true false within)
  ]

  pub with_mark : AreMarks R m followed (set marked at true) (waiting ++ at ∷ [])
  with_mark = record {
    reached = λ k f is here. new_reached k f here (mark_less marked at k is);
    waits = new_waits;
    closed = λ k f is here. new_closed k f here (mark_less marked at k is);
  }

pub adds_at : (R : Contents) (at : ℕ) (e : DictionaryEntry) (id : List ℕ) (old new : Marks) → slice_get R.objects at ≡ Some e → e.id ≡ id → AllPairs (λ x y. x ≢ y) (ids_of R.objects)
    → at < length old.marked.items → AddsAt at old new → Adds R (id ∷ []) old new
adds_at R at e id old new there named distinct within a = by (get_or old.marked.items at false) refl
  where
    here : IsObjectMarked new.marked.items at
    here = subst (λ l. IsObjectMarked l at) (sym a.marked) (get_or-set_same old.marked.items at true false within)

    placed : (k : ℕ) (f : DictionaryEntry) → slice_get R.objects k ≡ Some f → f.id ≡ id → IsObjectMarked new.marked.items k
    placed k f at_k same = subst (λ n. IsObjectMarked new.marked.items n) (one_place R.objects at k e f distinct there at_k (named ∙ sym same)) here

    added : (other : List ℕ) → Contains (id ∷ []) other → IsIdMarked R new.marked.items other
    added other has k f at_k same = placed k f at_k (same ∙ sym (only_one id other has))

    kept : (k : ℕ) → IsObjectMarked old.marked.items k → IsObjectMarked new.marked.items k
    kept k is = subst (λ l. IsObjectMarked l k) (sym a.marked) (mark_more old.marked.items at k within is)

    long : length new.marked.items ≡ length old.marked.items
    long = ap length a.marked ∙ length-set old.marked.items at true

    by : (b : Bool) → get_or old.marked.items at false ≡ b → Adds R (id ∷ []) old new
    by true is =
        let same_marks : new.marked.items ≡ old.marked.items = a.marked ∙ ap (λ v. set old.marked.items at v) (sym is) ∙ set-get_or old.marked.items at false in
        let same_wait : new.waiting.items ≡ old.waiting.items = a.waiting ∙ ap (λ v. if v then old.waiting.items else (old.waiting.items ++ at ∷ [])) is in
        record {
          sound = λ m followed reach inv. subst (λ l. AreMarks R m followed l new.waiting.items) (sym same_marks) (subst (λ l. AreMarks R m followed old.marked.items l) (sym same_wait) inv);
          added = added;
          grows = record { kept = kept; turns = ap (λ l. unmarked_count l + length new.waiting.items) same_marks ∙ ap (λ (l : List ℕ). unmarked_count old.marked.items + length l) same_wait; long = long };
        }
    by false is =
        let more_wait : new.waiting.items ≡ old.waiting.items ++ at ∷ [] = a.waiting ∙ ap (λ v. if v then old.waiting.items else (old.waiting.items ++ at ∷ [])) is in
        let less : unmarked_count (set old.marked.items at true) + 1 ≡ unmarked_count old.marked.items = unmarked_less old.marked.items at within is in
        record {
          sound = λ m followed reach inv.
              subst (λ l. AreMarks R m followed l new.waiting.items) (sym a.marked)
              (subst (λ l. AreMarks R m followed (set old.marked.items at true) l) (sym more_wait)
              (with_mark R at e there m followed old.marked.items old.waiting.items within (subst (λ z. Reaches R m (entry z)) (sym named) (reach id (first_in id []))) inv));
          added = added;
          grows = record {
            kept = kept;
            turns = omega (arith, ap unmarked_count a.marked, ap length more_wait, length_push old.waiting.items at);
            long = long;
          };
        }

-- ---- what is referred to

contained_flat : (es : List ElementDef) (id : List ℕ) → Contains (flat_map references es) id → (e : ElementDef) × Contains es e × Contains (references e) id
contained_flat [] id (k, l, at) = absurd (omega arith)
contained_flat (x ∷ es) id has = elim (Contains-append_cases (references x) (flat_map references es) id has) [
  | inl h ↦ (x, first_in x es, h)
  | inr h ↦ (let r : (e : ElementDef) × Contains es e × Contains (references e) id = contained_flat es id h in (r.0, Contains-append_right (x ∷ []) es r.0 r.1, r.2))
]

pub flat_contained : (es : List ElementDef) (e : ElementDef) (id : List ℕ) → Contains es e → Contains (references e) id → Contains (flat_map references es) id
flat_contained [] e id (k, l, at) names = absurd (omega arith)
flat_contained (x ∷ es) e id (zero, l, at) names = Contains-append_left (references x) (flat_map references es) id (subst (λ (z : ElementDef). Contains (references z) id) (sym at) names)
flat_contained (x ∷ es) e id (suc k, l, at) names = Contains-append_right (references x) (flat_map references es) id (flat_contained es e id (k, omega arith, at) names)

contained_given : (c : Option (List ℕ)) (id : List ℕ) → Contains (given_id c) id → c ≡ Some id
contained_given None id (k, l, at) = absurd (omega arith)
contained_given (Some x) id has = ap Some (only_one x id has)

-- what a reached place refers to is reached
pub reach_target : (R : Contents) (m : List ℕ) (p : Place) (id : List ℕ) → Reaches R m p → Contains (targets_of R m p) id → Reaches R m (entry id)
reach_target R m p id reach has = elim (Contains-append_cases (flat_map references (elements_of R m p)) (given_id (currency_of R p)) id has) [
  | inl h ↦ (let r : (e : ElementDef) × Contains (elements_of R m p) e × Contains (references e) id = contained_flat (elements_of R m p) id h in element reach r.1 r.2)
  | inr h ↦ currency reach (contained_given (currency_of R p) id h)
]

-- ---- one object is followed

pub visits : (R : Contents) (at : ℕ) (e : DictionaryEntry) (ids : List (List ℕ)) (s t : Marks) → slice_get R.objects at ≡ Some e
    → ((m : List ℕ) → ids ≡ targets_of R m (entry e.id)) → Adds R ids s t → Visits R at s t
visits R at e ids s t there are a = record { closed = closed; grows = a.grows }
  where
    closed : (m : List ℕ) → IsObjectMarked s.marked.items at → AreMarks R m (at ∷ []) s.marked.items s.waiting.items → AreMarks R m [] t.marked.items t.waiting.items
    closed m is inv = record { reached = after.reached; waits = after.waits; closed = λ k f is_k here. by k f here (after.closed k f is_k here) }
      where
        after : AreMarks R m (at ∷ []) t.marked.items t.waiting.items
        after = a.sound m (at ∷ []) (λ id h. reach_target R m (entry e.id) id (inv.reached at e is there) (subst (λ (l : List (List ℕ)). Contains l id) (are m) h)) inv

        by : (k : ℕ) (f : DictionaryEntry) → slice_get R.objects k ≡ Some f → Contains (at ∷ []) k ⊎ Contains t.waiting.items k ⊎ LeadsWithin R m t.marked.items (entry f.id)
            → Contains [] k ⊎ Contains t.waiting.items k ⊎ LeadsWithin R m t.marked.items (entry f.id)
        by k f here (inl h) =
            let again : slice_get R.objects at ≡ Some f = subst (λ n. slice_get R.objects n ≡ Some f) (sym (only_one at k h)) here in
            let equal : e ≡ f = cc in
            inr (inr (subst (λ (z : DictionaryEntry). LeadsWithin R m t.marked.items (entry z.id)) equal (λ id g. a.added id (subst (λ (l : List (List ℕ)). Contains l id) (sym (are m)) g))))
        by k f here (inr rest) = inr rest

pub visits_none : (R : Contents) (at : ℕ) (s : Marks) → slice_get R.objects at ≡ None → Visits R at s s
visits_none R at s none = record {
  closed = λ m is inv. record { reached = inv.reached; waits = inv.waits; closed = λ k f is_k here. by m k f here (inv.closed k f is_k here) };
  grows = grows_not s;
}
  where
    by : (m : List ℕ) (k : ℕ) (f : DictionaryEntry) → slice_get R.objects k ≡ Some f → Contains (at ∷ []) k ⊎ Contains s.waiting.items k ⊎ LeadsWithin R m s.marked.items (entry f.id)
        → Contains [] k ⊎ Contains s.waiting.items k ⊎ LeadsWithin R m s.marked.items (entry f.id)
    by m k f here (inl h) = (let again : slice_get R.objects at ≡ Some f = subst (λ n. slice_get R.objects n ≡ Some f) (sym (only_one at k h)) here in cc)
    by m k f here (inr rest) = inr rest

-- the last that waits is taken
pub popped : (R : Contents) (m : List ℕ) (marked : List Bool) (waiting left : List ℕ) (at : ℕ) → waiting ≡ left ++ at ∷ [] → AreMarks R m [] marked waiting
    → IsObjectMarked marked at × AreMarks R m (at ∷ []) marked left
popped R m marked waiting left at is inv = (
  inv.waits at (subst (λ l. Contains l at) (sym is) (Contains-append_right left (at ∷ []) at (first_in at []))),
  record {
    reached = inv.reached;
    waits = λ k h. inv.waits k (subst (λ l. Contains l k) (sym is) (Contains-append_left left (at ∷ []) k h));
    closed = λ k f is_k here. by k f (inv.closed k f is_k here);
  },
)
  where
    by : (k : ℕ) (f : DictionaryEntry) → Contains [] k ⊎ Contains waiting k ⊎ LeadsWithin R m marked (entry f.id) → Contains (at ∷ []) k ⊎ Contains left k ⊎ LeadsWithin R m marked (entry f.id)
    by k f (inl (i, l, e)) = absurd (omega arith)
    by k f (inr (inl h)) = elim (Contains-append_cases left (at ∷ []) k (subst (λ l. Contains l k) is h)) [ inl g ↦ inr (inl g) | inr g ↦ inl g ]
    by k f (inr (inr h)) = inr (inr h)

-- ---- nothing waits

pub none_in : {A : Type 0} (x : A) → Contains [] x → ⊥
none_in x (k, l, at) = absurd (omega arith)

module _ (R : Contents) (m : List ℕ) (marked : List Bool) (inv : AreMarks R m [] marked []) (leads : LeadsWithin R m marked message) where
  abbrev IsPlaceMarked : Place → Type 0
  IsPlaceMarked (entry id) = IsIdMarked R marked id
  IsPlaceMarked _ = Unit {0}

  entry_leads : (k : ℕ) (e : DictionaryEntry) → slice_get R.objects k ≡ Some e → IsObjectMarked marked k → LeadsWithin R m marked (entry e.id)
  entry_leads k e here is = by (inv.closed k e is here)
    where
      by : Contains [] k ⊎ Contains [] k ⊎ LeadsWithin R m marked (entry e.id) → LeadsWithin R m marked (entry e.id)
      by (inl (i, l, at)) = absurd (omega arith)
      by (inr (inl (i, l, at))) = absurd (omega arith)
      by (inr (inr h)) = h

  of_place : (q : Place) (e : ElementDef) (id : List ℕ) → Contains (elements_of R m q) e → Contains (references e) id → IsPlaceMarked q → IsIdMarked R marked id
  of_place message e id has names h = leads id (Contains-append_left (flat_map references (elements_of R m message)) [] id (flat_contained (elements_of R m message) e id has names))
  of_place (entry other) e id has names h = by (find_place other R.objects)
    where
      by : IsAbsent other R.objects ⊎ IsFound other R.objects → IsIdMarked R marked id
      by (inl a) = absurd (none_in e (subst (λ (o : Option Object). Contains (elements_or_none o) e) a.none has))
      by (inr f) =
          entry_leads f.place f.there f.at (h f.place f.there f.at f.named) id
          (subst (λ z. Contains (targets_of R m (entry z)) id) (sym f.named)
          (Contains-append_left (flat_map references (elements_of R m (entry other))) (given_id (currency_of R (entry other))) id (flat_contained (elements_of R m (entry other)) e id has names)))
  of_place _ e id has names h = absurd (none_in e has)

  of_currency : (q : Place) (id : List ℕ) → currency_of R q ≡ Some id → IsPlaceMarked q → IsIdMarked R marked id
  of_currency (entry other) id is h = by (find_place other R.objects)
    where
      by : IsAbsent other R.objects ⊎ IsFound other R.objects → IsIdMarked R marked id
      by (inl a) = (let none : currency_or_none None ≡ Some id = subst (λ (o : Option Object). currency_or_none o ≡ Some id) a.none is in cc)
      by (inr f) =
          entry_leads f.place f.there f.at (h f.place f.there f.at f.named) id
          (subst (λ z. Contains (targets_of R m (entry z)) id) (sym f.named)
          (Contains-append_right (flat_map references (elements_of R m (entry other))) (given_id (currency_of R (entry other))) id
          (subst (λ (c : Option (List ℕ)). Contains (given_id c) id) (sym is) (first_in id []))))
  of_currency _ id is h = cc

  -- so all that is reached is marked
  pub all_marked : (p : Place) → Reaches R m p → IsPlaceMarked p
  all_marked _ itself = tt
  all_marked _ (element {p = q} {e} {id} reach has names) = of_place q e id has names (all_marked q reach)
  all_marked _ (currency {p = q} {id} reach is) = of_currency q id is (all_marked q reach)

-- ---- elements one after the other

pub adds_more : (R : Contents) (es : List ElementDef) (n : ℕ) (e : ElementDef) → n < length es → get_or es n e ≡ e → (s t u : Marks)
    → Adds R (flat_map references (take n es)) s t → Adds R (references e) t u → Adds R (flat_map references (take (n + 1) es)) s u
adds_more R es n e within at s t u a b =
    subst (λ ids. Adds R ids s u) (sym grown) (adds_append R (flat_map references (take n es)) (references e) s t u a b)
  where
    grown : flat_map references (take (n + 1) es) ≡ flat_map references (take n es) ++ references e
    grown =
        ap (flat_map references) (take_more es n e within ∙ ap (λ (x : ElementDef). take n es ++ x ∷ []) at)
        ∙ flat_map-append references (take n es) (e ∷ []) ∙ ap (λ ids. flat_map references (take n es) ++ ids) (append-nil (references e))

-- what an object refers to, found by its id
pub entry_targets : (R : Contents) (e : DictionaryEntry) (m : List ℕ) → find_entry e.id R.objects ≡ Some e.object
    → flat_map references (kind_elements e.object.kind e.object.elements) ++ given_id (kind_currency e.object.kind e.object.currency) ≡ targets_of R m (entry e.id)
entry_targets R e m found = ap (λ (o : Option Object). flat_map references (elements_or_none o) ++ given_id (currency_or_none o)) (sym found)

-- what is marked stays so
pub leads_on : (R : Contents) (m : List ℕ) (p : Place) {s t : Marks} → Grows s t → LeadsWithin R m s.marked.items p → LeadsWithin R m t.marked.items p
leads_on R m p grows leads id has k e at same = grows.kept k (leads id has k e at same)

-- ---- the start, and the end

pub fresh_marks : (R : Contents) (m : List ℕ) (n : ℕ) (marked : List Bool) (waiting : List ℕ) → marked ≡ replicate n false → waiting ≡ [] → AreMarks R m [] marked waiting
fresh_marks R m n marked waiting is none = record {
  reached = λ k e on here. absurd (never k on);
  waits = λ k has. absurd (none_in k (subst (λ l. Contains l k) none has));
  closed = λ k e on here. absurd (never k on);
}
  where
    never : (k : ℕ) → IsObjectMarked marked k → ⊥
    never k on =
        let l : k < n = (let w : k < length marked = mark_within marked k on in omega (arith, ap length is, length-replicate n false)) in
        true≢false (sym on ∙ ap (λ xs. get_or xs k false) is ∙ get_or-replicate n k false false l)

-- what the message refers to is marked first
pub started : (R : Contents) (m : List ℕ) (d : MessageDef) (s t : Marks) → find_message m R.messages ≡ Some d → AreMarks R m [] s.marked.items s.waiting.items
    → Adds R (flat_map references d.blocks ++ []) s t → AreMarks R m [] t.marked.items t.waiting.items × LeadsWithin R m t.marked.items message
started R m d s t found inv a = (
  a.sound m [] (λ id has. reach_target R m message id itself (subst (λ ids. Contains ids id) are has)) inv,
  λ id has. a.added id (subst (λ ids. Contains ids id) (sym are) has),
)
  where
    are : flat_map references d.blocks ++ [] ≡ targets_of R m message
    are = ap (λ (o : Option MessageDef). flat_map references (blocks_or_none o) ++ []) (sym found)

-- the marked objects are those that are reached
pub marked_reached : (R : Contents) (m : List ℕ) (marked : List Bool) → AreMarks R m [] marked [] → LeadsWithin R m marked message
    → (k : ℕ) (e : DictionaryEntry) → slice_get R.objects k ≡ Some e → IsObjectMarked marked k ↔ Reaches R m (entry e.id)
marked_reached R m marked inv leads k e here = (λ on. inv.reached k e on here, λ reach. all_marked R m marked inv leads (entry e.id) reach k e here refl)

pub has_reach : (R : Contents) (m : List ℕ) (at : ℕ) (d : MessageDef) (marked : List Bool) (objects : List ℕ) → slice_get R.messages at ≡ Some d → find_message m R.messages ≡ Some d
    → length marked ≡ length R.objects → AreMarks R m [] marked [] × LeadsWithin R m marked message → AllPairs (λ i j. i < j) objects → ((k : ℕ) → Contains objects k ↔ IsObjectMarked marked k)
    → HasReach R m (record { message = at; objects = objects })
has_reach R m at d marked objects there first long marks rising places = record {
  definition = d;
  message_is = there;
  first = first;
  rising = rising;
  within = λ k x l. (let w : get_or objects k x < length marked = mark_within marked (get_or objects k x) ((places (get_or objects k x)).0 (Contains-get_or objects k x l)) in omega arith);
  reached = λ k e here. (
    λ has. (marked_reached R m marked marks.0 marks.1 k e here).0 ((places k).0 has),
    λ reach. (places k).1 ((marked_reached R m marked marks.0 marks.1 k e here).1 reach),
  );
}
