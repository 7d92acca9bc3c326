-- What breaks a rule first, of the objects in file order and then the message.
use Rattle.std.proofs.Common.{◌≡◌, ℕ, ◌+◌, ◌<◌, ◌≤◌, List, length, get_or, Some, None, refl, sym, ap, subst, ◌∙◌, arith, ◌⊎◌, inl, inr, Contains}
use Rattle.std.specs.Prelude.{slice_get}
use Rattle.std.proofs.lemmas.Bool.{cases_lt}
use Rattle.std.proofs.lemmas.List.{get_or_default}
use Rattle.std.proofs.lemmas.Option.{slice_get_within, slice_get_cases}
use Rattle.repo_objects.specs.Repository.{DictionaryEntry, Contents, IsRepository}
use Rattle.reference_check.specs.declared.breaker.Breaker.TheVariants.{Object, Message}
use Rattle.reference_check.specs.declared.reached.Reach.{Reach}
use Rattle.reference_check.specs.declared.structure.StructureRule.{StructureRule}
use Rattle.reference_check.specs.inner.First.{TellsFirst}
use Rattle.reference_check.specs.Graph.{Place, document, message, entry, nowhere}
use Rattle.reference_check.specs.Reach.{Reaches, itself, rank_of}
use Rattle.reference_check.specs.Reached.{HasReach}
use Rattle.reference_check.specs.Rules.{Breaks}
use Rattle.reference_check.specs.inner.Subjects.{asked_rule}
use Rattle.reference_check.proofs.Lookups.{IsAbsent, IsFound, find_place, rank_at}
use Rattle.reference_check.proofs.SubjectRules.{absent_breaks}

module _ (R : Contents) (m : List ℕ) (r : Reach) (has : HasReach R m r) (rule : StructureRule) where
  -- none of the first reached objects breaks the rule
  abbrev pub NoneBefore : ℕ → Type 0
  NoneBefore n = (i : ℕ) (e : DictionaryEntry) → i < n → slice_get R.objects (get_or r.objects i 0) ≡ Some e → Breaks R m (asked_rule rule) (entry e.id) → ⊥

  -- a reached object stands among the places
  among : (k : ℕ) (e : DictionaryEntry) → slice_get R.objects k ≡ Some e → Reaches R m (entry e.id) → (i : ℕ) × (i < length r.objects) × (get_or r.objects i 0 ≡ k)
  among k e here reach = go ((has.reached k e here).1 reach)
    where
      go : Contains r.objects k → (i : ℕ) × (i < length r.objects) × (get_or r.objects i 0 ≡ k)
      go (i, l, at) = (i, l, get_or_default r.objects i 0 k l ∙ at)

  no_document : Reaches R m document → ⊥
  no_document h = elim h [ ]

  no_nowhere : Reaches R m nowhere → ⊥
  no_nowhere h = elim h [ ]

  -- of a place that is reached and breaks the rule
  object_breaks : (id : List ℕ) → Reaches R m (entry id) → Breaks R m (asked_rule rule) (entry id)
      → (i : ℕ) × (e : DictionaryEntry) × (i < length r.objects) × (slice_get R.objects (get_or r.objects i 0) ≡ Some e) × (rank_of R (entry id) ≡ get_or r.objects i 0) × Breaks R m (asked_rule rule) (entry e.id)
  object_breaks id reach broken = go (find_place id R.objects)
    where
      go : IsAbsent id R.objects ⊎ IsFound id R.objects
          → (i : ℕ) × (e : DictionaryEntry) × (i < length r.objects) × (slice_get R.objects (get_or r.objects i 0) ≡ Some e) × (rank_of R (entry id) ≡ get_or r.objects i 0) × Breaks R m (asked_rule rule) (entry e.id)
      go (inl a) = absurd (absent_breaks R m id a.none rule broken)
      go (inr f) =
          let at = among f.place f.there f.at (subst (λ z. Reaches R m (entry z)) (sym f.named) reach) in
          (at.0, f.there, at.1, subst (λ k. slice_get R.objects k ≡ Some f.there) (sym at.2) f.at, f.rank ∙ sym at.2, subst (λ z. Breaks R m (asked_rule rule) (entry z)) (sym f.named) broken)

  -- places rise
  earlier : (i j : ℕ) → i < length r.objects → j < length r.objects → get_or r.objects i 0 < get_or r.objects j 0 → i < j
  earlier i j l_i l_j less = elim (cases_lt i j) [
    | inl lt ↦ lt
    | inr past ↦
        elim (cases_lt j i) [
          | inl lt ↦ absurd (let rises : get_or r.objects j 0 < get_or r.objects i 0 = has.rising j i 0 lt l_i in omega arith)
          | inr never ↦ absurd (let same : i ≡ j = omega arith in let equal : get_or r.objects i 0 ≡ get_or r.objects j 0 = ap (λ k. get_or r.objects k 0) same in omega arith)
        ]
  ]

  pub first_object : IsRepository R → (n : ℕ) (e : DictionaryEntry) → n < length r.objects → slice_get R.objects (get_or r.objects n 0) ≡ Some e → Breaks R m (asked_rule rule) (entry e.id) → NoneBefore n
      → TellsFirst R m (asked_rule rule) (Some (Object (get_or r.objects n 0)))
  first_object whole n e l here broken before = (
    entry e.id,
    (e, here, refl),
    record {
      reached = (has.reached (get_or r.objects n 0) e here).0 (n, l, get_or_default r.objects n (get_or r.objects n 0) 0 l);
      broken = broken;
      first = first;
    },
  )
    where
      rank : rank_of R (entry e.id) ≡ get_or r.objects n 0
      rank = rank_at R.objects (get_or r.objects n 0) e whole.distinct here

      within : get_or r.objects n 0 < length R.objects
      within = slice_get_within R.objects (get_or r.objects n 0) e here

      first : (q : Place) → rank_of R q < rank_of R (entry e.id) → Reaches R m q → Breaks R m (asked_rule rule) q → ⊥
      first document less reach h = no_document reach
      first nowhere less reach h = no_nowhere reach
      first message less reach h = (let above : length R.objects < rank_of R (entry e.id) = less in absurd (omega (arith, above, rank, within)))
      first (entry id) less reach h = go (object_breaks id reach h)
        where
          go : (i : ℕ) × (f : DictionaryEntry) × (i < length r.objects) × (slice_get R.objects (get_or r.objects i 0) ≡ Some f) × (rank_of R (entry id) ≡ get_or r.objects i 0) × Breaks R m (asked_rule rule) (entry f.id) → ⊥
          go (i, f, l_i, at, is, b) = before i f (earlier i n l_i l (omega (arith, is, rank, less))) at b

  pub first_message : Breaks R m (asked_rule rule) message → NoneBefore (length r.objects) → TellsFirst R m (asked_rule rule) (Some Message)
  first_message broken before = (message, refl, record { reached = itself; broken = broken; first = first })
    where
      first : (q : Place) → rank_of R q < rank_of R message → Reaches R m q → Breaks R m (asked_rule rule) q → ⊥
      first document less reach h = no_document reach
      first nowhere less reach h = no_nowhere reach
      first message less reach h = omega arith
      first (entry id) less reach h = (let b = object_breaks id reach h in before b.0 b.1 b.2 b.3 b.5)

  pub none_breaks : (Breaks R m (asked_rule rule) message → ⊥) → NoneBefore (length r.objects) → TellsFirst R m (asked_rule rule) None
  none_breaks other before document reach h = no_document reach
  none_breaks other before nowhere reach h = no_nowhere reach
  none_breaks other before message reach h = other h
  none_breaks other before (entry id) reach h = (let b = object_breaks id reach h in before b.0 b.1 b.2 b.3 b.5)

  -- one object more does not break the rule
  pub none_more : (n : ℕ) → NoneBefore n → ((e : DictionaryEntry) → slice_get R.objects (get_or r.objects n 0) ≡ Some e → Breaks R m (asked_rule rule) (entry e.id) → ⊥) → NoneBefore (n + 1)
  none_more n before not_this i e less at broken = elim (cases_lt i n) [
    | inl lt ↦ before i e lt at broken
    | inr past ↦ (let same : i ≡ n = omega arith in not_this e (subst (λ k. slice_get R.objects (get_or r.objects k 0) ≡ Some e) same at) broken)
  ]

  -- a place of a reached object has an entry
  pub entry_there : (n : ℕ) → n < length r.objects → (e : DictionaryEntry) × (slice_get R.objects (get_or r.objects n 0) ≡ Some e)
  entry_there n l = by (slice_get_cases R.objects (get_or r.objects n 0)).1
    where
      by : ((x : DictionaryEntry) × (get_or r.objects n 0 < length R.objects) × (slice_get R.objects (get_or r.objects n 0) ≡ Some x) × (get_or R.objects (get_or r.objects n 0) x ≡ x))
          ⊎ ((length R.objects ≤ get_or r.objects n 0) × (slice_get R.objects (get_or r.objects n 0) ≡ None)) → (e : DictionaryEntry) × (slice_get R.objects (get_or r.objects n 0) ≡ Some e)
      by (inl (x, w, there, at)) = (x, there)
      by (inr (past, at)) = absurd (let w : get_or r.objects n 0 < length R.objects = has.within n 0 l in omega arith)
