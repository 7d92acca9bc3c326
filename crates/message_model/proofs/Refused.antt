-- The lowest rule over all is the first that one of the parts tells.
use Rattle.std.proofs.Common.{◌≡◌, ℕ, ◌<◌, ◌⊎◌, List, Some, None, refl, sym, ap, subst, ◌∙◌, arith, inl, inr}
use Rattle.std.specs.Prelude.{slice_get}
use Rattle.std.proofs.lemmas.Bool.{cases_lt}
use Rattle.std.proofs.lemmas.Option.{slice_get_within, get_or_from_slice_get, same_Some}
use Rattle.repo_objects.specs.declared.objects.Object.{Object}
use Rattle.repo_objects.specs.Repository.{DictionaryEntry, Contents, IsRepository}
use Rattle.reference_check.specs.declared.reached.Reach.{Reach}
use Rattle.reference_check.specs.declared.reached.ReadyError.{ReadyError}
use Rattle.reference_check.specs.declared.reached.ReadyError.TheVariants.{Broken, Memory}
use Rattle.reference_check.specs.Graph.{Place, entry}
use Rattle.reference_check.specs.Reach.{Reaches, rank_of}
use Rattle.reference_check.specs.Reached.{HasReach, IsReachFor, TellsBroken}
use Rattle.reference_check.specs.Rules as rules
use Rattle.reference_check.specs.Rules.{Rule, OfObject, IsSound, IsStructure, IsTailRule}
use Rattle.message_model.specs.FacetRules.{HasBadFacets}
use Rattle.message_model.specs.Ready.{MessageRule, OnObjects, BadFacets, BadPattern, message_rule_number, BreaksMessageRule, HasBadPattern, HasGoodFacets, IsReady, TellsRefused}
use Rattle.message_model.specs.inner.FirstPlaces.{IsFirstPlace, TellsPlace, TellsEntry}
use Rattle.message_model.proofs.Places.{found_entry, finds_at, ranks_at}
use Rattle.message_model.proofs.Compilable.{contains_at, at_contains}

-- a rule of structure, or one of the others
pub part : (r : Rule) → IsStructure r ⊎ IsTailRule r
part rules.NoMessage = inl (omega arith)
part rules.TwoMessages = inl (omega arith)
part rules.Dangling = inl (omega arith)
part rules.BadCurrency = inl (omega arith)
part rules.NotOneReference = inl (omega arith)
part rules.BadName = inl (omega arith)
part rules.TagTwice = inl (omega arith)
part rules.BadBounds = inl (omega arith)
part rules.OptionalAlternative = inl (omega arith)
part rules.NoAlternatives = inl (omega arith)
part rules.Endless = inl (omega arith)
part rules.BadCodes = inr (omega arith)
part rules.LeftOutKind = inr (omega arith)
part rules.NameTwice = inr (omega arith)
part rules.TooMany = inr (omega arith)

module _ (R : Contents) (m : List ℕ) where
  pub from_structure : (e : ReadyError) → TellsBroken R m IsStructure e → TellsRefused R m e
  from_structure (Broken told object) (rule, p, broken, number, name) = (
    OnObjects rule,
    p,
    record {
      reached = broken.reached;
      broken = broken.broken;
      lowest = lowest;
      first = broken.first;
    },
    number,
    name,
  )
    where
      lowest : (r : MessageRule) (q : Place) → message_rule_number r < rules.object_rule_number rule → Reaches R m q → BreaksMessageRule R m r q → ⊥
      lowest (OnObjects r) q lt reach breaks = (let top = broken.asked in let asked : IsStructure r = omega (arith, lt, top) in broken.lowest r q asked lt reach breaks)
      lowest BadFacets q lt reach breaks = (let top = broken.asked in omega (arith, lt, top))
      lowest BadPattern q lt reach breaks = (let top = broken.asked in omega (arith, lt, top))
  from_structure Memory t = tt

  pub from_tail : IsSound R m IsStructure → HasGoodFacets R m → (e : ReadyError) → TellsBroken R m IsTailRule e → TellsRefused R m e
  from_tail sound good (Broken told object) (rule, p, broken, number, name) = (
    OnObjects rule,
    p,
    record {
      reached = broken.reached;
      broken = broken.broken;
      lowest = lowest;
      first = broken.first;
    },
    number,
    name,
  )
    where
      lowest : (r : MessageRule) (q : Place) → message_rule_number r < rules.object_rule_number rule → Reaches R m q → BreaksMessageRule R m r q → ⊥
      lowest (OnObjects r) q lt reach breaks = elim (part r) [
        | inl low ↦ sound r q low reach breaks
        | inr high ↦ broken.lowest r q high lt reach breaks
      ]
      lowest BadFacets q lt reach breaks = good.facets q reach breaks
      lowest BadPattern q lt reach breaks = good.patterns q reach breaks
  from_tail sound good Memory t = tt

  pub all_ready : IsSound R m IsStructure → HasGoodFacets R m → IsSound R m IsTailRule → IsReady R m
  all_ready low good high (OnObjects r) p reach breaks = elim (part r) [
    | inl is ↦ low r p is reach breaks
    | inr is ↦ high r p is reach breaks
  ]
  all_ready low good high BadFacets p reach breaks = good.facets p reach breaks
  all_ready low good high BadPattern p reach breaks = good.patterns p reach breaks

  module _ (whole : IsRepository R) (r : Reach) (has : HasReach R m r) (Says : Object → Type 0) where
    -- where a reached object stands
    stands_in : (q : Place) → Reaches R m q → OfObject R q Says
        → (k : ℕ) × (e : DictionaryEntry) × (i : ℕ) × (slice_get R.objects k ≡ Some e) × (slice_get r.objects i ≡ Some k) × Says e.object × (rank_of R q ≡ k)
    stands_in q reach (id, o, is, found, says) =
        let at = found_entry R.objects id o found in
        let e : DictionaryEntry = record { id = id; object = o } in
        let i = contains_at r.objects at.0 ((has.reached at.0 e at.1).1 (subst (λ x. Reaches R m x) is reach)) in
        (at.0, e, i.0, at.1, i.1, says, ap (rank_of R) is ∙ ranks_at R whole at.0 e at.1)

    pub none_says : TellsPlace Says R.objects r.objects None → (q : Place) → Reaches R m q → OfObject R q Says → ⊥
    none_says none q reach of = (let s = stands_in q reach of in none s.2 s.0 s.1 s.4 s.3 s.5)

    -- an earlier place stands earlier in the list
    earlier : (i j a b : ℕ) → slice_get r.objects i ≡ Some a → slice_get r.objects j ≡ Some b → a < b → i < j
    earlier i j a b ga gb lt =
        elim (cases_lt i j) [
          | inl below ↦ below
          | inr above ↦ elim (cases_lt j i) [
            | inl over ↦
                let up = has.rising j i 0 over (slice_get_within r.objects i a ga) in
                let ia = get_or_from_slice_get r.objects i a 0 ga in
                let ib = get_or_from_slice_get r.objects j b 0 gb in
                absurd (omega (arith, lt, up, ia, ib))
            | inr other ↦
                let same : i ≡ j = omega arith in
                let equal : a ≡ b = same_Some a b (sym ga ∙ (ap (slice_get r.objects) same ∙ gb)) in
                absurd (omega (arith, lt, equal))
          ]
        ]

    module _ (rule : MessageRule) (gives : (q : Place) → OfObject R q Says → BreaksMessageRule R m rule q) (takes : (q : Place) → BreaksMessageRule R m rule q → OfObject R q Says)
        (lower : (r : MessageRule) (q : Place) → message_rule_number r < message_rule_number rule → Reaches R m q → BreaksMessageRule R m r q → ⊥) where
      pub from_place : (k : ℕ) (e : ReadyError) → IsFirstPlace Says R.objects r.objects k → TellsEntry R.objects (message_rule_number rule) k e → TellsRefused R m e
      from_place k (Broken told object) f (number, name) = (
        rule,
        entry f.entry.id,
        record {
          reached = (has.reached k f.entry f.found).0 (at_contains r.objects k f.position f.there);
          broken = gives (entry f.entry.id) (f.entry.id, f.entry.object, refl, finds_at R whole k f.entry f.found, f.holds);
          lowest = lower;
          first = first;
        },
        number,
        name f.entry f.found,
      )
        where
          first : (q : Place) → rank_of R q < rank_of R (entry f.entry.id) → Reaches R m q → BreaksMessageRule R m rule q → ⊥
          first q lt reach breaks =
              let s = stands_in q reach (takes q breaks) in
              let here : rank_of R (entry f.entry.id) ≡ k = ranks_at R whole k f.entry f.found in
              let below : s.0 < k = omega (arith, lt, here, s.6) in
              f.before s.2 s.0 s.1 (earlier s.2 f.position s.0 k s.4 f.there below) s.4 s.3 s.5
      from_place k Memory f t = tt

module _ (R : Contents) (m : List ℕ) (whole : IsRepository R) (r : Reach) (is : IsReachFor R m r) where
  below_facets : (x : MessageRule) (q : Place) → message_rule_number x < 12 → Reaches R m q → BreaksMessageRule R m x q → ⊥
  below_facets (OnObjects x) q lt reach breaks = elim (part x) [
    | inl low ↦ is.sound x q low reach breaks
    | inr high ↦ omega (arith, lt, high)
  ]
  below_facets BadFacets q lt reach breaks = omega (arith, lt)
  below_facets BadPattern q lt reach breaks = omega (arith, lt)

  pub facets_refused : (k : ℕ) (e : ReadyError) → TellsPlace HasBadFacets R.objects r.objects (Some k) → TellsEntry R.objects 12 k e → TellsRefused R m e
  facets_refused k e f t = from_place R m whole r is.has HasBadFacets BadFacets (λ q x. x) (λ q x. x) below_facets k e f t

  below_pattern : TellsPlace HasBadFacets R.objects r.objects None → (x : MessageRule) (q : Place) → message_rule_number x < 13 → Reaches R m q → BreaksMessageRule R m x q → ⊥
  below_pattern none (OnObjects x) q lt reach breaks = elim (part x) [
    | inl low ↦ is.sound x q low reach breaks
    | inr high ↦ omega (arith, lt, high)
  ]
  below_pattern none BadFacets q lt reach breaks = none_says R m whole r is.has HasBadFacets none q reach breaks
  below_pattern none BadPattern q lt reach breaks = omega (arith, lt)

  pub pattern_refused : TellsPlace HasBadFacets R.objects r.objects None → (k : ℕ) (e : ReadyError) → TellsPlace HasBadPattern R.objects r.objects (Some k) → TellsEntry R.objects 13 k e
      → TellsRefused R m e
  pattern_refused none k e f t = from_place R m whole r is.has HasBadPattern BadPattern (λ q x. x) (λ q x. x) (below_pattern none) k e f t

  pub facets_good : TellsPlace HasBadFacets R.objects r.objects None → TellsPlace HasBadPattern R.objects r.objects None → HasGoodFacets R m
  facets_good facets patterns = record {
    facets = none_says R m whole r is.has HasBadFacets facets;
    patterns = none_says R m whole r is.has HasBadPattern patterns;
  }
