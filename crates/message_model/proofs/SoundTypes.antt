-- What the types of a message are that breaks no rule.
use Rattle.std.proofs.Common.{◌≡◌, ℕ, zero, suc, ◌<◌, ◌≤◌, true, List, [], ◌∷◌, length, Option, Some, None, refl, sym, ap, subst, ◌∙◌, arith, inl, inr}
use Rattle.std.specs.Prelude.{slice_get, Contains}
use Rattle.std.proofs.lemmas.Bool.{cases_lt}
use Rattle.std.proofs.lemmas.Option.{same_Some}
use Rattle.std.proofs.lemmas.Slice.Eq.{bytes_eq-Decides}
use Rattle.facets.specs.declared.simple.Simple.{Simple}
use Rattle.facets.specs.LeafChecks.{IsWithinLimits}
use Rattle.repo_objects.specs.declared.objects.ElementDef.{ElementDef}
use Rattle.repo_objects.specs.declared.objects.MessageDef.{MessageDef}
use Rattle.repo_objects.specs.declared.objects.Object.{Object}
use Rattle.repo_objects.specs.declared.objects.Kinds.{Kinds}
use Rattle.repo_objects.specs.declared.objects.Kinds.TheVariants as kinds
use Rattle.repo_objects.specs.declared.objects.ObjectKind.{ObjectKind}
use Rattle.repo_objects.specs.declared.objects.ObjectKind.TheVariants as object
use Rattle.repo_objects.specs.Repository.{Contents}
use Rattle.reference_check.specs.Graph.{Place, document, message, entry, nowhere, one_of, references, find_entry, find_message}
use Rattle.reference_check.specs.Reach.{Reaches, itself, element, currency, elements_of, elements_or_none, blocks_or_none, currency_of, currency_or_none, kind_elements, kind_currency}
use Rattle.reference_check.specs.Rules.{UpToMax, IsTextKind, set_codes, NoMessage, BadCurrency, NotOneReference, TagTwice, BadBounds, OptionalAlternative, TooMany}
use Rattle.reference_check.specs.Forms.{Slot, Form, Sequence, Choice, Money, Envelope, LeftOut, Missing, form_slots, form_to, text_type}
use Rattle.reference_check.specs.Forms as form
use Rattle.reference_check.specs.Graph.{slot_of, simple_form, object_form, entry_form, message_form, document_form}
use Rattle.reference_check.specs.Words.{UpTo}
use Rattle.reference_check.specs.Steps.{find_slot, has_room}
use Rattle.message_model.specs.SimpleTypes.{facets_of}
use Rattle.message_model.specs.Sound.{IsSoundForm, IsNoOption, HasNumber}
use Rattle.message_model.specs.Ready.{IsReady, OnObjects, BadFacets}
use Rattle.message_model.specs.Compiled.{types}
use Rattle.message_model.proofs.Compilable.{object_there, at_contains}
use Rattle.message_model.proofs.SoundElements.{AreSoundElements, slots_by, slot_from, sequence_sound, choice_sound}
use Rattle.message_model.proofs.SoundFacets.{facets_limits, amount_number}

-- a test that can be made
fits_surely : (n : ℕ) (max : Option ℕ) → ((UpToMax n max → ⊥) → ⊥) → UpToMax n max
fits_surely n None h = tt
fits_surely n (Some top) h =
    elim (cases_lt top n) [
      | inl above ↦ absurd (h (λ (a, b). omega (arith, a, above)))
      | inr below ↦ elim (cases_lt 0 top) [
        | inl some ↦ (below, some)
        | inr none ↦ absurd (h (λ (a, b). omega (arith, b, none)))
      ]
    ]

-- a form without slots
plain_sound : {P : Type 0} (s : Simple) → IsWithinLimits s → IsSoundForm {P = P} (form.Simple s)
plain_sound s limits = record {
  tags = λ k s at. absurd cc;
  bounds = λ k s at. absurd cc;
  room = λ k s at. absurd cc;
  short = omega arith;
  alternatives = tt;
  number = tt;
  limits = λ simple is. subst IsWithinLimits (same_Some s simple is) limits;
}

empty_sound : {P : Type 0} (f : Form P Simple) → form_slots f ≡ [] → IsNoOption f → HasNumber f → text_type f ≡ None → IsSoundForm f
empty_sound {P} f none alternatives number no_text = record {
  tags = λ k s at. absurd (past k s at);
  bounds = λ k s at. absurd (past k s at);
  room = λ k s at. absurd (past k s at);
  short = subst (λ (xs : List (Slot P)). length xs ≤ 4096) (sym none) (omega arith);
  alternatives = alternatives;
  number = number;
  limits = λ simple h. absurd cc;
}
  where
    past : (k : ℕ) (s : Slot P) → slice_get (form_slots f) k ≡ Some s → ⊥
    past k s at = (let here : slice_get [] k ≡ Some s = subst (λ (xs : List (Slot P)). slice_get xs k ≡ Some s) none at in cc)

envelope_sound : {P : Type 0} → IsSoundForm {P = P} Envelope
envelope_sound = empty_sound Envelope refl tt tt refl

left_out_sound : {P : Type 0} → IsSoundForm {P = P} LeftOut
left_out_sound = empty_sound LeftOut refl tt tt refl

missing_sound : {P : Type 0} → IsSoundForm {P = P} Missing
missing_sound = empty_sound Missing refl tt tt refl

module _ (R : Contents) (m : List ℕ) (ready : IsReady R m) where
  pub elements_sound : (p : Place) → Reaches R m p → AreSoundElements (elements_of R m p)
  elements_sound p reach = record {
    apart = λ i j a b lt ga gb same. ready (OnObjects TagTwice) p reach (i, j, a, b, lt, ga, gb, same);
    bounds = λ e inside. fits_surely e.min e.max (λ wrong. ready (OnObjects BadBounds) p reach (e, inside, wrong));
    few = elim (cases_lt 4096 (length (elements_of R m p))) [
      | inl above ↦ absurd (ready (OnObjects TooMany) p reach (inl above))
      | inr below ↦ below
    ];
  }

  module _ (id : List ℕ) (o : Object) (reach : Reaches R m (entry id)) (found : find_entry id R.objects ≡ Some o) where
    kind_sound : AreSoundElements (kind_elements o.kind o.elements)
    kind_sound = subst (λ x. AreSoundElements (elements_or_none x)) found (elements_sound (entry id) reach)

    limits : IsWithinLimits (facets_of R o)
    limits = facets_limits R o (λ bad. ready BadFacets (entry id) reach (id, o, refl, found, bad)) (
        elim (cases_lt 65536 (length (set_codes o))) [
          | inl above ↦ absurd (ready (OnObjects TooMany) (entry id) reach (inr (inl (id, o, refl, found, inl above))))
          | inr below ↦ below
        ]
        )

    positive : o.kind ≡ object.Choice → (e : ElementDef) → Contains o.elements e → 0 < e.min
    positive is e inside =
        elim (cases_lt 0 e.min) [
          | inl some ↦ some
          | inr none ↦ (let zero : e.min ≡ 0 = omega arith in absurd (ready (OnObjects OptionalAlternative) (entry id) reach (id, o, refl, found, (is, e, inside, zero))))
        ]

    amount_sound : (c : Option (List ℕ)) → o.kind ≡ object.Simple kinds.Amount → IsSoundForm (form_to (λ q. q) (facets_of R) (simple_form R o kinds.Amount c))
    amount_sound None is = plain_sound (facets_of R o) limits
    amount_sound (Some c) is = record {
      tags = λ k s at. absurd cc;
      bounds = λ k s at. absurd cc;
      room = λ k s at. absurd cc;
      short = omega arith;
      alternatives = tt;
      number = amount_number R o is;
      limits = λ simple is. subst IsWithinLimits (same_Some (facets_of R o) simple is) limits;
    }

    simple_sound : (k : Kinds) → o.kind ≡ object.Simple k → IsSoundForm (form_to (λ q. q) (facets_of R) (simple_form R o k o.currency))
    simple_sound kinds.Amount is = amount_sound o.currency is
    simple_sound _ is = plain_sound (facets_of R o) limits

    pub object_sound : (k : ObjectKind) → o.kind ≡ k → IsSoundForm (form_to (λ q. q) (facets_of R) (object_form R o k))
    object_sound (object.Simple k) is = simple_sound k is
    object_sound object.Component is = sequence_sound o.elements (subst (λ k. AreSoundElements (kind_elements k o.elements)) is kind_sound)
    object_sound object.Choice is = choice_sound o.elements (subst (λ k. AreSoundElements (kind_elements k o.elements)) is kind_sound) (positive is)
    object_sound object.External is = envelope_sound
    object_sound object.Other is = left_out_sound

  -- ---- at each place

  abbrev only_slot : MessageDef → Slot Place
  only_slot d = record { tag = d.tag; min = 1; max = Some 1; target = message }

  slot_sound : (d : MessageDef) → IsSoundForm (form_to (λ q. q) (facets_of R) (document_form (Some d)))
  slot_sound d = record {
    tags = tags;
    bounds = bounds;
    room = room;
    short = omega arith;
    alternatives = tt;
    number = tt;
    limits = λ simple h. absurd cc;
  }
    where
      tags : (k : ℕ) (s : Slot Place) → slice_get (only_slot d ∷ []) k ≡ Some s → find_slot 0 (only_slot d ∷ []) s.tag ≡ Some k
      tags zero s at =
          let same : d.tag ≡ s.tag = ap (λ (x : Slot Place). x.tag) (same_Some (only_slot d) s at) in
          rw ((bytes_eq-Decides d.tag s.tag).1 same) refl
      tags (suc k) s at = absurd cc

      bounds : (k : ℕ) (s : Slot Place) → slice_get (only_slot d ∷ []) k ≡ Some s → UpTo s.min s.max
      bounds zero s at = subst (λ (x : Slot Place). UpTo x.min x.max) (same_Some (only_slot d) s at) (omega arith)
      bounds (suc k) s at = absurd cc

      room : (k : ℕ) (s : Slot Place) → slice_get (only_slot d ∷ []) k ≡ Some s → has_room 0 s.max ≡ true
      room zero s at = subst (λ (x : Slot Place). has_room 0 x.max ≡ true) (same_Some (only_slot d) s at) refl
      room (suc k) s at = absurd cc

  document_sound : (d : Option MessageDef) → IsSoundForm (form_to (λ q. q) (facets_of R) (document_form d))
  document_sound None = missing_sound
  document_sound (Some d) = slot_sound d

  message_sound : (d : Option MessageDef) → AreSoundElements (blocks_or_none d) → IsSoundForm (form_to (λ q. q) (facets_of R) (message_form d))
  message_sound None sound = missing_sound
  message_sound (Some d) sound = sequence_sound d.blocks sound

  entry_sound : (id : List ℕ) → Reaches R m (entry id) → IsSoundForm (types R m (entry id))
  entry_sound id reach =
      let there = object_there R m ready id reach in
      subst (λ x. IsSoundForm (form_to (λ q. q) (facets_of R) (entry_form R x))) (sym there.1) (object_sound id there.0 reach there.1 there.0.kind refl)

  -- the place of a type of the message
  abbrev pub IsTypePlace : Place → Type 0
  IsTypePlace document = Unit {0}
  IsTypePlace message = Unit {0}
  IsTypePlace (entry id) = Reaches R m (entry id)
  IsTypePlace nowhere = Unit {0}

  pub types_sound : (p : Place) → IsTypePlace p → IsSoundForm (types R m p)
  types_sound document at = document_sound (find_message m R.messages)
  types_sound message at = message_sound (find_message m R.messages) (elements_sound message itself)
  types_sound (entry id) at = entry_sound id at
  types_sound nowhere at = missing_sound

  pub types_root : (slots : List (Slot Place)) × (types R m document ≡ form.Sequence slots)
  types_root = by (find_message m R.messages) refl
    where
      by : (d : Option MessageDef) → find_message m R.messages ≡ d → (slots : List (Slot Place)) × (types R m document ≡ form.Sequence slots)
      by None h = absurd (ready (OnObjects NoMessage) message itself (refl, h))
      by (Some d) h = (only_slot d ∷ [], ap (λ x. form_to (λ q. q) (facets_of R) (document_form x)) h)

  -- ---- the codes of amounts

  text_form : (o : Object) (k : ObjectKind) → IsTextKind k → form_to (λ q. q) (facets_of R) (object_form R o k) ≡ form.Simple (facets_of R o)
  text_form o (object.Simple kinds.Text) is = refl
  text_form o (object.Simple kinds.CodeSet) is = refl
  text_form o (object.Simple kinds.IdentifierSet) is = refl
  text_form o (object.Simple _) is = absurd is
  text_form o _ is = absurd is

  text_surely : (k : ObjectKind) → ((IsTextKind k → ⊥) → ⊥) → IsTextKind k
  text_surely (object.Simple kinds.Text) h = tt
  text_surely (object.Simple kinds.CodeSet) h = tt
  text_surely (object.Simple kinds.IdentifierSet) h = tt
  text_surely (object.Simple _) h = absurd (h (λ is. is))
  text_surely _ h = absurd (h (λ is. is))

  code_form : (id c : List ℕ) → Reaches R m (entry id) → currency_of R (entry id) ≡ Some c → (simple : Simple) × (types R m (entry c) ≡ form.Simple simple)
  code_form id c reach is =
      let there = object_there R m ready c (currency reach is) in
      let text : IsTextKind there.0.kind = text_surely there.0.kind (λ other. ready (OnObjects BadCurrency) (entry id) reach (c, there.0, is, there.1, other)) in
      (facets_of R there.0, ap (λ x. form_to (λ q. q) (facets_of R) (entry_form R x)) there.1 ∙ text_form there.0 there.0.kind text)

  money_kind : (o : Object) (k : Kinds) (c : Option (List ℕ)) (q : Place) (number : Simple) → form_to (λ x. x) (facets_of R) (simple_form R o k c) ≡ Money q number
      → (id : List ℕ) × (c ≡ Some id) × (q ≡ entry id) × (k ≡ kinds.Amount)
  money_kind o kinds.Amount None q number h = absurd cc
  money_kind o kinds.Amount (Some id) q number h = (id, refl, cc, refl)
  money_kind o _ c q number h = absurd cc

  money_object : (o : Object) (k : ObjectKind) (q : Place) (number : Simple) → o.kind ≡ k → form_to (λ x. x) (facets_of R) (object_form R o k) ≡ Money q number
      → (id : List ℕ) × (currency_or_none (Some o) ≡ Some id) × (q ≡ entry id)
  money_object o (object.Simple k) q number is h =
      let r = money_kind o k o.currency q number h in
      (r.0, subst (λ x. kind_currency x o.currency ≡ Some r.0) (sym (is ∙ ap object.Simple r.3)) r.1, r.2)
  money_object o object.Component q number is h = absurd cc
  money_object o object.Choice q number is h = absurd cc
  money_object o object.External q number is h = absurd cc
  money_object o object.Other q number is h = absurd cc

  no_document_code : (q : Place) (number : Simple) → types R m document ≡ Money q number → ⊥
  no_document_code q number h = none (find_message m R.messages) h
    where
      none : (d : Option MessageDef) → form_to (λ x. x) (facets_of R) (document_form d) ≡ Money q number → ⊥
      none None h = cc
      none (Some d) h = cc

  no_message_code : (q : Place) (number : Simple) → types R m message ≡ Money q number → ⊥
  no_message_code q number h = none (find_message m R.messages) h
    where
      none : (d : Option MessageDef) → form_to (λ x. x) (facets_of R) (message_form d) ≡ Money q number → ⊥
      none None h = cc
      none (Some d) h = cc

  -- the currency set of an amount
  currency_at : (id : List ℕ) (q : Place) (number : Simple) → Reaches R m (entry id) → types R m (entry id) ≡ Money q number
      → (c : List ℕ) × (currency_of R (entry id) ≡ Some c) × (q ≡ entry c)
  currency_at id q number at h =
      let there = object_there R m ready id at in
      let form : form_to (λ x. x) (facets_of R) (object_form R there.0 there.0.kind) ≡ Money q number = ap (λ x. form_to (λ q. q) (facets_of R) (entry_form R x)) (sym there.1) ∙ h in
      let r = money_object there.0 there.0.kind q number refl form in
      (r.0, ap currency_or_none there.1 ∙ r.1, r.2)

  pub types_codes : (p q : Place) (number : Simple) → IsTypePlace p → types R m p ≡ Money q number → (simple : Simple) × (types R m q ≡ form.Simple simple)
  types_codes document q number at h = absurd (no_document_code q number h)
  types_codes message q number at h = absurd (no_message_code q number h)
  types_codes (entry id) q number at h =
      let r = currency_at id q number at h in
      let c = code_form id r.0 at r.1 in
      (c.0, ap (types R m) r.2 ∙ c.1)
  types_codes nowhere q number at h = absurd cc

  -- ---- what elements lead to

  simple_there : (o : Object) (k : Kinds) (c : Option (List ℕ)) → form_to (λ q. q) (facets_of R) (simple_form R o k c) ≡ Missing → ⊥
  simple_there o kinds.Amount None h = cc
  simple_there o kinds.Amount (Some c) h = cc
  simple_there o _ c h = cc

  object_is_there : (o : Object) (k : ObjectKind) → form_to (λ q. q) (facets_of R) (object_form R o k) ≡ Missing → ⊥
  object_is_there o (object.Simple k) h = simple_there o k o.currency h
  object_is_there o object.Component h = cc
  object_is_there o object.Choice h = cc
  object_is_there o object.External h = cc
  object_is_there o object.Other h = cc

  entry_there : (id : List ℕ) → Reaches R m (entry id) → types R m (entry id) ≡ Missing → ⊥
  entry_there id reach h =
      let there = object_there R m ready id reach in
      object_is_there there.0 there.0.kind (ap (λ x. form_to (λ q. q) (facets_of R) (entry_form R x)) (sym there.1) ∙ h)

  message_there : types R m message ≡ Missing → ⊥
  message_there h = by (find_message m R.messages) refl
    where
      by : (d : Option MessageDef) → find_message m R.messages ≡ d → ⊥
      by None f = ready (OnObjects NoMessage) message itself (refl, f)
      by (Some d) f =
          let some : form_to (λ q. q) (facets_of R) (message_form (Some d)) ≡ Missing = ap (λ x. form_to (λ q. q) (facets_of R) (message_form x)) (sym f) ∙ h in
          cc

  -- a type that is led to: the message, or an object that it reaches
  abbrev pub IsTarget : Place → Type 0
  IsTarget document = ⊥
  IsTarget message = Unit {0}
  IsTarget (entry id) = Reaches R m (entry id)
  IsTarget nowhere = ⊥

  target_there : (q : Place) → IsTarget q → types R m q ≡ Missing → ⊥
  target_there document at h = at
  target_there message at h = message_there h
  target_there (entry id) at h = entry_there id at h
  target_there nowhere at h = at

  element_leads : (p : Place) → Reaches R m p → (e : ElementDef) → Contains (elements_of R m p) e → IsTarget (slot_of e).target
  element_leads p reach e inside = by (references e) refl
    where
      by : (ids : List (List ℕ)) → references e ≡ ids → IsTarget (slot_of e).target
      by [] k = absurd (ready (OnObjects NotOneReference) p reach (e, inside, λ one. omega (arith, one, ap length k)))
      by (id ∷ []) k =
          let named : Contains (references e) id = subst (λ ids. Contains ids id) (sym k) (0, omega arith, refl) in
          subst (λ ids. IsTarget (one_of ids)) (sym k) (element reach inside named)
      by (id ∷ (other ∷ ids)) k = absurd (ready (OnObjects NotOneReference) p reach (e, inside, λ one. omega (arith, one, ap length k)))

  -- of elements that are among those of a place
  among_leads : (p : Place) → Reaches R m p → (es : List ElementDef) → elements_of R m p ≡ es → (k : ℕ) (s : Slot Place) → slice_get (slots_by es) k ≡ Some s → IsTarget s.target
  among_leads p reach es are k s at =
      let e = slot_from es k s at in
      let inside : Contains (elements_of R m p) e.0 = subst (λ xs. Contains xs e.0) (sym are) (at_contains es e.0 k e.1) in
      subst (λ (x : Slot Place). IsTarget x.target) (sym e.2) (element_leads p reach e.0 inside)

  kind_leads : (id : List ℕ) (o : Object) (reach : Reaches R m (entry id)) (found : find_entry id R.objects ≡ Some o) (kind : ObjectKind) → o.kind ≡ kind
      → (k : ℕ) (s : Slot Place) → slice_get (form_slots (form_to (λ q. q) (facets_of R) (object_form R o kind))) k ≡ Some s → IsTarget s.target
  kind_leads id o reach found (object.Simple kind) is k s at = absurd (none kind o.currency at)
    where
      none : (kind : Kinds) (c : Option (List ℕ)) → slice_get (form_slots (form_to (λ q. q) (facets_of R) (simple_form R o kind c))) k ≡ Some s → ⊥
      none kinds.Amount None at = cc
      none kinds.Amount (Some c) at = cc
      none _ c at = cc
  kind_leads id o reach found object.Component is k s at = among_leads (entry id) reach o.elements (ap elements_or_none found ∙ ap (λ x. kind_elements x o.elements) is) k s at
  kind_leads id o reach found object.Choice is k s at = among_leads (entry id) reach o.elements (ap elements_or_none found ∙ ap (λ x. kind_elements x o.elements) is) k s at
  kind_leads id o reach found object.External is k s at = absurd cc
  kind_leads id o reach found object.Other is k s at = absurd cc

  pub types_lead : (p : Place) → IsTypePlace p → (k : ℕ) (s : Slot Place) → slice_get (form_slots (types R m p)) k ≡ Some s → IsTarget s.target
  types_lead document at k s there = by (find_message m R.messages) k there
    where
      by : (d : Option MessageDef) (k : ℕ) → slice_get (form_slots (form_to (λ q. q) (facets_of R) (document_form d))) k ≡ Some s → IsTarget s.target
      by None k there = absurd cc
      by (Some d) zero there = subst (λ (x : Slot Place). IsTarget x.target) (same_Some (record { tag = d.tag; min = 1; max = Some 1; target = message }) s there) tt
      by (Some d) (suc k) there = absurd cc
  types_lead message at k s there = by (find_message m R.messages) refl there
    where
      by : (d : Option MessageDef) → find_message m R.messages ≡ d → slice_get (form_slots (form_to (λ q. q) (facets_of R) (message_form d))) k ≡ Some s → IsTarget s.target
      by None f there = absurd cc
      by (Some d) f there = among_leads message itself d.blocks (ap blocks_or_none f) k s there
  types_lead (entry id) at k s there =
      let found = object_there R m ready id at in
      kind_leads id found.0 at found.1 found.0.kind refl k s (subst (λ x. slice_get (form_slots (form_to (λ q. q) (facets_of R) (entry_form R x))) k ≡ Some s) found.1 there)
  types_lead nowhere at k s there = absurd cc

  pub types_linked : (p : Place) → IsTypePlace p → (k : ℕ) (s : Slot Place) → slice_get (form_slots (types R m p)) k ≡ Some s → types R m s.target ≡ Missing → ⊥
  types_linked p at k s there h = target_there s.target (types_lead p at k s there) h

  pub code_leads : (p q : Place) (number : Simple) → IsTypePlace p → types R m p ≡ Money q number → IsTarget q
  code_leads document q number at h = absurd (no_document_code q number h)
  code_leads message q number at h = absurd (no_message_code q number h)
  code_leads (entry id) q number at h = (let c = currency_at id q number at h in subst IsTarget (sym c.2) (currency at c.1))
  code_leads nowhere q number at h = absurd cc
