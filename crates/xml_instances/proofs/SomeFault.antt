-- No bytes neither spell an instance nor have a first fault.
use Rattle.std.proofs.Common.{◌≡◌, ◌⊎◌, inl, inr, ℕ, true, false, List, [], ◌∷◌, ◌++◌, Option, Some, None, Result, Ok, Err, refl, sym, ap, subst}
use Rattle.std.specs.Prelude.{slice_get}
use Rattle.std.specs.Str.{chars}
use Rattle.lexical_core.specs.declared.rule.Rule.{Rule}
use Rattle.lexical_core.specs.Tree.{Item, Entry, Expanded, Starts, Char, Ends, Skipped}
use Rattle.lexical_core.specs.Names.{attribute_value}
use Rattle.data_types.specs.Leaf.{Leaf}
use Rattle.facets.specs.declared.simple.Simple.{Simple}
use Rattle.facets.specs.LeafUnder.{LeafUnder}
use Rattle.markup.specs.Events.{Placed, events}
use Rattle.markup.specs.Faults.{WholeOrFaulty, IsWhole, MarkFault}
use Rattle.markup.specs.Faults as mark
use Rattle.reference_check.specs.Forms.{Form, Slot, form_slots}
use Rattle.reference_check.specs.Forms as form
use Rattle.reference_check.specs.Steps.{NextSlot}
use Rattle.reference_check.specs.Steps as step
use Rattle.message_model.specs.Writes.{currency}
use Rattle.message_model.specs.Message.{Message}
use Rattle.message_model.specs.Sound.{HaveCodes}
use Rattle.xml_instances.specs.Levels.{Level, Parent, Leaf as LeafLevel, Envelope, Foreign, levels_after, levels_over, form_of_start, form_by, slot_form, round_start, path_in}
use Rattle.xml_instances.specs.EventFaults.{Broken, EventFault, AreFine, Unless, AttributeFault, RequiredFault, CurrencyFault, LeafFault, CodeFault, EndFault, place_fault, unknown_fault}
use Rattle.xml_instances.specs.XmlFaults.{items_told}
use Rattle.xml_instances.specs.Laws.{FineIsSpelled, XmlSpelledOrFaulty}
use Rattle.xml_instances.proofs.FaultAt.{event_fault, markup_fault}

-- no characters are without an answer under a simple type
abbrev pub HasLeafAnswers : Type 0
HasLeafAnswers = (simple : Simple) (text : List ℕ) → ¬ (¬ ((one : Result Leaf Rule) × LeafUnder simple text one))

-- not without an outcome: what is broken, or that nothing is
abbrev Told : (Option Broken → Type 0) → Type 0
Told Breaks = ¬ (¬ ((o : Option Broken) × Breaks o))

module _ {P : Type 0} (m : Message P) (codes : HaveCodes m.forms) (answers : HasLeafAnswers) where
  -- ---- an event breaks a rule, or none

  some_leaf : (simple : Simple) (text path : List ℕ) → Told (LeafFault simple text path)
  some_leaf simple text path lacks = answers simple text by
    where
      by : ((one : Result Leaf Rule) × LeafUnder simple text one) → ⊥
      by (Ok leaf, h) = lacks (None, (leaf, h))
      by (Err rule, h) = lacks (Some (record { rule = rule; path = path }), (h, refl))

  some_currency : (f : Form P Simple) (simple : Simple) → f ≡ form.Simple simple → (value : Option (List ℕ)) (path : List ℕ) → Told (CurrencyFault f value path)
  some_currency f simple is None path lacks = lacks (_, refl)
  some_currency f simple is (Some value) path lacks =
      some_leaf simple (chars value) path (λ (o, h). lacks (o, subst (λ (x : Form P Simple). CodeFault x (chars value) path o) (sym is) h))

  some_required : (p : P) (f : Form P Simple) → m.forms p ≡ f → (attributes : List Entry) (path : List ℕ) → Told (RequiredFault m f attributes path)
  some_required p (form.Money code number) is attributes path lacks = (let c = codes p code number is in some_currency (m.forms code) c.0 c.1 (attribute_value currency attributes) _ lacks)
  some_required p (form.Sequence slots) is attributes path lacks = lacks (None, refl)
  some_required p (form.Choice slots) is attributes path lacks = lacks (None, refl)
  some_required p (form.Simple simple) is attributes path lacks = lacks (None, refl)
  some_required p form.Envelope is attributes path lacks = lacks (None, refl)
  some_required p form.LeftOut is attributes path lacks = lacks (None, refl)
  some_required p form.Missing is attributes path lacks = lacks (None, refl)

  some_unless : (first : Option Broken) (Other : Option Broken → Type 0) → Told Other → Told (Unless first Other)
  some_unless None Other other = other
  some_unless (Some b) Other other = λ lacks. lacks (Some b, refl)

  -- the form is that of a type, where there is one
  abbrev IsOfType : Option (Form P Simple) → Type 0
  IsOfType None = Unit {0}
  IsOfType (Some f) = (p : P) × (m.forms p ≡ f)

  some_attributes : (f : Option (Form P Simple)) → IsOfType f → (attributes : List Entry) (path : List ℕ) → Told (AttributeFault m f attributes path)
  some_attributes None is attributes path lacks = lacks (None, refl)
  some_attributes (Some f) (p, is) attributes path lacks = some_unless (unknown_fault f attributes path) (RequiredFault m f attributes path) (some_required p f is attributes path) lacks

  slot_typed : (s : Option (Slot P)) → IsOfType (slot_form m.forms s)
  slot_typed None = tt
  slot_typed (Some s) = (s.target, refl)

  step_typed : (f : Form P Simple) (next : NextSlot) → IsOfType (form_by m.forms f next)
  step_typed f (step.Slotted k) = slot_typed (slice_get (form_slots f) k)
  step_typed f step.Unknown = tt
  step_typed f step.OutOfOrder = tt
  step_typed f step.TooMany = tt
  step_typed f (step.Missing k) = tt
  step_typed f step.Second = tt

  start_typed : (ls : List (Level P)) (n : Expanded) → IsOfType (form_of_start m ls n)
  start_typed [] n = (m.root, refl)
  start_typed (Parent f d ∷ ls) n = step_typed f (step.next f d n.local)
  start_typed (LeafLevel simple text ∷ ls) n = tt
  start_typed (Envelope filled ∷ ls) n = tt
  start_typed (Foreign ∷ ls) n = tt

  some_end : (l : Level P) (path : List ℕ) → Told (EndFault l path)
  some_end (Parent f d) path lacks = lacks (_, refl)
  some_end (LeafLevel simple text) path lacks = some_leaf simple text path lacks
  some_end (Envelope true) path lacks = lacks (None, refl)
  some_end (Envelope false) path lacks = lacks (_, refl)
  some_end Foreign path lacks = lacks (None, refl)

  some_event : (ls : List (Level P)) (item : Item) → Told (EventFault m ls item)
  some_event ls (Starts n attributes) lacks =
      some_unless (place_fault m ls n) (AttributeFault m (form_of_start m ls n) attributes (path_in (round_start ls n)))
      (some_attributes (form_of_start m ls n) (start_typed ls n) attributes (path_in (round_start ls n))) lacks
  some_event [] (Char c) lacks = lacks (None, refl)
  some_event [] (Ends n) lacks = lacks (None, refl)
  some_event [] Skipped lacks = lacks (None, refl)
  some_event (l ∷ ls) (Char c) lacks = lacks (_, refl)
  some_event (l ∷ ls) (Ends n) lacks = some_end l (path_in ls) lacks
  some_event (l ∷ ls) Skipped lacks = lacks (None, refl)

  -- ---- events break a rule, or none

  -- the first of the events that breaks a rule
  record FirstBroken (ls : List (Level P)) (told : List Placed) : Type 0 where
    before : List Placed
    event : Placed
    behind : List Placed
    fault : Broken
    split : told ≡ before ++ event ∷ behind
    fine : AreFine m ls (items_told before)
    broken_is : EventFault m (levels_over m ls (items_told before)) event.item (Some fault)

  some_events : (ls : List (Level P)) (told : List Placed) → ¬ (¬ (AreFine m ls (items_told told) ⊎ FirstBroken ls told))
  some_events ls [] lacks = lacks (inl tt)
  some_events ls (e ∷ told) lacks = some_event ls e.item (by (λ later. some_events (levels_after m ls e.item) told later))
    where
      by : ¬ (¬ (AreFine m (levels_after m ls e.item) (items_told told) ⊎ FirstBroken (levels_after m ls e.item) told)) → ((o : Option Broken) × EventFault m ls e.item o) → ⊥
      by later (Some b, h) = lacks (inr (record { before = []; event = e; behind = told; fault = b; split = refl; fine = tt; broken_is = h }))
      by later (None, h) = later rest
        where
          rest : AreFine m (levels_after m ls e.item) (items_told told) ⊎ FirstBroken (levels_after m ls e.item) told → ⊥
          rest (inl fine) = lacks (inl (h, fine))
          rest (inr f) = lacks (inr (record {
            before = e ∷ f.before;
            event = f.event;
            behind = f.behind;
            fault = f.fault;
            split = ap (λ x. e ∷ x) f.split;
            fine = (h, f.fine);
            broken_is = f.broken_is;
          }))

-- ---- bytes

pub spelled_or_faulty : HasLeafAnswers → WholeOrFaulty → FineIsSpelled → XmlSpelledOrFaulty
spelled_or_faulty answers whole_or_faulty fine_is_spelled m bytes sound codes lacks = by (whole_or_faulty bytes)
  where
    of_whole : (w : IsWhole bytes) → (AreFine m [] (items_told (events [] 0 w.tokens)) ⊎ FirstBroken m codes answers [] (events [] 0 w.tokens)) → ⊥
    of_whole w (inl fine) = (let r = fine_is_spelled m bytes w.tokens sound w.marks w.clean w.over fine in lacks (inl (r.0, r.1)))
    of_whole w (inr f) =
        lacks (inr (record { broken = f.fault; place = f.event.place }, event_fault m bytes w.tokens [] f.before f.behind f.event f.fault w.marks w.clean f.split f.fine f.broken_is))

    of_faulty : (g : mark.Fault) (h : MarkFault bytes g) → (AreFine m [] (items_told (events [] 0 h.tokens)) ⊎ FirstBroken m codes answers [] (events [] 0 h.tokens)) → ⊥
    of_faulty g h (inl fine) = lacks (inr (_, markup_fault m bytes g h fine))
    of_faulty g h (inr f) =
        lacks (inr (record { broken = f.fault; place = f.event.place }, event_fault m bytes h.tokens h.rest f.before f.behind f.event f.fault h.front h.clean f.split f.fine f.broken_is))

    by : IsWhole bytes ⊎ ((g : mark.Fault) × MarkFault bytes g) → ⊥
    by (inl w) = some_events m codes answers [] (events [] 0 w.tokens) (of_whole w)
    by (inr (g, h)) = some_events m codes answers [] (events [] 0 h.tokens) (of_faulty g h)
