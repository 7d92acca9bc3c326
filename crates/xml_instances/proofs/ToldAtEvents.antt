-- In a message that breaks no rule of its repository a fault is told at its event.
use Rattle.std.proofs.Common.{◌≡◌, ℕ, ◌≤◌, List, [], ◌∷◌, ◌++◌, Some, refl, sym, ap, ◌∙◌, length, reverse, subst, append_assoc, arith, inl, inr}
use Rattle.std.proofs.lemmas.List.{map-append}
use Rattle.std.specs.List.{flat_map}
use Rattle.lexical_core.specs.Rules.{number_of}
use Rattle.lexical_core.specs.Tree.{Item}
use Rattle.markup.specs.Token.{Token, token_bytes}
use Rattle.markup.specs.Marks.{Front, tag_limit}
use Rattle.markup.specs.Events.{Placed, events, items_of}
use Rattle.markup.specs.Faults.{IsClean}
use Rattle.markup.specs.Scopes.{placed_at}
use Rattle.markup.proofs.EventLemmas.{events_snoc}
use Rattle.markup.proofs.InputLemmas.{clean_snoc, front_snoc}
use Rattle.markup.proofs.TokensBehind as tokens
use Rattle.repo_objects.specs.Repository.{Contents}
use Rattle.reference_check.specs.Laws.{ReadyAreFinite}
use Rattle.reference_check.specs.Shapes.{AreFinite}
use Rattle.message_model.specs.Compiled.{Compiles, IsReachedList}
use Rattle.message_model.specs.Laws.{CompiledAreSound}
use Rattle.message_model.specs.Message.{Message}
use Rattle.message_model.specs.Ready.{IsReady}
use Rattle.message_model.specs.Sound.{AreSound}
use Rattle.message_model.specs.Tables.{Tables, types_of, message_of}
use Rattle.message_model.proofs.CompiledFinite.{tables_finite}
use Rattle.xml_instances.specs.Levels.{Level, levels_after, levels_over}
use Rattle.xml_instances.specs.EventFaults.{Broken, EventFault, AreFine, FirstFault}
use Rattle.xml_instances.specs.XmlFaults.{FaultInXml, XmlFault, NextFault, markup, content, items, items_told}
use Rattle.xml_instances.specs.OpenInstances.{AreEventsOpen}
use Rattle.xml_instances.specs.OpenLaws.{FineIsOpen, OneMoreIsOpen, CleanAreFronts, BrokenEventIsNotOpen, FedIsOpen}
use Rattle.xml_instances.specs.ReadyLaws.{IsToldAtEvent, ReadyXmlTellsAtOnce, ReadyTokensTellAtOnce, ReadyFedXmlIsOpen, ReadyFaultIsAtEvent}
use Rattle.xml_instances.proofs.FaultAt.{fine_joined, over_joined}
use Rattle.xml_instances.proofs.MarkupRules.{next_low}
use Rattle.xml_instances.proofs.Whole.{placed_items}

-- ---- the first event that breaks a rule, among others

record IsSplit {P : Type 0} (m : Message P) (ls : List (Level P)) (is : List Item) (b : Broken) : Type 0 where
  before : List Item
  item : Item
  behind : List Item
  joined : is ≡ before ++ item ∷ behind
  fine : AreFine m ls before
  broken : EventFault m (levels_over m ls before) item (Some b)

split_first : {P : Type 0} (m : Message P) (ls : List (Level P)) (is : List Item) (b : Broken) → FirstFault m ls is b → IsSplit m ls is b
split_first m ls [] b h = absurd h
split_first m ls (i ∷ is) b (inl h) = record { before = []; item = i; behind = is; joined = refl; fine = tt; broken = h }
split_first m ls (i ∷ is) b (inr (fine, h)) =
    let r = split_first m (levels_after m ls i) is b h in
    record { before = i ∷ r.before; item = r.item; behind = r.behind; joined = ap (λ x. i ∷ x) r.joined; fine = (fine, r.fine); broken = r.broken }

pub told_joined : (a b : List Placed) → items_told (a ++ b) ≡ items_told a ++ items_told b
told_joined a b = map-append (λ (e : Placed). e.item) a b

placed_joined : (place : ℕ) (a b : List Item) → placed_at place (a ++ b) ≡ placed_at place a ++ placed_at place b
placed_joined place a b = map-append (λ (i : Item). record { place = place; item = i }) a b

-- ---- a fault of bytes

module _ (open_are : FineIsOpen) (not_open : BrokenEventIsNotOpen) (fronts : CleanAreFronts) (m : Message ℕ) (sound : AreSound m.forms) (finite : AreFinite m.forms m.root) where
  -- events at the end of tokens, of which one is the first that breaks a rule
  at_event : (bytes : List ℕ) (fault : FaultInXml) (ts : List Token) (t : Token) (rest : List ℕ) → Front tag_limit [] bytes (ts ++ t ∷ []) rest → IsClean [] (ts ++ t ∷ []) → AreFine m [] (items ts)
      → length (flat_map token_bytes ts) ≡ fault.place → IsSplit m (levels_over m [] (items ts)) (items_of (reverse ts) t) fault.broken → IsToldAtEvent m bytes fault
  at_event bytes fault ts t rest front clean fine at s = record {
    tokens = ts ++ t ∷ [];
    rest = rest;
    before = told;
    event = event;
    behind = placed_at place s.behind;
    front = front;
    clean = clean;
    events_are = events_are;
    place = at;
    goes_on = (open_are m (items_told told) sound finite (fronts (ts ++ t ∷ []) (items_told told) (s.item ∷ s.behind) clean first)).0 all_fine;
    goes_no_further = λ o. not_open m (items_told told) s.item fault.broken sound finite (fronts (ts ++ t ∷ []) (items_told told ++ s.item ∷ []) s.behind clean second) all_fine
        (subst (λ (x : List (Level ℕ)). EventFault m x s.item (Some fault.broken)) (sym levels_are) s.broken) (subst (λ (x : List Item). AreEventsOpen m x) (told_joined told (event ∷ [])) o);
  }
    where
      place : ℕ
      place = length (flat_map token_bytes ts)

      told : List Placed
      told = events [] 0 ts ++ placed_at place s.before

      event : Placed
      event = record { place = place; item = s.item }

      events_are : events [] 0 (ts ++ t ∷ []) ≡ told ++ event ∷ placed_at place s.behind
      events_are = events_snoc ts t ∙ (ap (λ x. events [] 0 ts ++ placed_at place x) s.joined
          ∙ (ap (λ x. events [] 0 ts ++ x) (placed_joined place s.before (s.item ∷ s.behind)) ∙ sym (append_assoc (events [] 0 ts) (placed_at place s.before) (event ∷ placed_at place s.behind))))

      told_are : items_told told ≡ items ts ++ s.before
      told_are = told_joined (events [] 0 ts) (placed_at place s.before) ∙ ap (λ x. items ts ++ x) (placed_items place s.before)

      all_fine : AreFine m [] (items_told told)
      all_fine = subst (λ (x : List Item). AreFine m [] x) (sym told_are) (fine_joined m [] (items ts) s.before fine s.fine)

      levels_are : levels_over m [] (items_told told) ≡ levels_over m (levels_over m [] (items ts)) s.before
      levels_are = ap (λ (x : List Item). levels_over m [] x) told_are ∙ over_joined m [] (items ts) s.before

      first : items (ts ++ t ∷ []) ≡ items_told told ++ s.item ∷ s.behind
      first = ap items_told events_are ∙ (told_joined told (event ∷ placed_at place s.behind) ∙ ap (λ x. items_told told ++ s.item ∷ x) (placed_items place s.behind))

      second : items (ts ++ t ∷ []) ≡ (items_told told ++ s.item ∷ []) ++ s.behind
      second = first ∙ sym (append_assoc (items_told told) (s.item ∷ []) s.behind)

  told_at_event : (bytes : List ℕ) (fault : FaultInXml) → XmlFault m bytes fault → 12 ≤ number_of fault.broken.rule → IsToldAtEvent m bytes fault
  told_at_event bytes fault h high = of_next h.next
    where
      of_next : NextFault m (reverse h.tokens) (levels_over m [] (items h.tokens)) h.rest fault.broken h.at → IsToldAtEvent m bytes fault
      of_next (markup n p) = (let low = next_low (reverse h.tokens) h.rest fault.broken.rule h.at n in absurd (omega (arith, low, high)))
      of_next (content t after cell short clean broken at) =
          let place = h.place in
          at_event bytes fault h.tokens t after (front_snoc tag_limit [] bytes h.rest after h.tokens t h.front (rw (tokens.behind h.tokens) at cell) short) (clean_snoc h.tokens t h.clean clean) h.fine
          (omega (arith, at, place)) (split_first m (levels_over m [] (items h.tokens)) (items_of (reverse h.tokens) t) fault.broken broken)

-- ---- of a message that breaks no rule

module _ (compiled : CompiledAreSound) (reached : ReadyAreFinite) where
  sound_of : (R : Contents) (m : List ℕ) (ids : List (List ℕ)) (T : Tables) → IsReady R m → IsReachedList R m ids → Compiles R m ids T → AreSound (types_of T)
  sound_of R m ids T ready list made = (compiled R m ids T ready list made).0

  finite_of : (R : Contents) (m : List ℕ) (ids : List (List ℕ)) (T : Tables) → IsReady R m → IsReachedList R m ids → Compiles R m ids T → AreFinite (types_of T) 0
  finite_of R m ids T ready list made = tables_finite reached R m ready ids list T made

  pub tells_at_once : OneMoreIsOpen → ReadyXmlTellsAtOnce
  tells_at_once one_more R m ids T ready list made before item front fine =
      one_more (message_of T) before item (sound_of R m ids T ready list made) (finite_of R m ids T ready list made) front fine

  pub tokens_tell_at_once : OneMoreIsOpen → CleanAreFronts → ReadyTokensTellAtOnce
  tokens_tell_at_once one_more fronts R m ids T ready list made ts before item behind clean are fine =
      tells_at_once one_more R m ids T ready list made before item
      (fronts ts (before ++ item ∷ []) behind clean (are ∙ sym (append_assoc before (item ∷ []) behind))) fine

  pub ready_fed_is_open : FedIsOpen → ReadyFedXmlIsOpen
  ready_fed_is_open fed R m ids T ready list made checker bytes h = fed T checker bytes (sound_of R m ids T ready list made) (finite_of R m ids T ready list made) h

  pub fault_is_at_event : FineIsOpen → BrokenEventIsNotOpen → CleanAreFronts → ReadyFaultIsAtEvent
  fault_is_at_event open_are not_open fronts R m ids T ready list made bytes fault h high =
      told_at_event open_are not_open fronts (message_of T) (sound_of R m ids T ready list made) (finite_of R m ids T ready list made) bytes fault h high
