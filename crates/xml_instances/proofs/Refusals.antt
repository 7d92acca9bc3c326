-- What a checker refuses is the first fault of the bytes, whatever follows.
use Rattle.std.proofs.Common.{◌≡◌, ℕ, ◌+◌, List, [], ◌∷◌, ◌++◌, Some, refl, sym, ap, ◌∙◌, length, map, arith, subst, append_assoc, append-nil, length-append, ◌⊎◌, inl, inr}
use Rattle.std.proofs.lemmas.List.{map-append}
use Rattle.std.proofs.lemmas.Grind.{flat_map-append}
use Rattle.std.specs.List.{flat_map}
use Rattle.std.specs.Prelude.{Err}
use Rattle.lexical_core.specs.declared.rule.Rule.{Rule}
use Rattle.lexical_core.specs.Tree.{Item}
use Rattle.markup.specs.Token.{Token, token_bytes}
use Rattle.markup.specs.Marks.{Front, tag_limit, OneToken, FrontsAgree}
use Rattle.markup.specs.Events.{Placed, events}
use Rattle.markup.specs.EventItems.{item_of, placed_event, Tells}
use Rattle.markup.specs.Faults.{Next, IsClean, MarkFault, Fault as Marked}
use Rattle.markup.specs.Reading.{AreEvents, Refuses, GoesOn, fault_of as mark_of}
use Rattle.markup.specs.Standing.{NothingAtClean, TokensHaveBytes, EventsStay}
use Rattle.markup.specs.declared.event.Event.{Event}
use Rattle.markup.specs.declared.reader.MarkFault.{MarkFault as MarkTold}
use Rattle.markup.specs.declared.reader.Reader.{Reader}
use Rattle.markup.proofs.TokensBehind.{tokens_behind, behind as reversed}
use Rattle.message_model.specs.Message.{Message}
use Rattle.message_model.specs.Tables.{Tables, message_of}
use Rattle.message_model.specs.declared.fault.InstanceError.{InstanceError}
use Rattle.message_model.specs.declared.fault.InstanceError.TheVariants.{Refused, Memory}
use Rattle.xml_instances.specs.Levels.{Level, levels_over, levels_path}
use Rattle.xml_instances.specs.EventFaults.{Broken, EventFault, AreFine}
use Rattle.xml_instances.specs.XmlFaults.{FaultInXml, XmlFault, items_told}
use Rattle.xml_instances.specs.Checking.{items_in_events, BreaksAt, AreTaken, XmlStops, XmlEndsAs, IsMarkTold, xml_fault_of, HasFedXml}
use Rattle.xml_instances.specs.declared.content.Content.{Content}
use Rattle.xml_instances.specs.declared.checker.XmlChecker.{XmlChecker}
use Rattle.xml_instances.proofs.NoCut.{event_no_cut}
use Rattle.xml_instances.proofs.FaultAt.{event_fault, markup_fault, fine_joined, over_joined}
use Rattle.xml_instances.proofs.Checks.{items_placed, items_new}
use Rattle.xml_instances.proofs.ToldAtEvents.{told_joined}

module _ (one_token : OneToken) (nothing_at_clean : NothingAtClean) where
  -- a list of tokens that ends where something is wrong is no front of a longer one that is clean
  last_is : (before : List Token) (b : List ℕ) (us vs : List Token) (rest z : List ℕ) (rule : Rule) (at : ℕ) → Front tag_limit before b us rest → Front tag_limit before b (us ++ vs) z → IsClean before (us ++ vs) → Next tag_limit (tokens_behind before us) rest rule at → vs ≡ []
  last_is before b [] [] rest z rule at f g c n = refl
  last_is before b [] (t ∷ vs) rest z rule at f g c n = absurd (nothing_at_clean before b t g.0 rule at (subst (λ (v : List ℕ). Next tag_limit before v rule at) (sym f) n) g.1 g.2 c.0)
  last_is before b (u ∷ us) vs rest z rule at f g c n =
      last_is (u ∷ before) f.0 us vs rest z rule at f.3 (subst (λ (v : List ℕ). Front tag_limit (u ∷ before) v (us ++ vs) z) (sym (one_token before u u b f.0 g.0 f.1 g.1).1) g.3) c.1 n

module _ (m : Message ℕ) (one_token : OneToken) (nothing_at_clean : NothingAtClean) where
  abbrev told_fault : Rule → List (Level ℕ) → ℕ → FaultInXml
  told_fault rule ls place = record { broken = record { rule = rule; path = levels_path ls }; place = place }

  -- at the end of the input
  pub mark_end : (bytes : List ℕ) (told : List Placed) (f : Marked) → AreEvents bytes told → AreFine m [] (items_told told) → MarkFault bytes f → XmlFault m bytes (told_fault f.rule (levels_over m [] (items_told told)) f.place)
  mark_end bytes told f (ts, longest, clean, told_are) fine h = of_more (longest.longest h.tokens h.rest h.front)
    where
      of_more : ((more : List Token) × (ts ≡ h.tokens ++ more)) → XmlFault m bytes (told_fault f.rule (levels_over m [] (items_told told)) f.place)
      of_more (more, e) =
          let none : more ≡ [] = last_is one_token nothing_at_clean [] bytes h.tokens more h.rest longest.rest f.rule h.at h.front (subst (λ (v : List Token). Front tag_limit [] bytes v longest.rest) e longest.front)
          (subst (λ (v : List Token). IsClean [] v) e clean) (subst (λ (v : List Token). Next tag_limit v h.rest f.rule h.at) (reversed h.tokens) h.next) in
          let same : told ≡ events [] 0 h.tokens = told_are ∙ ap (events [] 0) (e ∙ (ap (λ v. h.tokens ++ v) none ∙ append-nil h.tokens)) in
          subst (λ (v : List Item). XmlFault m bytes (told_fault f.rule (levels_over m [] v) f.place)) (sym (ap items_told same)) (markup_fault m bytes f h (subst (λ (v : List Placed). AreFine m [] (items_told v)) same fine))

  no_bytes : TokensHaveBytes → (vs : List Token) → length (flat_map token_bytes vs) ≡ 0 → vs ≡ []
  no_bytes some [] e = refl
  no_bytes some (t ∷ vs) e = absurd (some t (empty (token_bytes t) (flat_map token_bytes vs) e))
    where
      empty : (x y : List ℕ) → length (x ++ y) ≡ 0 → x ≡ []
      empty [] y e = refl
      empty (c ∷ x) y e = absurd (omega (arith, e))

  -- behind a byte
  pub mark_refused : FrontsAgree → TokensHaveBytes → (bytes : List ℕ) (told : List Placed) (old new : List Event) (fault : MarkTold) (k : Refuses bytes told old new fault) → AreFine m [] (items_told (told ++ k.more)) → (more : List ℕ)
      → XmlFault m (bytes ++ more) (told_fault fault.rule (levels_over m [] (items_told (told ++ k.more))) fault.place)
  mark_refused agree some bytes told old new fault k fine more = of_same (same_tokens (agree tag_limit (bytes ++ more) k.tokens h.tokens (k.rest ++ more) h.rest (k.front more) h.front))
    where
      h : MarkFault (bytes ++ more) (mark_of fault)
      h = k.has_fault more

      count : (p n a : ℕ) (x y z : List ℕ) → n ≡ p → p ≡ length z + a → z ≡ x ++ y → length x ≡ n → length y ≡ 0
      count p n a x y z e f g i = omega (arith, e, f, ap length g, i, length-append x y)

      same_tokens : (((vs : List Token) × (h.tokens ≡ k.tokens ++ vs)) ⊎ ((vs : List Token) × (k.tokens ≡ h.tokens ++ vs))) → k.tokens ≡ h.tokens
      same_tokens (inl (vs, e)) =
          let none : vs ≡ [] = no_bytes some vs (count fault.place (length (flat_map token_bytes k.tokens)) h.at (flat_map token_bytes k.tokens) (flat_map token_bytes vs) (flat_map token_bytes h.tokens) k.before h.place
          (ap (flat_map token_bytes) e ∙ flat_map-append token_bytes k.tokens vs) refl) in
          sym (e ∙ (ap (λ v. k.tokens ++ v) none ∙ append-nil k.tokens))
      same_tokens (inr (vs, e)) =
          let none : vs ≡ [] = last_is one_token nothing_at_clean [] (bytes ++ more) h.tokens vs h.rest (k.rest ++ more) fault.rule h.at h.front (subst (λ (v : List Token). Front tag_limit [] (bytes ++ more) v (k.rest ++ more)) e (k.front more))
          (subst (λ (v : List Token). IsClean [] v) e k.clean) (subst (λ (v : List Token). Next tag_limit v h.rest fault.rule h.at) (reversed h.tokens) h.next) in
          e ∙ (ap (λ v. h.tokens ++ v) none ∙ append-nil h.tokens)

      of_same : k.tokens ≡ h.tokens → XmlFault m (bytes ++ more) (told_fault fault.rule (levels_over m [] (items_told (told ++ k.more))) fault.place)
      of_same e =
          let same : told ++ k.more ≡ events [] 0 h.tokens = k.events_are ∙ ap (events [] 0) e in
          subst (λ (v : List Item). XmlFault m (bytes ++ more) (told_fault fault.rule (levels_over m [] v) fault.place)) (sym (ap items_told same)) (markup_fault m (bytes ++ more) (mark_of fault) h (subst (λ (v : List Placed). AreFine m [] (items_told v)) same fine))

-- an event that was told breaks a rule
pub content_fault : (m : Message ℕ) (bytes : List ℕ) (tokens : List Token) (rest : List ℕ) (told more : List Placed) (old new : List Event) (b : Broken) (place : ℕ) → Front tag_limit [] bytes tokens rest → IsClean [] tokens → told ++ more ≡ events [] 0 tokens
    → old ≡ [] → Tells old new more → AreFine m [] (items_told told) → BreaksAt m (levels_over m [] (items_told told)) new b place → XmlFault m bytes (record { broken = b; place = place })
content_fault m bytes tokens rest told more old new b place front clean told_are none tells fine k =
    subst (λ (v : ℕ). XmlFault m bytes (record { broken = b; place = v })) (sym k.place_is)
    (event_fault m bytes tokens rest (told ++ map placed_event k.before) (map placed_event k.behind) (placed_event k.event) b front clean split
    (subst (λ (v : List Item). AreFine m [] v) (sym front_items) (fine_joined m [] (items_told told) (items_in_events k.before) fine k.fine))
    (subst (λ (v : List (Level ℕ)). EventFault m v (item_of k.event.what) (Some b)) (sym (ap (levels_over m []) front_items ∙ over_joined m [] (items_told told) (items_in_events k.before))) k.broken))
  where
    front_items : items_told (told ++ map placed_event k.before) ≡ items_told told ++ items_in_events k.before
    front_items = told_joined told (map placed_event k.before) ∙ ap (λ v. items_told told ++ v) (items_placed k.before)

    more_is : more ≡ map placed_event k.before ++ placed_event k.event ∷ map placed_event k.behind
    more_is = sym tells.told_are ∙ (ap (map placed_event) (sym (tells.appended ∙ ap (λ v. v ++ tells.more) none) ∙ k.events_are) ∙ map-append placed_event k.before (k.event ∷ k.behind))

    split : events [] 0 tokens ≡ (told ++ map placed_event k.before) ++ placed_event k.event ∷ map placed_event k.behind
    split = sym told_are ∙ (ap (λ v. told ++ v) more_is ∙ sym (append_assoc told (map placed_event k.before) (placed_event k.event ∷ map placed_event k.behind)))

abbrev pub events_of : List Token → List Placed
events_of tokens = events [] 0 tokens

-- an event of bytes that the reader took
pub stops_at_event : (T : Tables) (checker : XmlChecker) (reader : Reader) (bytes seen : List ℕ) (events : List Event) (content : Content) (e : InstanceError) (h : HasFedXml checker T bytes) → EventsStay → GoesOn reader (bytes ++ seen) h.told checker.events events
    → AreTaken {T = Unit {0}} (message_of T) (levels_over (message_of T) [] (items_told h.told)) events content (Err e) → XmlStops T (bytes ++ seen) e
stops_at_event T checker reader bytes seen events content Memory h stay g k = tt
stops_at_event T checker reader bytes seen events content (Refused fault) h stay g k = record {
  has_fault = λ behind. of_stay behind (stay reader (bytes ++ seen) (h.told ++ g.more) g.taken_are behind);
  no_cut = event_no_cut (message_of T) (levels_over (message_of T) (levels_over (message_of T) [] (items_told h.told)) (items_in_events k.before)) (item_of k.event.what) (xml_fault_of fault).broken k.broken;
}
  where
    of_stay : (behind : List ℕ) → ((tokens : List Token) × (rest : List ℕ) × Front tag_limit [] ((bytes ++ seen) ++ behind) tokens rest × IsClean [] tokens × (h.told ++ g.more ≡ events_of tokens)) → XmlFault (message_of T) ((bytes ++ seen) ++ behind) (xml_fault_of fault)
    of_stay behind (tokens, rest, front, clean, told_are) = content_fault (message_of T) ((bytes ++ seen) ++ behind) tokens rest h.told g.more checker.events events (xml_fault_of fault).broken fault.place front clean told_are h.none g.tells h.fine k

-- an event that bytes have shown which are refused
pub stops_before_mark : (T : Tables) (checker : XmlChecker) (bytes seen : List ℕ) (events : List Event) (content : Content) (mark : MarkTold) (e : InstanceError) (h : HasFedXml checker T bytes) → Refuses (bytes ++ seen) h.told checker.events events mark
    → AreTaken {T = Unit {0}} (message_of T) (levels_over (message_of T) [] (items_told h.told)) events content (Err e) → XmlStops T (bytes ++ seen) e
stops_before_mark T checker bytes seen events content mark Memory h r k = tt
stops_before_mark T checker bytes seen events content mark (Refused fault) h r k = record {
  has_fault = λ behind. content_fault (message_of T) ((bytes ++ seen) ++ behind) r.tokens (r.rest ++ behind) h.told r.more checker.events events (xml_fault_of fault).broken fault.place (r.front behind) r.clean r.events_are h.none r.tells h.fine k;
  no_cut = event_no_cut (message_of T) (levels_over (message_of T) (levels_over (message_of T) [] (items_told h.told)) (items_in_events k.before)) (item_of k.event.what) (xml_fault_of fault).broken k.broken;
}

-- a fault of markup
pub stops_at_mark : (T : Tables) (checker : XmlChecker) (bytes seen : List ℕ) (events : List Event) (mark : MarkTold) (e : InstanceError) (h : HasFedXml checker T bytes) → OneToken → FrontsAgree → NothingAtClean → TokensHaveBytes → Refuses (bytes ++ seen) h.told checker.events events mark
    → AreFine (message_of T) (levels_over (message_of T) [] (items_told h.told)) (items_in_events events) → IsMarkTold mark (levels_over (message_of T) (levels_over (message_of T) [] (items_told h.told)) (items_in_events events)) e → XmlStops T (bytes ++ seen) e
stops_at_mark T checker bytes seen events mark Memory h one agree none some r fine k = tt
stops_at_mark T checker bytes seen events mark (Refused fault) h one agree none some r fine (same_rule, same_path, same_place) = record { has_fault = shown; no_cut = λ e. r.no_cut (sym same_rule ∙ e) }
  where
    items_are : items_told (h.told ++ r.more) ≡ items_told h.told ++ items_in_events events
    items_are = told_joined h.told r.more ∙ ap (λ v. items_told h.told ++ v) (items_new checker.events events r.more h.none r.tells)

    levels_are : levels_over (message_of T) [] (items_told (h.told ++ r.more)) ≡ levels_over (message_of T) (levels_over (message_of T) [] (items_told h.told)) (items_in_events events)
    levels_are = ap (levels_over (message_of T) []) items_are ∙ over_joined (message_of T) [] (items_told h.told) (items_in_events events)

    shown : (behind : List ℕ) → XmlFault (message_of T) ((bytes ++ seen) ++ behind) (xml_fault_of fault)
    shown behind =
        rw (same_rule, same_path, same_place, ← levels_are) (mark_refused (message_of T) one none agree some (bytes ++ seen) h.told checker.events events mark r (subst (λ (v : List Item). AreFine (message_of T) [] v) (sym items_are) (fine_joined (message_of T) [] (items_told h.told) (items_in_events events) h.fine fine)) behind)

-- at the end
pub ends_at_mark : (T : Tables) (checker : XmlChecker) (bytes : List ℕ) (mark : MarkTold) (e : InstanceError) (h : HasFedXml checker T bytes) → OneToken → NothingAtClean → AreEvents bytes h.told → MarkFault bytes (mark_of mark)
    → IsMarkTold mark (levels_over (message_of T) [] (items_told h.told)) e → XmlEndsAs T bytes e
ends_at_mark T checker bytes mark Memory h one none all f k = tt
ends_at_mark T checker bytes mark (Refused fault) h one none all f (same_rule, same_path, same_place) = rw (same_rule, same_path, same_place) (mark_end (message_of T) one none bytes h.told (mark_of mark) all h.fine f)
