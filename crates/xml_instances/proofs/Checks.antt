-- A checker that goes from event to event, and from byte to byte.
use Rattle.std.proofs.Common.{Option, ◌≡◌, ℕ, ◌+◌, ◌-◌, ◌^◌, ◌<◌, ◌≤◌, arith, List, [], ◌∷◌, ◌++◌, Some, None, refl, sym, ap, ◌∙◌, length, map, subst, append_assoc, append-nil, length-append}
use Rattle.std.proofs.lemmas.List.{map-append}
use Rattle.std.specs.Prelude.{Err, min}
use Rattle.std.specs.List.{AllByRecursion}
use Rattle.lexical_core.specs.Tree.{Item}
use Rattle.lexical_core.specs.Tree.{Starts, Char, Ends, Skipped}
use Rattle.markup.specs.Token.{Token}
use Rattle.markup.specs.Marks.{Front, tag_limit}
use Rattle.markup.specs.Faults.{IsClean}
use Rattle.markup.specs.Standing.{EventsStay}
use Rattle.markup.specs.declared.reader.Reader.{Reader}
use Rattle.markup.specs.Events.{Placed}
use Rattle.markup.specs.Events.{events as placed_events}
use Rattle.markup.specs.EventItems.{item_of, placed_event, Tells}
use Rattle.markup.specs.Reading.{GoesOn, IsWholly, bytes_taken}
use Rattle.markup.specs.declared.event.Event.{Event}
use Rattle.respell.specs.Laws.{EventsArePlain, IsPlainItem}
use Rattle.respell.specs.Respelling.{HasSortedAttributes}
use Rattle.message_model.specs.Message.{Message}
use Rattle.message_model.specs.Tables.{Tables, message_of, types_of}
use Rattle.message_model.specs.Sound.{AreSound}
use Rattle.message_model.specs.declared.fault.InstanceError.{InstanceError}
use Rattle.message_model.specs.declared.fault.InstanceError.TheVariants.{Refused, Memory}
use Rattle.xml_instances.specs.Levels.{Level, levels_after, levels_over}
use Rattle.xml_instances.specs.EventFaults.{Broken, EventFault, AreFine}
use Rattle.xml_instances.specs.XmlFaults.{XmlFault, items, items_told}
use Rattle.xml_instances.specs.Laws.{FineIsSpelled}
use Rattle.xml_instances.specs.Open.{IsOpen, IsTaken}
use Rattle.xml_instances.specs.Checking.{items_in_events, IsTold, AreTaken, BreaksAt, XmlStops, xml_fault_of, HasFedXml, IsSpelledXml, IsSpelledBy, xml_bytes_fed}
use Rattle.xml_instances.specs.declared.content.Content.{Content}
use Rattle.xml_instances.specs.declared.opened.Refusal.{Refusal}
use Rattle.xml_instances.specs.declared.opened.Refusal.TheVariants.{Breaks, Memory as NoMemory}
use Rattle.xml_instances.specs.declared.checker.XmlChecker.{XmlChecker}
use Rattle.xml_instances.specs.Built.{EventShows, EventsShow}
use Rattle.xml_instances.specs.Keeping.{PiecesKept, GoOn, IsBuilt}
use Rattle.xml_instances.proofs.FaultAt.{fine_joined, over_joined}
use Rattle.xml_instances.proofs.GoingOn.{go_still, go_on, go_one, built_on}
use Rattle.xml_instances.proofs.ToldAtEvents.{told_joined}

-- of the events those before the rest are taken
pub record TakenSoFar (m : Message ℕ) (ls : List (Level ℕ)) (events rest : List Event) (content : Content) : Type 0 where
  pub before : List Event
  pub events_are : events ≡ before ++ rest
  pub fine : AreFine m ls (items_in_events before)
  pub opens : IsOpen content m (levels_over m ls (items_in_events before))

pub none_taken : (m : Message ℕ) (ls : List (Level ℕ)) (events : List Event) (content : Content) → IsOpen content m ls → TakenSoFar m ls events events content
none_taken m ls events content h = record { before = []; events_are = refl; fine = tt; opens = h }

-- the same, with the pieces that they show
pub record ShownSoFar (T : Tables) (ls : List (Level ℕ)) (events rest : List Event) (initial : Option PiecesKept) (content : Content) : Type 0 where
  pub taken : TakenSoFar (message_of T) ls events rest content
  pub shown : AllByRecursion HasSortedAttributes (items_in_events events) → GoOn initial content.pieces (EventsShow T ls (items_in_events taken.before))

pub none_shown : (T : Tables) (ls : List (Level ℕ)) (events : List Event) (content : Content) → IsOpen content (message_of T) ls → ShownSoFar T ls events events content.pieces content
unfolding none_taken
none_shown T ls events content h = record { taken = none_taken (message_of T) ls events content h; shown = λ sorted. go_still content.pieces content.pieces refl }

items_joined : (a b : List Event) → items_in_events (a ++ b) ≡ items_in_events a ++ items_in_events b
items_joined a b = map-append (λ (e : Event). item_of e.what) a b

pub one_taken : (m : Message ℕ) (ls : List (Level ℕ)) (events rest : List Event) (e : Event) (old new : Content) (t : TakenSoFar m ls events (e ∷ rest) old)
    → EventFault m (levels_over m ls (items_in_events t.before)) (item_of e.what) None → IsOpen new m (levels_after m (levels_over m ls (items_in_events t.before)) (item_of e.what)) → TakenSoFar m ls events rest new
one_taken m ls events rest e old new t h k = record {
  before = t.before ++ e ∷ [];
  events_are = t.events_are ∙ sym (append_assoc t.before (e ∷ []) rest);
  fine = subst (λ (x : List Item). AreFine m ls x) (sym (items_joined t.before (e ∷ []))) (fine_joined m ls (items_in_events t.before) (item_of e.what ∷ []) t.fine (h, tt));
  opens = subst (λ (x : List (Level ℕ)). IsOpen new m x) (sym (ap (levels_over m ls) (items_joined t.before (e ∷ [])) ∙ over_joined m ls (items_in_events t.before) (item_of e.what ∷ []))) k;
}

pub all_taken : (m : Message ℕ) (ls : List (Level ℕ)) (events : List Event) (content : Content) → TakenSoFar m ls events [] content → AreFine m ls (items_in_events events) × IsOpen content m (levels_over m ls (items_in_events events))
all_taken m ls events content t =
    let same : t.before ≡ events = sym (t.events_are ∙ append-nil t.before) in
    (subst (λ (x : List Event). AreFine m ls (items_in_events x)) same t.fine, subst (λ (x : List Event). IsOpen content m (levels_over m ls (items_in_events x))) same t.opens)

pub all_behind : (P : Item → Type 0) (a b : List Item) → AllByRecursion P (a ++ b) → AllByRecursion P b
all_behind P [] b h = h
all_behind P (x ∷ a) b h = all_behind P a b h.1

pub one_shown : (T : Tables) (ls : List (Level ℕ)) (events rest : List Event) (e : Event) (initial : Option PiecesKept) (old new : Content) (t : ShownSoFar T ls events (e ∷ rest) initial old)
    → EventFault (message_of T) (levels_over (message_of T) ls (items_in_events t.taken.before)) (item_of e.what) None → IsOpen new (message_of T) (levels_after (message_of T) (levels_over (message_of T) ls (items_in_events t.taken.before)) (item_of e.what))
    → (HasSortedAttributes (item_of e.what) → GoOn old.pieces new.pieces (EventShows T (levels_over (message_of T) ls (items_in_events t.taken.before)) (item_of e.what))) → ShownSoFar T ls events rest initial new
unfolding one_taken
one_shown T ls events rest e initial old new t h k go = record {
  taken = one_taken (message_of T) ls events rest e old new t.taken h k;
  shown = λ sorted. subst (λ (x : List Item). GoOn initial new.pieces (EventsShow T ls x)) (sym (items_joined t.taken.before (e ∷ [])))
      (go_on T ls (items_in_events t.taken.before) (item_of e.what ∷ []) initial old.pieces new.pieces (t.shown sorted)
      (go_one T (levels_over (message_of T) ls (items_in_events t.taken.before)) (item_of e.what) old.pieces new.pieces (go (here sorted))));
}
  where
    here : AllByRecursion HasSortedAttributes (items_in_events events) → HasSortedAttributes (item_of e.what)
    here sorted = (all_behind HasSortedAttributes (items_in_events t.taken.before) (items_in_events (e ∷ rest)) (subst (λ (x : List Item). AllByRecursion HasSortedAttributes x) (ap items_in_events t.taken.events_are ∙ items_joined t.taken.before (e ∷ rest)) sorted)).0

pub all_shown : (T : Tables) (ls : List (Level ℕ)) (events : List Event) (initial : Option PiecesKept) (content : Content) → ShownSoFar T ls events [] initial content → AllByRecursion HasSortedAttributes (items_in_events events) → GoOn initial content.pieces (EventsShow T ls (items_in_events events))
all_shown T ls events initial content t sorted = subst (λ (x : List Event). GoOn initial content.pieces (EventsShow T ls (items_in_events x))) (sym (t.taken.events_are ∙ append-nil t.taken.before)) (t.shown sorted)

pub broken_at : (m : Message ℕ) (ls : List (Level ℕ)) (events rest : List Event) (e : Event) (content : Content) (b : Broken) (t : TakenSoFar m ls events (e ∷ rest) content)
    → EventFault m (levels_over m ls (items_in_events t.before)) (item_of e.what) (Some b) → BreaksAt m ls events b e.place
broken_at m ls events rest e content b t h = record { before = t.before; event = e; behind = rest; events_are = t.events_are; fine = t.fine; broken = h; place_is = refl }

pub told_at : (m : Message ℕ) (ls : List (Level ℕ)) (events rest : List Event) (e : Event) (old new content : Content) (r : Refusal) (told : InstanceError) (t : TakenSoFar m ls events (e ∷ rest) old)
    → IsTaken {T = Unit {0}} m (levels_over m ls (items_in_events t.before)) e.what new (Err r) → IsTold r e.place told → AreTaken {T = Unit {0}} m ls events content (Err told)
told_at m ls events rest e old new content (Breaks rule path) (Refused fault) t h (same_rule, same_path, same_place) =
    let b : BreaksAt m ls events (record { rule = rule; path = path }) e.place = broken_at m ls events rest e old (record { rule = rule; path = path }) t h in
    rw (same_rule, same_path, same_place) b
told_at m ls events rest e old new content (Breaks rule path) Memory t h k = absurd k
told_at m ls events rest e old new content NoMemory (Refused fault) t h k = absurd k
told_at m ls events rest e old new content NoMemory Memory t h k = tt

-- ---- bytes

pub items_placed : (events : List Event) → items_told (map placed_event events) ≡ items_in_events events
items_placed [] = refl
items_placed (e ∷ es) = ap (λ v. item_of e.what ∷ v) (items_placed es)

pub items_new : (old new : List Event) (more : List Placed) → old ≡ [] → Tells old new more → items_told more ≡ items_in_events new
items_new old new more e t = ap items_told (sym t.told_are) ∙ (items_placed t.more ∙ ap items_in_events (sym (t.appended ∙ ap (λ v. v ++ t.more) e)))

-- the place behind more bytes
pub place_more : (bytes more : List ℕ) (place given n : ℕ) → place ≡ length bytes → given ≡ length bytes → n ≡ length more → given + n ≤ 2 ^ 40 → min (place + n) (2 ^ 64 - 1) ≡ length (bytes ++ more)
place_more bytes more place given n e f g room = omega (arith, e, f, g, room, length-append bytes more)

-- more bytes, whose events break no rule
pub events_fed : (T : Tables) (old new : XmlChecker) (bytes more : List ℕ) (n : ℕ) (events : List Event) (h : HasFedXml old T bytes) → GoesOn new.reader (bytes ++ more) h.told old.events events
    → bytes_taken new.reader ≡ bytes_taken old.reader + n → n ≡ length more → AreFine (message_of T) (levels_over (message_of T) [] (items_told h.told)) (items_in_events events)
    → IsOpen new.content (message_of T) (levels_over (message_of T) (levels_over (message_of T) [] (items_told h.told)) (items_in_events events)) → GoOn old.content.pieces new.content.pieces (EventsShow T (levels_over (message_of T) [] (items_told h.told)) (items_in_events events)) → new.events ≡ [] → new.failed ≡ None → new.place ≡ min (old.place + n) (2 ^ 64 - 1) → xml_bytes_fed old + n ≤ 2 ^ 40 → HasFedXml new T (bytes ++ more)
events_fed T old new bytes more n events h g counted size fine opens go e sound place room = record {
  told = h.told ++ g.more;
  given = g.taken_are;
  counted = counted ∙ (ap (λ v. bytes_taken old.reader + v) size ∙ (ap (λ v. v + length more) h.counted ∙ sym (length-append bytes more)));
  placed = place ∙ place_more bytes more old.place (bytes_taken old.reader) n h.placed h.counted size room;
  fine = subst (λ (x : List Item). AreFine (message_of T) [] x) (sym items_are) (fine_joined (message_of T) [] (items_told h.told) (items_in_events events) h.fine fine);
  open_are = subst (λ (x : List (Level ℕ)). IsOpen new.content (message_of T) x) (sym (ap (levels_over (message_of T) []) items_are ∙ over_joined (message_of T) [] (items_told h.told) (items_in_events events))) opens;
  built = subst (λ (x : List Item). IsBuilt new.content.pieces T x) (sym items_are) (built_on T (items_told h.told) (items_in_events events) old.content.pieces new.content.pieces h.built go);
  none = e;
  sound = sound;
}
  where
    items_are : items_told (h.told ++ g.more) ≡ items_told h.told ++ items_in_events events
    items_are = told_joined h.told g.more ∙ ap (λ v. items_told h.told ++ v) (items_new old.events events g.more h.none g.tells)

-- one more byte
pub fed_on : (T : Tables) (old new : XmlChecker) (bytes : List ℕ) (byte : ℕ) (events : List Event) (h : HasFedXml old T bytes) → GoesOn new.reader (bytes ++ byte ∷ []) h.told old.events events
    → bytes_taken new.reader ≡ bytes_taken old.reader + 1 → AreFine (message_of T) (levels_over (message_of T) [] (items_told h.told)) (items_in_events events)
    → IsOpen new.content (message_of T) (levels_over (message_of T) (levels_over (message_of T) [] (items_told h.told)) (items_in_events events)) → GoOn old.content.pieces new.content.pieces (EventsShow T (levels_over (message_of T) [] (items_told h.told)) (items_in_events events)) → new.events ≡ [] → new.failed ≡ None → new.place ≡ min (old.place + 1) (2 ^ 64 - 1) → xml_bytes_fed old < 2 ^ 40 → HasFedXml new T (bytes ++ byte ∷ [])
fed_on T old new bytes byte events h g n fine opens go e sound place room = events_fed T old new bytes (byte ∷ []) 1 events h g n refl fine opens go e sound place (omega (arith, room))

-- the attributes of events that are told are sorted
pub sorted_told : (reader : Reader) (bytes : List ℕ) (told : List Placed) (old events : List Event) → EventsStay → EventsArePlain → (g : GoesOn reader bytes told old events) → old ≡ [] → AllByRecursion HasSortedAttributes (items_in_events events)
sorted_told reader bytes told old events stay plain g e = of_stay (stay reader bytes (told ++ g.more) g.taken_are [])
  where
    sorted : (items : List Item) → AllByRecursion IsPlainItem items → AllByRecursion HasSortedAttributes items
    sorted [] h = tt
    sorted (Starts n a ∷ items) h = (h.0.1.1, sorted items h.1)
    sorted (Char c ∷ items) h = (tt, sorted items h.1)
    sorted (Ends n ∷ items) h = (tt, sorted items h.1)
    sorted (Skipped ∷ items) h = (tt, sorted items h.1)

    of_stay : ((tokens : List Token) × (rest : List ℕ) × Front tag_limit [] (bytes ++ []) tokens rest × IsClean [] tokens × (told ++ g.more ≡ placed_events [] 0 tokens)) → AllByRecursion HasSortedAttributes (items_in_events events)
    of_stay (tokens, rest, front, clean, is) =
        sorted (items_in_events events) (all_behind IsPlainItem (items_told told) (items_in_events events)
        (subst (λ (x : List Item). AllByRecursion IsPlainItem x) (sym (ap items_told is) ∙ (told_joined told g.more ∙ ap (λ v. items_told told ++ v) (items_new old events g.more e g.tells))) (plain tag_limit (bytes ++ []) tokens rest front clean)))

-- of a piece the bytes before the rest are fed
pub record FedSoFar (T : Tables) (checker : XmlChecker) (bytes piece rest : List ℕ) : Type 0 where
  pub seen : List ℕ
  pub piece_is : piece ≡ seen ++ rest
  pub fed_are : HasFedXml checker T (bytes ++ seen)

pub none_fed : (T : Tables) (checker : XmlChecker) (bytes piece : List ℕ) → HasFedXml checker T bytes → FedSoFar T checker bytes piece piece
none_fed T checker bytes piece h = record { seen = []; piece_is = refl; fed_are = subst (HasFedXml checker T) (sym (append-nil bytes)) h }

pub all_fed : (T : Tables) (checker : XmlChecker) (bytes piece : List ℕ) → FedSoFar T checker bytes piece [] → HasFedXml checker T (bytes ++ piece)
all_fed T checker bytes piece s = subst (λ v. HasFedXml checker T (bytes ++ v)) (sym (s.piece_is ∙ append-nil s.seen)) s.fed_are

-- the end
pub spelled_by_events : (T : Tables) (checker : XmlChecker) (bytes : List ℕ) → FineIsSpelled → AreSound (types_of T) → (h : HasFedXml checker T bytes) → IsWholly bytes h.told → IsSpelledBy T bytes (items_told h.told)
spelled_by_events T checker bytes law sound h (tokens, marks, clean, over, told) =
    let r = law (message_of T) bytes tokens sound marks clean over (subst (λ (x : List Placed). AreFine (message_of T) [] (items_told x)) told h.fine) in
    (r.0, r.1, ap items r.2 ∙ ap items_told (sym told))

pub spelled_at_end : (T : Tables) (checker : XmlChecker) (bytes : List ℕ) → FineIsSpelled → AreSound (types_of T) → (h : HasFedXml checker T bytes) → IsWholly bytes h.told → IsSpelledXml T bytes
spelled_at_end T checker bytes law sound h whole = (let r = spelled_by_events T checker bytes law sound h whole in (r.0, r.1))

-- a byte that shows a fault, in a piece
pub fault_seen : (T : Tables) (checker : XmlChecker) (bytes piece rest : List ℕ) (byte : ℕ) (e : InstanceError) (s : FedSoFar T checker bytes piece (byte ∷ rest)) → XmlStops T ((bytes ++ s.seen) ++ byte ∷ []) e → XmlStops T (bytes ++ piece) e
fault_seen T checker bytes piece rest byte Memory s h = tt
fault_seen T checker bytes piece rest byte (Refused fault) s h = record {
  has_fault = λ behind. subst (λ (v : List ℕ). XmlFault (message_of T) v (xml_fault_of fault)) (regrouped behind) (h.has_fault (rest ++ behind));
  no_cut = h.no_cut;
}
  where
    regrouped : (behind : List ℕ) → ((bytes ++ s.seen) ++ byte ∷ []) ++ (rest ++ behind) ≡ (bytes ++ piece) ++ behind
    regrouped behind = append_assoc (bytes ++ s.seen) (byte ∷ []) (rest ++ behind) ∙ (append_assoc bytes s.seen (byte ∷ (rest ++ behind))
        ∙ (ap (λ v. bytes ++ v) (sym (append_assoc s.seen (byte ∷ rest) behind)) ∙ (ap (λ v. bytes ++ (v ++ behind)) (sym s.piece_is) ∙ sym (append_assoc bytes piece behind))))
