-- A checker that takes runs of characters and whole tags.
use Rattle.std.proofs.Common.{◌≡◌, ℕ, ◌+◌, ◌-◌, ◌^◌, ◌≤◌, arith, take, drop, List, [], ◌∷◌, ◌++◌, None, refl, sym, ap, ◌∙◌, length, map, subst, append_assoc, append-nil, length-append, inl, inr}
use Rattle.std.specs.Prelude.{Result, Ok, Err, IfOk, ◌≢◌, encode_utf8, min}
use Rattle.std.proofs.lemmas.List.{length-take-le, take-append-drop}
use Rattle.std.proofs.lemmas.Str.{length-le-encodes}
use Rattle.lexical_core.specs.declared.rule.Rule.TheVariants.{Truncated}
use Rattle.lexical_core.specs.Tree.{Expanded, Item, Char}
use Rattle.markup.specs.Token.{Token}
use Rattle.markup.specs.Marks.{Front, tag_limit}
use Rattle.markup.specs.Events.{Placed, events}
use Rattle.markup.specs.Faults.{IsClean}
use Rattle.markup.specs.Literals.{IsRun, characters_from}
use Rattle.markup.specs.PlainTags.{name_behind}
use Rattle.markup.specs.Reading.{HasTaken, HasTold, bytes_taken}
use Rattle.markup.specs.Scopes.{placed_at}
use Rattle.markup.specs.Standing.{EventsStay}
use Rattle.markup.specs.declared.reader.Reader.{Reader}
use Rattle.message_model.specs.Message.{Message}
use Rattle.message_model.specs.Tables.{Tables, message_of}
use Rattle.message_model.specs.declared.fault.InstanceError.{InstanceError}
use Rattle.message_model.specs.declared.fault.InstanceError.TheVariants.{Refused, Memory}
use Rattle.xml_instances.specs.Levels.{Level, levels_after, levels_over}
use Rattle.xml_instances.specs.EventFaults.{Broken, AreFine, FirstFault}
use Rattle.xml_instances.specs.XmlFaults.{XmlFault, items_told}
use Rattle.xml_instances.specs.Open.{IsOpen}
use Rattle.xml_instances.specs.inner.Quick.{AreItemsTaken, IsRunTaken, IsOurs, PassAll}
use Rattle.xml_instances.specs.inner.Fronts.{TagItemsTaken}
use Rattle.xml_instances.specs.Checking.{HasFedXml, XmlStops, IsTold, TakesXmlFront, xml_fault_of, xml_bytes_fed}
use Rattle.xml_instances.specs.declared.content.Content.{Content}
use Rattle.xml_instances.specs.declared.opened.Refusal.{Refusal}
use Rattle.xml_instances.specs.declared.opened.Refusal.TheVariants.{Breaks, Memory as NoMemory}
use Rattle.xml_instances.specs.declared.checker.XmlChecker.{XmlChecker}
use Rattle.xml_instances.proofs.Checks.{place_more, FedSoFar}
use Rattle.xml_instances.proofs.OurNames.{ours_behind}
use Rattle.xml_instances.specs.Built.{EventsShow}
use Rattle.xml_instances.specs.Keeping.{GoOn, IsBuilt, MayShow, MayShowName}
use Rattle.xml_instances.proofs.GoingOn.{go_still, built_on, built_still}
use Rattle.xml_instances.proofs.InsideNames.{may_show_name}
use Rattle.xml_instances.proofs.NoCut.{event_no_cut}
use Rattle.xml_instances.proofs.FaultAt.{event_fault, fine_joined, over_joined}
use Rattle.xml_instances.proofs.ToldAtEvents.{told_joined}
use Rattle.xml_instances.proofs.Refusals.{events_of}

pub chars_told : (place : ℕ) (cs : List ℕ) → items_told (characters_from place cs) ≡ map (λ c. Char c) cs
chars_told place [] = refl
chars_told place (c ∷ cs) = ap (λ v. Char c ∷ v) (chars_told (place + length (encode_utf8 c)) cs)

pub tag_told : (place : ℕ) (items : List Item) → items_told (placed_at place items) ≡ items
tag_told place [] = refl
tag_told place (i ∷ is) = ap (λ v. i ∷ v) (tag_told place is)

-- more bytes, whose events break no rule
pub more_fed : (T : Tables) (old new : XmlChecker) (bytes more : List ℕ) (placed : List Placed) (items : List Item) (h : HasFedXml old T bytes) → items_told placed ≡ items → HasTold new.reader (bytes ++ more) (h.told ++ placed)
    → bytes_taken new.reader ≡ bytes_taken old.reader + length more → new.place ≡ length (bytes ++ more) → AreFine (message_of T) (levels_over (message_of T) [] (items_told h.told)) items
    → IsOpen new.content (message_of T) (levels_over (message_of T) (levels_over (message_of T) [] (items_told h.told)) items)
    → GoOn old.content.pieces new.content.pieces (EventsShow T (levels_over (message_of T) [] (items_told h.told)) items) → new.events ≡ [] → new.failed ≡ None → HasFedXml new T (bytes ++ more)
more_fed T old new bytes more placed items h same g n place fine opens go e sound = record {
  told = h.told ++ placed;
  given = g.taken_are;
  counted = n ∙ (ap (λ v. v + length more) h.counted ∙ sym (length-append bytes more));
  placed = place;
  fine = subst (λ (x : List Item). AreFine (message_of T) [] x) (sym items_are) (fine_joined (message_of T) [] (items_told h.told) items h.fine fine);
  open_are = subst (λ (x : List (Level ℕ)). IsOpen new.content (message_of T) x) (sym (ap (levels_over (message_of T) []) items_are ∙ over_joined (message_of T) [] (items_told h.told) items)) opens;
  built = subst (λ (x : List Item). IsBuilt new.content.pieces T x) (sym items_are) (built_on T (items_told h.told) items old.content.pieces new.content.pieces h.built go);
  none = e;
  sound = sound;
}
  where
    items_are : items_told (h.told ++ placed) ≡ items_told h.told ++ items
    items_are = told_joined h.told placed ∙ ap (λ v. items_told h.told ++ v) same

-- ---- a tag that breaks a rule

first_no_cut : (m : Message ℕ) (ls : List (Level ℕ)) (items : List Item) (b : Broken) → FirstFault m ls items b → b.rule ≢ Truncated
first_no_cut m ls [] b h = absurd h
first_no_cut m ls (i ∷ is) b (inl h) = event_no_cut m ls i b h
first_no_cut m ls (i ∷ is) b (inr h) = first_no_cut m (levels_after m ls i) is b h.1

-- events at one place, of which one is the first that breaks a rule
first_at : (m : Message ℕ) (bytes : List ℕ) (tokens : List Token) (rest : List ℕ) (told : List Placed) (place : ℕ) (items : List Item) (b : Broken) → Front tag_limit [] bytes tokens rest → IsClean [] tokens
    → told ++ placed_at place items ≡ events [] 0 tokens → AreFine m [] (items_told told) → FirstFault m (levels_over m [] (items_told told)) items b → XmlFault m bytes (record { broken = b; place = place })
first_at m bytes tokens rest told place [] b front clean e fine h = absurd h
first_at m bytes tokens rest told place (i ∷ is) b front clean e fine (inl h) = event_fault m bytes tokens rest told (placed_at place is) (record { place = place; item = i }) b front clean (sym e) fine h
first_at m bytes tokens rest told place (i ∷ is) b front clean e fine (inr h) =
    let q : items_told (told ++ record { place = place; item = i } ∷ []) ≡ items_told told ++ i ∷ [] = told_joined told (record { place = place; item = i } ∷ []) in
    first_at m bytes tokens rest (told ++ record { place = place; item = i } ∷ []) place is b front clean (append_assoc told (record { place = place; item = i } ∷ []) (placed_at place is) ∙ e)
    (subst (λ (x : List Item). AreFine m [] x) (sym q) (fine_joined m [] (items_told told) (i ∷ []) fine (h.0, tt)))
    (subst (λ (x : List (Level ℕ)). FirstFault m x is b) (sym (ap (levels_over m []) q ∙ over_joined m [] (items_told told) (i ∷ []))) h.1)

pub stops_more : (T : Tables) (bytes more : List ℕ) (e : InstanceError) → XmlStops T bytes e → XmlStops T (bytes ++ more) e
stops_more T bytes more Memory h = tt
stops_more T bytes more (Refused fault) h = record {
  has_fault = λ behind. subst (λ (v : List ℕ). XmlFault (message_of T) v (xml_fault_of fault)) (sym (append_assoc bytes more behind)) (h.has_fault (more ++ behind));
  no_cut = h.no_cut;
}

pub stops_at_tag : (T : Tables) (old : XmlChecker) (reader : Reader) (bytes tag : List ℕ) (items : List Item) (content : Content) (r : Refusal) (e : InstanceError) (h : HasFedXml old T bytes) → EventsStay
    → HasTold reader (bytes ++ tag) (h.told ++ placed_at (length bytes) items) → AreItemsTaken {T = Unit {0}} (message_of T) (levels_over (message_of T) [] (items_told h.told)) items content (Err r) → IsTold r old.place e → XmlStops T (bytes ++ tag) e
stops_at_tag T old reader bytes tag items content NoMemory Memory h stay g k told = tt
stops_at_tag T old reader bytes tag items content NoMemory (Refused fault) h stay g k told = absurd told
stops_at_tag T old reader bytes tag items content (Breaks rule path) Memory h stay g k told = absurd told
stops_at_tag T old reader bytes tag items content (Breaks rule path) (Refused fault) h stay g k (same_rule, same_path, same_place) = record {
  has_fault = λ behind. of_stay behind (stay reader (bytes ++ tag) (h.told ++ placed_at (length bytes) items) g.taken_are behind);
  no_cut = λ q. first_no_cut (message_of T) (levels_over (message_of T) [] (items_told h.told)) items (record { rule = rule; path = path }) k (sym same_rule ∙ q);
}
  where
    of_stay : (behind : List ℕ) → ((tokens : List Token) × (rest : List ℕ) × Front tag_limit [] ((bytes ++ tag) ++ behind) tokens rest × IsClean [] tokens × (h.told ++ placed_at (length bytes) items ≡ events_of tokens)) → XmlFault (message_of T) ((bytes ++ tag) ++ behind) (xml_fault_of fault)
    of_stay behind (tokens, rest, front, clean, told_are) =
        rw (same_rule, same_path, same_place ∙ h.placed) (first_at (message_of T) ((bytes ++ tag) ++ behind) tokens rest h.told (length bytes) items (record { rule = rule; path = path }) front clean told_are h.fine k)

-- ---- runs of characters

no_characters : (bytes : List ℕ) (count : ℕ) (r : IsRun bytes count) → bytes ≡ [] → r.characters ≡ []
no_characters bytes count r e = of_length r.characters (omega (arith, length-le-encodes r.characters, ap length (sym r.bytes_are ∙ e)))
  where
    of_length : (cs : List ℕ) → length cs ≤ 0 → cs ≡ []
    of_length [] h = refl
    of_length (c ∷ cs) h = absurd (omega (arith, h))

-- what the reader answers for a run
abbrev pub RunTold : Reader → Reader → List ℕ → ℕ → Type 0
RunTold old new run count = (bytes : List ℕ) (told : List Placed) → HasTaken old bytes told → (r : IsRun run count) × HasTold new (bytes ++ run) (told ++ characters_from (length bytes) r.characters)

-- what the content shows of it
abbrev pub RunShown : Tables → Content → Content → List ℕ → ℕ → Type 0
RunShown T old new run count = (r : IsRun run count) (ls : List (Level ℕ)) → IsOpen old (message_of T) ls → GoOn old.pieces new.pieces (EventsShow T ls (map (λ c. Char c) r.characters))

run_fed : (T : Tables) (old new : XmlChecker) (run : List ℕ) (count n : ℕ) → RunTold old.reader new.reader run count → bytes_taken new.reader ≡ bytes_taken old.reader + n → n ≡ length run
    → ((bytes : List ℕ) → HasFedXml old T bytes → new.place ≡ length (bytes ++ run)) → new.events ≡ old.events → new.failed ≡ old.failed
    → ((r : IsRun run count) (ls : List (Level ℕ)) → IsOpen old.content (message_of T) ls → IsRunTaken (message_of T) ls r.characters new.content)
    → RunShown T old.content new.content run count → (bytes : List ℕ) → HasFedXml old T bytes → HasFedXml new T (bytes ++ run)
run_fed T old new run count n tells moved e place events failed taken_are shown_are bytes h =
    let k = tells bytes h.told h.given in
    let t = taken_are k.0 (levels_over (message_of T) [] (items_told h.told)) h.open_are in
    more_fed T old new bytes run (characters_from (length bytes) k.0.characters) (map (λ c. Char c) k.0.characters) h (chars_told (length bytes) k.0.characters) k.1
    (moved ∙ ap (λ v. bytes_taken old.reader + v) e) (place bytes h) t.0 t.1
    (shown_are k.0 (levels_over (message_of T) [] (items_told h.told)) h.open_are) (events ∙ h.none) (failed ∙ h.sound)

-- nothing is taken
nothing_fed : (T : Tables) (old new : XmlChecker) (count : ℕ) → RunTold old.reader new.reader [] count → bytes_taken new.reader ≡ bytes_taken old.reader → new.place ≡ old.place → new.events ≡ old.events → new.failed ≡ old.failed → new.content ≡ old.content
    → (bytes : List ℕ) → HasFedXml old T bytes → HasFedXml new T (bytes ++ [])
nothing_fed T old new count tells moved place events failed content bytes h =
    let k = tells bytes h.told h.given in
    let none : k.0.characters ≡ [] = no_characters [] count k.0 refl in
    more_fed T old new bytes [] (characters_from (length bytes) k.0.characters) [] h (ap (λ v. items_told (characters_from (length bytes) v)) none) k.1
    (moved ∙ omega arith) (place ∙ (h.placed ∙ ap length (sym (append-nil bytes)))) tt (subst (λ (v : Content). IsOpen v (message_of T) (levels_over (message_of T) [] (items_told h.told))) (sym content) h.open_are)
    (go_still old.content.pieces new.content.pieces (ap (λ v. v.pieces) content)) (events ∙ h.none) (failed ∙ h.sound)

pub front_run : (T : Tables) (old new : XmlChecker) (piece : List ℕ) (count n : ℕ) → n ≤ length piece → xml_bytes_fed old + length piece ≤ 2 ^ 40 → RunTold old.reader new.reader (take n piece) count → bytes_taken new.reader ≡ bytes_taken old.reader + n
    → new.place ≡ min (old.place + n) (2 ^ 64 - 1) → new.events ≡ old.events → new.failed ≡ old.failed
    → ((r : IsRun (take n piece) count) (ls : List (Level ℕ)) → IsOpen old.content (message_of T) ls → IsRunTaken (message_of T) ls r.characters new.content)
    → RunShown T old.content new.content (take n piece) count → TakesXmlFront T old new piece (Ok n)
front_run T old new piece count n within room tells moved place events failed taken_are shown_are = record {
  ok = run_fed T old new (take n piece) count n tells moved (sym long) (λ bytes h. place ∙ place_more bytes (take n piece) old.place (bytes_taken old.reader) n h.placed h.counted (sym long) (omega (arith, within, room))) events failed taken_are shown_are;
  err = λ bytes h. tt;
  within = within;
  count = moved;
}
  where
    long : length (take n piece) ≡ n
    long = length-take-le n piece within

pub front_nothing : (T : Tables) (old new : XmlChecker) (piece run : List ℕ) (count : ℕ) → run ≡ [] → RunTold old.reader new.reader run count → bytes_taken new.reader ≡ bytes_taken old.reader + 0 → new.place ≡ old.place → new.events ≡ old.events → new.failed ≡ old.failed → new.content ≡ old.content
    → TakesXmlFront T old new piece (Ok 0)
front_nothing T old new piece run count e tells moved place events failed content = record {
  ok = nothing_fed T old new count (subst (λ (v : List ℕ). RunTold old.reader new.reader v count) e tells) (moved ∙ omega arith) place events failed content;
  err = λ bytes h. tt;
  within = omega arith;
  count = moved;
}

pub front_still : (T : Tables) (old new : XmlChecker) (piece : List ℕ) → new.reader ≡ old.reader → new.place ≡ old.place → new.events ≡ old.events → new.failed ≡ old.failed → new.content ≡ old.content → TakesXmlFront T old new piece (Ok 0)
front_still T old new piece reader place events failed content = record {
  ok = λ bytes h. record {
    told = h.told;
    given = subst (λ (v : Reader). HasTaken v (bytes ++ []) h.told) (sym reader) (subst (λ (v : List ℕ). HasTaken old.reader v h.told) (sym (append-nil bytes)) h.given);
    counted = ap bytes_taken reader ∙ (h.counted ∙ ap length (sym (append-nil bytes)));
    placed = place ∙ (h.placed ∙ ap length (sym (append-nil bytes)));
    fine = h.fine;
    open_are = subst (λ (v : Content). IsOpen v (message_of T) (levels_over (message_of T) [] (items_told h.told))) (sym content) h.open_are;
    built = built_still T (items_told h.told) old.content.pieces new.content.pieces (ap (λ v. v.pieces) content) h.built;
    none = events ∙ h.none;
    sound = failed ∙ h.sound;
  };
  err = λ bytes h. tt;
  within = omega arith;
  count = ap bytes_taken reader ∙ omega arith;
}

-- ---- whole tags

-- what the reader answers for the events of a tag, by its name
abbrev pub TagTold : Reader → Reader → List ℕ → (Expanded → List Item) → List ℕ → Type 0
TagTold old new tag items name = (bytes : List ℕ) (told : List Placed) → HasTaken old bytes told → HasTold new (bytes ++ tag) (told ++ placed_at (length bytes) (items (name_behind told name)))

-- what it shows
abbrev pub TagShown : Tables → Content → Content → (Expanded → List Item) → List ℕ → Type 0
TagShown T old new items name = (ls : List (Level ℕ)) (n : Expanded) → n.local ≡ name → IsOurs (message_of T) ls n → IsOpen old (message_of T) ls → MayShowName old.pieces old.innermost n → GoOn old.pieces new.pieces (EventsShow T ls (items n))

-- events that are told together break no rule
pub front_items : (T : Tables) (old new : XmlChecker) (piece : List ℕ) (n : ℕ) → n ≤ length piece → xml_bytes_fed old + length piece ≤ 2 ^ 40 → bytes_taken new.reader ≡ bytes_taken old.reader + n → new.place ≡ min (old.place + n) (2 ^ 64 - 1) → new.events ≡ old.events → new.failed ≡ old.failed
    → ((bytes : List ℕ) (h : HasFedXml old T bytes) → (items : List Item) × HasTold new.reader (bytes ++ take n piece) (h.told ++ placed_at (length bytes) items) × PassAll (message_of T) (levels_over (message_of T) [] (items_told h.told)) items new.content
    × GoOn old.content.pieces new.content.pieces (EventsShow T (levels_over (message_of T) [] (items_told h.told)) items)) → TakesXmlFront T old new piece (Ok n)
front_items T old new piece n within room moved place events failed passes = record { ok = λ bytes h. of_items bytes h (passes bytes h); err = λ bytes h. tt; within = within; count = moved }
  where
    long : length (take n piece) ≡ n
    long = length-take-le n piece within

    of_items : (bytes : List ℕ) (h : HasFedXml old T bytes) → ((items : List Item) × HasTold new.reader (bytes ++ take n piece) (h.told ++ placed_at (length bytes) items) × PassAll (message_of T) (levels_over (message_of T) [] (items_told h.told)) items new.content
        × GoOn old.content.pieces new.content.pieces (EventsShow T (levels_over (message_of T) [] (items_told h.told)) items)) → HasFedXml new T (bytes ++ take n piece)
    of_items bytes h (items, tells, taken, shown) =
        more_fed T old new bytes (take n piece) (placed_at (length bytes) items) items h (tag_told (length bytes) items) tells (moved ∙ ap (λ v. bytes_taken old.reader + v) (sym long))
        (place ∙ place_more bytes (take n piece) old.place (bytes_taken old.reader) n h.placed h.counted (sym long) (omega (arith, within, room))) taken.0 taken.1 shown (events ∙ h.none) (failed ∙ h.sound)

pub front_tag : (T : Tables) (old new : XmlChecker) (piece name : List ℕ) (items : Expanded → List Item) (n : ℕ) → n ≤ length piece → xml_bytes_fed old + length piece ≤ 2 ^ 40 → TagTold old.reader new.reader (take n piece) items name → bytes_taken new.reader ≡ bytes_taken old.reader + n
    → new.place ≡ min (old.place + n) (2 ^ 64 - 1) → new.events ≡ old.events → new.failed ≡ old.failed → TagItemsTaken {U = Unit {0}} (message_of T) old.content new.content items name (Ok tt)
    → TagShown T old.content new.content items name → MayShow old.content.pieces old.content.innermost → TakesXmlFront T old new piece (Ok n)
front_tag T old new piece name items n within room tells moved place events failed taken_are shown_are may = front_items T old new piece n within room moved place events failed
    (λ bytes h.
    let ls = levels_over (message_of T) [] (items_told h.told) in
    let e = name_behind h.told name in
    let ours = ours_behind (message_of T) h.told name h.fine in
    (items e, tells bytes h.told h.given, taken_are ls e refl ours h.open_are, shown_are ls e refl ours h.open_are (may_show_name T h.told name old.content.text old.content.round.items old.content.innermost old.content.pieces h.fine h.open_are h.built may)))

pub front_tag_stops : (T : Tables) (old new : XmlChecker) (piece name : List ℕ) (items : Expanded → List Item) (n : ℕ) (r : Refusal) (e : InstanceError) → EventsStay → TagTold old.reader new.reader (take n piece) items name
    → TagItemsTaken {U = Unit {0}} (message_of T) old.content new.content items name (Err r) → IsTold r old.place e → TakesXmlFront T old new piece (Err e)
front_tag_stops T old new piece name items n r e stay tells taken_are told = record { ok = λ bytes h. tt; err = err; within = tt; count = tt }
  where
    err : (bytes : List ℕ) → HasFedXml old T bytes → XmlStops T (bytes ++ piece) e
    err bytes h = subst (λ (v : List ℕ). XmlStops T v e) (append_assoc bytes (take n piece) (drop n piece) ∙ ap (λ v. bytes ++ v) (take-append-drop n piece))
        (stops_more T (bytes ++ take n piece) (drop n piece) e (stops_at_tag T old new.reader bytes (take n piece) (items (name_behind h.told name)) new.content r e h stay (tells bytes h.told h.given)
        (taken_are (levels_over (message_of T) [] (items_told h.told)) (name_behind h.told name) refl (ours_behind (message_of T) h.told name h.fine) h.open_are) told))

-- ---- bytes inside a token

pub front_inside : (T : Tables) (old new : XmlChecker) (piece : List ℕ) (n : ℕ) → n ≤ length piece → xml_bytes_fed old + length piece ≤ 2 ^ 40 → ((bytes : List ℕ) (told : List Placed) → HasTaken old.reader bytes told → HasTold new.reader (bytes ++ take n piece) told)
    → bytes_taken new.reader ≡ bytes_taken old.reader + n → new.place ≡ min (old.place + n) (2 ^ 64 - 1) → new.events ≡ old.events → new.failed ≡ old.failed → new.content ≡ old.content → TakesXmlFront T old new piece (Ok n)
front_inside T old new piece n within room tells moved place events failed content = record { ok = ok; err = λ bytes h. tt; within = within; count = moved }
  where
    long : length (take n piece) ≡ n
    long = length-take-le n piece within

    ok : (bytes : List ℕ) → HasFedXml old T bytes → HasFedXml new T (bytes ++ take n piece)
    ok bytes h = more_fed T old new bytes (take n piece) [] [] h refl (subst (λ (x : List Placed). HasTold new.reader (bytes ++ take n piece) x) (sym (append-nil h.told)) (tells bytes h.told h.given))
        (moved ∙ ap (λ v. bytes_taken old.reader + v) (sym long)) (place ∙ place_more bytes (take n piece) old.place (bytes_taken old.reader) n h.placed h.counted (sym long) (omega (arith, within, room))) tt
        (subst (λ (v : Content). IsOpen v (message_of T) (levels_over (message_of T) [] (items_told h.told))) (sym content) h.open_are) (go_still old.content.pieces new.content.pieces (ap (λ v. v.pieces) content)) (events ∙ h.none) (failed ∙ h.sound)

-- ---- a byte

pub front_byte : (T : Tables) (old new : XmlChecker) (piece rest : List ℕ) (byte : ℕ) → piece ≡ byte ∷ rest → ((bytes : List ℕ) → HasFedXml old T bytes → HasFedXml new T (bytes ++ byte ∷ [])) → xml_bytes_fed new ≡ xml_bytes_fed old + 1 → TakesXmlFront T old new piece (Ok 1)
front_byte T old new piece rest byte e ok count = rw e (record { ok = ok; err = λ bytes h. tt; within = omega arith; count = count })

pub front_byte_stops : (T : Tables) (old new : XmlChecker) (piece rest : List ℕ) (byte : ℕ) (error : InstanceError) → piece ≡ byte ∷ rest → ((bytes : List ℕ) → HasFedXml old T bytes → XmlStops T (bytes ++ byte ∷ []) error) → TakesXmlFront T old new piece (Err error)
front_byte_stops T old new piece rest byte error e err = record { ok = λ bytes h. tt; err = of_piece; within = tt; count = tt }
  where
    of_piece : (bytes : List ℕ) → HasFedXml old T bytes → XmlStops T (bytes ++ piece) error
    of_piece bytes h = subst (λ (v : List ℕ). XmlStops T v error) (append_assoc bytes (byte ∷ []) rest ∙ ap (λ v. bytes ++ v) (sym e)) (stops_more T (bytes ++ byte ∷ []) rest error (err bytes h))

-- ---- one after another

pub front_then : (T : Tables) (old between new : XmlChecker) (piece : List ℕ) (n : ℕ) (result : Result ℕ InstanceError) → TakesXmlFront T old between piece (Ok n) → n ≡ 0 → TakesXmlFront T between new piece result → TakesXmlFront T old new piece result
front_then T old between new piece n result a e b = record {
  ok = λ bytes h. b.ok bytes (same bytes h);
  err = λ bytes h. b.err bytes (same bytes h);
  within = b.within;
  count = of_count result b.count;
}
  where
    same : (bytes : List ℕ) → HasFedXml old T bytes → HasFedXml between T bytes
    same bytes h = subst (λ (v : List ℕ). HasFedXml between T v) (append-nil bytes) (subst (λ (k : ℕ). HasFedXml between T (bytes ++ take k piece)) e (a.ok bytes h))

    of_count : (r : Result ℕ InstanceError) → IfOk r (λ k. xml_bytes_fed new ≡ xml_bytes_fed between + k) → IfOk r (λ k. xml_bytes_fed new ≡ xml_bytes_fed old + k)
    of_count (Ok k) h = let c = a.count in omega (arith, h, c, e)
    of_count (Err x) h = tt

pub fronts_fed : (T : Tables) (old new : XmlChecker) (bytes piece rest behind : List ℕ) (n : ℕ) (s : FedSoFar T old bytes piece rest) → behind ≡ drop n rest → HasFedXml new T ((bytes ++ s.seen) ++ take n rest) → FedSoFar T new bytes piece behind
fronts_fed T old new bytes piece rest behind n s e h = record {
  seen = s.seen ++ take n rest;
  piece_is = s.piece_is ∙ (ap (λ v. s.seen ++ v) (sym (take-append-drop n rest)) ∙ (sym (append_assoc s.seen (take n rest) (drop n rest)) ∙ ap (λ v. (s.seen ++ take n rest) ++ v) (sym e)));
  fed_are = subst (HasFedXml new T) (append_assoc bytes s.seen (take n rest)) h;
}

pub fronts_stop : (T : Tables) (old : XmlChecker) (bytes piece rest : List ℕ) (e : InstanceError) (s : FedSoFar T old bytes piece rest) → XmlStops T ((bytes ++ s.seen) ++ rest) e → XmlStops T (bytes ++ piece) e
fronts_stop T old bytes piece rest e s h = subst (λ (v : List ℕ). XmlStops T v e) (append_assoc bytes s.seen rest ∙ ap (λ v. bytes ++ v) (sym s.piece_is)) h
