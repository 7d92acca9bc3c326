-- A repository file that is read a byte at a time: what its events say is read as they come.
use Rattle.std.proofs.Common.{◌≡◌, ℕ, ◌+◌, ◌-◌, ◌<◌, ◌≤◌, suc, zero, true, false, List, [], ◌∷◌, ◌++◌, length, map, take, drop, Option, Some, None, refl, sym, ap, ◌∙◌, subst, append_assoc, append-nil, length-append, inl, inr, arith}
use Rattle.std.specs.List.{AllByRecursion, flat_map}
use Rattle.std.specs.Prelude.{Result, Ok, Err, IfOk, IfNone, IfSome}
use Rattle.std.proofs.lemmas.Bool.{both_ways}
use Rattle.std.proofs.lemmas.Bool.Decides.{nat_tests}
use Rattle.std.proofs.lemmas.List.{take-append-drop, length-take-le}
use Rattle.lexical_core.specs.declared.rule.Rule.TheVariants.{Truncated}
use Rattle.lexical_core.proofs.Lists.{take_past}
use Rattle.markup.specs.Token.{Token, token_bytes}
use Rattle.markup.specs.Marks.{Front, tag_limit}
use Rattle.markup.specs.Events.{Placed, events, start_tag_items}
use Rattle.markup.specs.Scopes.{placed_at}
use Rattle.markup.specs.EventItems.{placed_event, Tells}
use Rattle.markup.specs.Faults.{Fault, MarkFault, IsClean, Next}
use Rattle.markup.specs.Literals.{IsRun, characters_from}
use Rattle.markup.specs.Reading.{HasTaken, HasTold, IsWholly, GoesOn, Refuses, Stops, bytes_taken, fault_of}
use Rattle.markup.specs.declared.event.Event.{Event}
use Rattle.markup.specs.declared.reader.MarkError.{MarkError}
use Rattle.markup.specs.declared.reader.MarkError.TheVariants.{Refused}
use Rattle.markup.specs.declared.reader.MarkFault.{MarkFault as Told}
use Rattle.markup.specs.declared.reader.Reader.{Reader}
use Rattle.markup.specs.declared.start_tag.StartTag.{StartTag}
use Rattle.markup.specs.TagAttributes.{tag_entry}
use Rattle.markup.proofs.Stays.{events_stay, tokens_have_bytes}
use Rattle.markup.proofs.TokensBehind.{behind}
use Rattle.repo_objects.specs.Repository.{Contents}
use Rattle.repo_loader.specs.declared.fault.LoadFault.{LoadFault}
use Rattle.repo_loader.specs.declared.progress.Progress.{Progress}
use Rattle.repo_loader.specs.Selected.{event_tags}
use Rattle.repo_loader.specs.FileFaults.{AreSoundTags, IsFirstBroken}
use Rattle.repo_loader.specs.Loaded.{file_limit, token_tags, HasLoadFault, Spells, broken, markup}
use Rattle.repo_loader.specs.inner.LoadingSteps.{AreTexts}
use Rattle.repo_loader.specs.inner.SelectionSteps.{HasItemTexts, HaveTexts, HasLoaded, IsBrokenBy, LoadsOn}
use Rattle.repo_loader.specs.declared.progress.Front.{Front as FrontRead}
use Rattle.repo_loader.specs.declared.progress.Front.TheVariants.{Read, Breaks}
use Rattle.repo_loader.specs.inner.ProgressSteps.{markup_fault, HasReadFile, HasAll, TellsFault, ShowsLoadFault, ReadsOn, ReadsFront, is_front}
use Rattle.repo_loader.proofs.Texts.{events_texts}
use Rattle.repo_loader.proofs.EventSteps.{run_loaded}
use Rattle.repo_loader.proofs.OneLoadFault.{front_before}

-- ---- the values of attributes are texts

abbrev PlacedTexts : List Placed → Type 0
PlacedTexts es = AllByRecursion (λ (e : Placed). HasItemTexts e.item) es

texts_behind : (xs ys : List Placed) → PlacedTexts (xs ++ ys) → PlacedTexts ys
texts_behind [] ys h = h
texts_behind (x ∷ xs) ys h = texts_behind xs ys h.1

texts_of : (es : List Event) → PlacedTexts (map placed_event es) → HaveTexts es
texts_of [] h = tt
texts_of (e ∷ es) h = (h.0, texts_of es h.1)

token_texts : (told : List Placed) (es : List Event) (bytes : List ℕ) (ts : List Token) (rest : List ℕ) → Front tag_limit [] bytes ts rest → told ++ map placed_event es ≡ events [] 0 ts → HaveTexts es
token_texts told es bytes ts rest f e = texts_of es (texts_behind told (map placed_event es) (subst PlacedTexts (sym e) (events_texts tag_limit [] 0 bytes ts rest f)))

-- the events that were appended to none
pub new_events : (old new : List Event) (more : List Placed) → old ≡ [] → Tells old new more → more ≡ map placed_event new
new_events old new more e t = sym t.told_are ∙ ap (map placed_event) (sym (t.appended ∙ ap (λ v. v ++ t.more) e))

pub goes_texts : (reader : Reader) (bytes : List ℕ) (told : List Placed) (old new : List Event) → old ≡ [] → GoesOn reader bytes told old new → HaveTexts new
goes_texts reader bytes told old new e g =
    token_texts told new bytes g.are_events.0 g.are_events.1.rest g.are_events.1.front (ap (λ v. told ++ v) (sym (new_events old new g.more e g.tells)) ∙ g.are_events.3)

pub refuses_texts : (bytes : List ℕ) (told : List Placed) (old new : List Event) (fault : Told) → old ≡ [] → Refuses bytes told old new fault → HaveTexts new
refuses_texts bytes told old new fault e k =
    token_texts told new (bytes ++ []) k.tokens (k.rest ++ []) (k.front []) (ap (λ v. told ++ v) (sym (new_events old new k.more e k.tells)) ∙ k.events_are)

-- ---- what follows does not matter

pub limit_of : (a rest : List ℕ) → length a ≤ file_limit → take file_limit (a ++ rest) ≡ a ++ take (file_limit - length a) rest
limit_of a rest h = take_past a rest file_limit h

-- Whatever follows the bytes, the events are those of tokens at the front, in which nothing breaks a rule.
abbrev Stays : List ℕ → List Placed → Type 0
Stays bytes told = (more : List ℕ) → (tokens : List Token) × (rest : List ℕ) × Front tag_limit [] (bytes ++ more) tokens rest × IsClean [] tokens × (told ≡ events [] 0 tokens)

broken_shows : (bytes : List ℕ) (told : List Placed) (fault : LoadFault) → Stays bytes told → IsBrokenBy told fault → ShowsLoadFault bytes fault
broken_shows bytes told fault stays b more short =
    let s = stays (take (file_limit - length bytes) more) in
    broken s.0 s.1 (subst (λ v. Front tag_limit [] v s.0 s.1) (sym (limit_of bytes more short)) s.2) s.3
    (subst (λ es. IsFirstBroken (event_tags [] es) fault.rule fault.place) s.4 b.first) b.no_markup

-- a fault of markup, where the elements before it break none
pub markup_found : (all x : List ℕ) (fault : Told) → take file_limit all ≡ x → (m : MarkFault x (fault_of fault)) → AreSoundTags [] (token_tags m.tokens) → (fault.rule ≡ Truncated → length all ≤ file_limit) → HasLoadFault all (markup_fault fault)
markup_found all x fault e m s counts =
    subst (λ v. (m : MarkFault v (fault_of fault)) → AreSoundTags [] (token_tags m.tokens) → HasLoadFault all (markup_fault fault)) e (λ m s. markup (fault_of fault) m counts s refl) m s

no_more : (more : List Token) → length (flat_map token_bytes more) ≡ 0 → more ≡ []
no_more [] h = refl
no_more (t ∷ ts) h = absurd (tokens_have_bytes t (none (token_bytes t) (flat_map token_bytes ts) h)) where
  none : (xs ys : List ℕ) → length (xs ++ ys) ≡ 0 → xs ≡ []
  none [] ys h = refl
  none (x ∷ xs) ys h = absurd (omega (arith, h))

bytes_more : (ts us : List Token) → length (flat_map token_bytes (ts ++ us)) ≡ length (flat_map token_bytes ts) + length (flat_map token_bytes us)
bytes_more [] us = omega arith
bytes_more (t ∷ ts) us =
    let later = bytes_more ts us in
    omega (arith, later, length-append (token_bytes t) (flat_map token_bytes (ts ++ us)), length-append (token_bytes t) (flat_map token_bytes ts))

-- the tokens before a fault that is told are those whose events were told
same_tokens : (bytes : List ℕ) (ts : List Token) (rest : List ℕ) (fault : Fault) (m : MarkFault bytes fault) → Front tag_limit [] bytes ts rest → IsClean [] ts → length (flat_map token_bytes ts) ≡ fault.place → m.tokens ≡ ts
same_tokens bytes ts rest fault m f clean before =
    let r = front_before tag_limit [] bytes rest m.rest ts m.tokens fault.rule m.at f clean m.front (subst (λ v. Next tag_limit v m.rest fault.rule m.at) (behind m.tokens) m.next) in
    let place = m.place in
    let long = ap (λ us. length (flat_map token_bytes us)) r.1 in
    let more : r.0 ≡ [] = no_more r.0 (omega (arith, place, before, long, bytes_more ts r.0)) in
    r.1 ∙ (ap (λ us. ts ++ us) more ∙ append-nil ts)

markup_shows : (bytes : List ℕ) (told : List Placed) (old new : List Event) (fault : Told) → old ≡ [] → Refuses bytes told old new fault → AreSoundTags [] (event_tags [] (told ++ map placed_event new)) → ShowsLoadFault bytes (markup_fault fault)
markup_shows bytes told old new fault e k s more short =
    let behind = take (file_limit - length bytes) more in
    let m = k.has_fault behind in
    let same = same_tokens (bytes ++ behind) k.tokens (k.rest ++ behind) (fault_of fault) m (k.front behind) k.clean k.before in
    let are : told ++ map placed_event new ≡ events [] 0 m.tokens = ap (λ v. told ++ v) (sym (new_events old new k.more e k.tells)) ∙ k.events_are ∙ ap (events [] 0) (sym same) in
    markup_found (bytes ++ more) (bytes ++ behind) fault (limit_of bytes more short) m (subst (λ es. AreSoundTags [] (event_tags [] es)) are s) (λ t. absurd (k.no_cut t))

-- ---- more bytes, with the events that they show

module _ (old new : Progress) (bytes more : List ℕ) (es : List Event) (h : HasReadFile old bytes) (g : GoesOn new.reader (bytes ++ more) h.told old.events es) where
  now_taken : HasTaken new.reader (bytes ++ more) (h.told ++ map placed_event es)
  now_taken = subst (λ v. HasTaken new.reader (bytes ++ more) (h.told ++ v)) (new_events old.events es g.more h.none g.tells) g.taken_are

  pub reads_on : bytes_taken new.reader ≡ bytes_taken old.reader + length more → new.events ≡ [] → (o : Option LoadFault) → LoadsOn new.selection (h.told ++ map placed_event es) o → ReadsOn new (bytes ++ more) o
  reads_on n none None l = record {
    told = h.told ++ map placed_event es;
    given = now_taken;
    counted = n ∙ (ap (λ v. v + length more) h.counted ∙ sym (length-append bytes more));
    loaded = l;
    none = none;
  }
  reads_on n none (Some fault) b = broken_shows (bytes ++ more) (h.told ++ map placed_event es) fault (events_stay new.reader (bytes ++ more) (h.told ++ map placed_event es) now_taken) b

-- the bytes show a fault of markup
pub first_shows : (bytes : List ℕ) (told : List Placed) (old new : List Event) (mark : Told) (fault : LoadFault) → old ≡ [] → Refuses bytes told old new mark → TellsFault (told ++ map placed_event new) mark fault → ShowsLoadFault bytes fault
first_shows bytes told old new mark fault e k (inl b) =
    broken_shows bytes (told ++ map placed_event new) fault (λ more. (k.tokens, k.rest ++ more, k.front more, k.clean, ap (λ v. told ++ v) (sym (new_events old new k.more e k.tells)) ∙ k.events_are)) b
first_shows bytes told old new mark fault e k (inr (s, same)) =
    subst (ShowsLoadFault bytes) (sym same) (markup_shows bytes told old new mark e k s)

pub if_none : {A E : Type 0} {P : Type 0} (r : Result (Option A) E) → P → IfOk r (λ o. IfNone o P)
if_none (Ok None) p = p
if_none (Ok (Some x)) p = tt
if_none (Err e) p = tt

pub ok_map : {A E : Type 0} {P Q : A → Type 0} (r : Result A E) → ((x : A) → P x → Q x) → IfOk r P → IfOk r Q
ok_map (Ok x) f p = f x p
ok_map (Err e) f p = tt

-- The bytes that a source had left are all that were read, so they spell what these spell.
pub all_spell : (left : Option (List ℕ)) (p : Progress) (r : Contents) → HasAll left p
    → ((bytes : List ℕ) (told : List Placed) → HasLoaded p.selection told → IsWholly bytes told → length bytes ≤ file_limit → Spells bytes r) → IfSome left (λ bytes. Spells bytes r)
all_spell None p r h spell = tt
all_spell (Some known) p r h spell = subst (λ b. Spells b r) (sym h.all) (spell h.bytes h.whole.told h.whole.loaded h.whole.wholly h.short)

-- ---- a run of characters

pub read_run : (old new : Progress) (bytes piece : List ℕ) (count : ℕ) (run : IsRun piece count) (h : HasReadFile old bytes) → HasTold new.reader (bytes ++ piece) (h.told ++ characters_from (length bytes) run.characters)
    → bytes_taken new.reader ≡ bytes_taken old.reader + length piece → new.selection ≡ old.selection → new.events ≡ old.events → HasReadFile new (bytes ++ piece)
read_run old new bytes piece count run h g n same none = record {
  told = h.told ++ characters_from (length bytes) run.characters;
  given = g.taken_are;
  counted = n ∙ (ap (λ v. v + length piece) h.counted ∙ sym (length-append bytes piece));
  loaded = subst (λ s. HasLoaded s (h.told ++ characters_from (length bytes) run.characters)) (sym same) (run_loaded old.selection h.told (length bytes) run.characters h.loaded);
  none = none ∙ h.none;
}

-- bytes inside a token show no event
pub read_inside : (old new : Progress) (bytes piece : List ℕ) (n : ℕ) (h : HasReadFile old bytes) → n ≤ length piece
    → (n ≡ 0 → new.reader ≡ old.reader) → (0 < n → HasTold new.reader (bytes ++ take n piece) h.told)
    → bytes_taken new.reader ≡ bytes_taken old.reader + n → new.selection ≡ old.selection → new.events ≡ old.events → HasReadFile new (bytes ++ take n piece)
read_inside old new bytes piece zero h within still told counted same none = record {
  told = h.told;
  given = subst (λ b. HasTaken new.reader b h.told) (sym (append-nil bytes)) (subst (λ r. HasTaken r bytes h.told) (sym (still refl)) h.given);
  counted = ap bytes_taken (still refl) ∙ (h.counted ∙ ap length (sym (append-nil bytes)));
  loaded = subst (λ s. HasLoaded s h.told) (sym same) h.loaded;
  none = none ∙ h.none;
}
read_inside old new bytes piece (suc n) h within still told counted same none = record {
  told = h.told;
  given = (told (omega arith)).taken_are;
  counted = counted ∙ (ap (λ v. v + suc n) h.counted ∙ (ap (λ v. length bytes + v) (sym (length-take-le (suc n) piece within)) ∙ sym (length-append bytes (take (suc n) piece))));
  loaded = subst (λ s. HasLoaded s h.told) (sym same) h.loaded;
  none = none ∙ h.none;
}

-- ---- the bytes of a piece

-- the bytes of the piece before the rest are read
pub record ReadSoFar (p : Progress) (bytes piece rest : List ℕ) : Type 0 where
  pub seen : List ℕ
  pub piece_is : piece ≡ seen ++ rest
  pub read : HasReadFile p (bytes ++ seen)

pub nothing_seen : (p : Progress) (bytes piece : List ℕ) → HasReadFile p bytes → ReadSoFar p bytes piece piece
nothing_seen p bytes piece h = record { seen = []; piece_is = refl; read = subst (HasReadFile p) (sym (append-nil bytes)) h }

-- a run at the front of the rest is read
pub run_seen : (old new : Progress) (bytes piece rest left : List ℕ) (n : ℕ) (s : ReadSoFar old bytes piece rest) → left ≡ drop n rest → HasReadFile new ((bytes ++ s.seen) ++ take n rest) → ReadSoFar new bytes piece left
run_seen old new bytes piece rest left n s e h = record {
  seen = s.seen ++ take n rest;
  piece_is = s.piece_is ∙ (ap (λ v. s.seen ++ v) (sym (take-append-drop n rest)) ∙ (sym (append_assoc s.seen (take n rest) (drop n rest)) ∙ ap (λ v. (s.seen ++ take n rest) ++ v) (sym e)));
  read = subst (HasReadFile new) (append_assoc bytes s.seen (take n rest)) h;
}

shows_more : (bytes more : List ℕ) (fault : LoadFault) → ShowsLoadFault bytes fault → ShowsLoadFault (bytes ++ more) fault
shows_more bytes more fault s rest short =
    subst (λ v. HasLoadFault v fault) (sym (append_assoc bytes more rest)) (s (more ++ rest) (omega (arith, short, length-append bytes more)))

-- a fault that bytes of the rest show
pub fault_seen : (old : Progress) (bytes piece rest : List ℕ) (fault : LoadFault) (s : ReadSoFar old bytes piece rest) → ShowsLoadFault ((bytes ++ s.seen) ++ rest) fault → ShowsLoadFault (bytes ++ piece) fault
fault_seen old bytes piece rest fault s k =
    subst (λ v. ShowsLoadFault v fault) (append_assoc bytes s.seen rest ∙ ap (λ v. bytes ++ v) (sym s.piece_is)) k

pub all_seen : (p : Progress) (bytes piece : List ℕ) → ReadSoFar p bytes piece [] → HasReadFile p (bytes ++ piece)
all_seen p bytes piece s = subst (λ v. HasReadFile p (bytes ++ v)) (sym (s.piece_is ∙ append-nil s.seen)) s.read

-- ---- what stands at the front of a piece

-- no bytes were taken
pub none_read : (p : Progress) (bytes piece : List ℕ) (n : ℕ) → n ≡ 0 → HasReadFile p (bytes ++ take n piece) → HasReadFile p bytes
none_read p bytes piece n e h = subst (HasReadFile p) (append-nil bytes) (subst (λ k. HasReadFile p (bytes ++ take k piece)) e h)

-- a fault that the front shows
pub front_broken : (new : Progress) (bytes piece : List ℕ) (n : ℕ) (fault : LoadFault) → ReadsOn new (bytes ++ take n piece) (Some fault) → ReadsFront new bytes piece (Breaks fault)
front_broken new bytes piece n fault h =
    subst (λ v. ShowsLoadFault v fault) (append_assoc bytes (take n piece) (drop n piece) ∙ ap (λ v. bytes ++ v) (take-append-drop n piece)) (shows_more (bytes ++ take n piece) (drop n piece) fault h)

-- ---- a start tag that was taken whole

-- the events that it tells
abbrev tag_told : ℕ → StartTag → List Placed
tag_told place tag = placed_at place (start_tag_items (Some (record { namespace = tag.ns; local = tag.name.now })) (map tag_entry tag.attributes.items) tag.is_empty)

-- which are told behind others
abbrev TellsTag : Reader → List ℕ → List ℕ → List Placed → StartTag → Type 0
TellsTag reader bytes piece told tag = HasTold reader (bytes ++ take tag.bytes piece) (told ++ tag_told (length bytes) tag)

pub tag_texts : (reader : Reader) (bytes piece : List ℕ) (told : List Placed) (found : Option StartTag) (tag : StartTag) → found ≡ Some tag → IfSome found (TellsTag reader bytes piece told) → AreTexts (map tag_entry tag.attributes.items)
tag_texts reader bytes piece told found tag e f =
    let g = subst (λ o. IfSome o (TellsTag reader bytes piece told)) e f in
    (texts_behind told (tag_told (length bytes) tag)
    (subst PlacedTexts (sym g.are_events.3) (events_texts tag_limit [] 0 (bytes ++ take tag.bytes piece) g.are_events.0 g.are_events.1.rest g.are_events.1.front))).0

told_read : (old new : Progress) (bytes piece : List ℕ) (n : ℕ) (more : List Placed) (h : HasReadFile old bytes) → HasTold new.reader (bytes ++ take n piece) (h.told ++ more) → n ≤ length piece
    → bytes_taken new.reader ≡ bytes_taken old.reader + n → new.events ≡ old.events → (o : Option LoadFault) → LoadsOn new.selection (h.told ++ more) o → ReadsOn new (bytes ++ take n piece) o
told_read old new bytes piece n more h g within counted same None l = record {
  told = h.told ++ more;
  given = g.taken_are;
  counted = counted ∙ (ap (λ v. v + n) h.counted ∙ (ap (λ v. length bytes + v) (sym (length-take-le n piece within)) ∙ sym (length-append bytes (take n piece))));
  loaded = l;
  none = same ∙ h.none;
}
told_read old new bytes piece n more h g within counted same (Some fault) b = broken_shows (bytes ++ take n piece) (h.told ++ more) fault (events_stay new.reader (bytes ++ take n piece) (h.told ++ more) g.taken_are) b

-- they are read
pub tag_read : (old new : Progress) (bytes piece : List ℕ) (found : Option StartTag) (tag : StartTag) (h : HasReadFile old bytes) → found ≡ Some tag → IfSome found (TellsTag new.reader bytes piece h.told)
    → IfSome found (λ t. (0 < t.bytes) × (t.bytes ≤ length piece)) → IfSome found (λ t. bytes_taken new.reader ≡ bytes_taken old.reader + t.bytes) → new.events ≡ old.events
    → (place : ℕ) → place ≡ bytes_taken old.reader → (o : Option LoadFault) → LoadsOn new.selection (h.told ++ tag_told place tag) o → ReadsOn new (bytes ++ take tag.bytes piece) o
tag_read old new bytes piece found tag h e told within counted same place at o l =
    told_read old new bytes piece tag.bytes (tag_told (length bytes) tag) h
    (subst (λ f. IfSome f (TellsTag new.reader bytes piece h.told)) e told)
    (subst (λ f. IfSome f (λ (t : StartTag). (0 < t.bytes) × (t.bytes ≤ length piece))) e within).1
    (subst (λ f. IfSome f (λ (t : StartTag). bytes_taken new.reader ≡ bytes_taken old.reader + t.bytes)) e counted)
    same o (subst (λ p. LoadsOn new.selection (h.told ++ tag_told p tag) o) (at ∙ h.counted) l)

-- the tag itself shows a fault
pub tag_refused : (old : Progress) (bytes piece : List ℕ) (error : MarkError) (mark : Told) (h : HasReadFile old bytes) → error ≡ Refused mark → Stops (bytes ++ piece) h.told [] [] error → ShowsLoadFault (bytes ++ piece) (markup_fault mark)
tag_refused old bytes piece error mark h e k =
    markup_shows (bytes ++ piece) h.told [] [] mark refl (subst (Stops (bytes ++ piece) h.told [] []) e k) (subst (λ es. AreSoundTags [] (event_tags [] es)) (sym (append-nil h.told)) h.loaded.sound)

-- where none stands there, nothing was read
pub none_front : (p : Progress) (bytes piece : List ℕ) (f : FrontRead) → is_front f ≡ false → ReadsFront p bytes piece f → HasReadFile p bytes
none_front p bytes piece (Read n) e r = let none : n ≡ 0 = grind (arith, nat_tests) in none_read p bytes piece n none r
none_front p bytes piece (Breaks fault) e r = absurd (both_ways true e refl)
