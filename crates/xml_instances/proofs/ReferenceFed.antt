-- A checker that takes a whole reference.
use Rattle.std.proofs.Common.{◌≡◌, ℕ, ◌+◌, ◌-◌, ◌^◌, ◌≤◌, arith, take, drop, List, [], ◌∷◌, ◌++◌, refl, sym, ap, ◌∙◌, length, subst, append_assoc}
use Rattle.std.specs.Prelude.{Ok, Err, min}
use Rattle.std.proofs.lemmas.List.{length-take-le, take-append-drop}
use Rattle.lexical_core.specs.Tree.{Char}
use Rattle.markup.specs.Events.{Placed}
use Rattle.markup.specs.Reading.{HasTaken, HasTold, bytes_taken}
use Rattle.markup.specs.Scopes.{placed_at}
use Rattle.markup.specs.Standing.{EventsStay}
use Rattle.markup.specs.declared.reader.Reader.{Reader}
use Rattle.message_model.specs.Tables.{Tables, message_of}
use Rattle.message_model.specs.declared.fault.InstanceError.{InstanceError}
use Rattle.xml_instances.specs.Levels.{Level, levels_over}
use Rattle.xml_instances.specs.XmlFaults.{items_told}
use Rattle.xml_instances.specs.Open.{IsOpen, IsItemTaken}
use Rattle.xml_instances.specs.Built.{EventShows}
use Rattle.xml_instances.specs.Keeping.{GoOn}
use Rattle.xml_instances.specs.Checking.{HasFedXml, XmlStops, IsTold, TakesXmlFront, xml_bytes_fed}
use Rattle.xml_instances.specs.declared.opened.Refusal.{Refusal}
use Rattle.xml_instances.specs.declared.checker.XmlChecker.{XmlChecker}
use Rattle.xml_instances.proofs.Checks.{place_more}
use Rattle.xml_instances.proofs.GoingOn.{go_one}
use Rattle.xml_instances.proofs.QuickFed.{more_fed, stops_more, stops_at_tag}
use Rattle.xml_instances.proofs.QuickRuns.{one_item}

-- what the reader answers for a reference
abbrev pub ReferenceTold : Reader → Reader → List ℕ → ℕ → Type 0
ReferenceTold old new bytes_of c = (bytes : List ℕ) (told : List Placed) → HasTaken old bytes told → HasTold new (bytes ++ bytes_of) (told ++ placed_at (length bytes) (Char c ∷ []))

-- its character is taken
pub front_reference : (T : Tables) (old new : XmlChecker) (piece : List ℕ) (c n : ℕ) → n ≤ length piece → xml_bytes_fed old + length piece ≤ 2 ^ 40 → ReferenceTold old.reader new.reader (take n piece) c → bytes_taken new.reader ≡ bytes_taken old.reader + n
    → new.place ≡ min (old.place + n) (2 ^ 64 - 1) → new.events ≡ old.events → new.failed ≡ old.failed
    → ((ls : List (Level ℕ)) → IsOpen old.content (message_of T) ls → IsItemTaken {T = Unit {0}} (message_of T) ls (Char c) new.content (Ok tt))
    → ((ls : List (Level ℕ)) → IsOpen old.content (message_of T) ls → GoOn old.content.pieces new.content.pieces (EventShows T ls (Char c))) → TakesXmlFront T old new piece (Ok n)
front_reference T old new piece c n within room tells moved place events failed taken_are shown_are = record { ok = ok; err = λ bytes h. tt; within = within; count = moved }
  where
    long : length (take n piece) ≡ n
    long = length-take-le n piece within

    ok : (bytes : List ℕ) → HasFedXml old T bytes → HasFedXml new T (bytes ++ take n piece)
    ok bytes h =
        let ls = levels_over (message_of T) [] (items_told h.told) in
        let t = one_item {T = Unit {0}} (message_of T) ls (Char c) new.content (Ok tt) (taken_are ls h.open_are) in
        more_fed T old new bytes (take n piece) (placed_at (length bytes) (Char c ∷ [])) (Char c ∷ []) h refl (tells bytes h.told h.given) (moved ∙ ap (λ v. bytes_taken old.reader + v) (sym long))
        (place ∙ place_more bytes (take n piece) old.place (bytes_taken old.reader) n h.placed h.counted (sym long) (omega (arith, within, room))) t.0 t.1
        (go_one T ls (Char c) old.content.pieces new.content.pieces (shown_are ls h.open_are)) (events ∙ h.none) (failed ∙ h.sound)

-- its character breaks a rule
pub front_reference_stops : (T : Tables) (old new : XmlChecker) (piece : List ℕ) (c n : ℕ) (r : Refusal) (e : InstanceError) → EventsStay → ReferenceTold old.reader new.reader (take n piece) c
    → ((ls : List (Level ℕ)) → IsOpen old.content (message_of T) ls → IsItemTaken {T = Unit {0}} (message_of T) ls (Char c) new.content (Err r)) → IsTold r old.place e → TakesXmlFront T old new piece (Err e)
front_reference_stops T old new piece c n r e stay tells taken_are told = record { ok = λ bytes h. tt; err = err; within = tt; count = tt }
  where
    err : (bytes : List ℕ) → HasFedXml old T bytes → XmlStops T (bytes ++ piece) e
    err bytes h =
        let ls = levels_over (message_of T) [] (items_told h.told) in
        subst (λ (v : List ℕ). XmlStops T v e) (append_assoc bytes (take n piece) (drop n piece) ∙ ap (λ v. bytes ++ v) (take-append-drop n piece))
        (stops_more T (bytes ++ take n piece) (drop n piece) e (stops_at_tag T old new.reader bytes (take n piece) (Char c ∷ []) new.content r e h stay (tells bytes h.told h.given)
        (one_item {T = Unit {0}} (message_of T) ls (Char c) new.content (Err r) (taken_are ls h.open_are)) told))
