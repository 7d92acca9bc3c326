-- A front of a piece whose events are told together: a start tag that a reader has taken.
use Rattle.std.proofs.Common.{◌≡◌, ℕ, ◌+◌, ◌<◌, ◌≤◌, ◌^◌, true, Option, Some, List, ◌++◌, length, map, take, drop, ap, ◌∙◌, subst, append_assoc}
use Rattle.std.specs.Prelude.{Err, IfSome}
use Rattle.std.proofs.lemmas.List.{take-append-drop}
use Rattle.lexical_core.specs.Tree.{Expanded, Item}
use Rattle.markup.specs.EventItems.{Tells}
use Rattle.markup.specs.Events.{Placed}
use Rattle.markup.specs.PlainTags.{name_behind}
use Rattle.markup.specs.Reading.{HasTaken, HasTold, GoesOn, bytes_taken}
use Rattle.markup.specs.Scopes.{placed_at}
use Rattle.markup.specs.TagAttributes.{tag_entry}
use Rattle.markup.specs.declared.event.Event.{Event}
use Rattle.markup.specs.declared.reader.Reader.{Reader}
use Rattle.markup.specs.declared.start_tag.StartTag.{StartTag}
use Rattle.message_model.specs.Tables.{Tables}
use Rattle.message_model.specs.declared.fault.InstanceError.{InstanceError}
use Rattle.xml_instances.specs.Checking.{HasFedXml, XmlStops, TakesXmlFront}
use Rattle.xml_instances.specs.inner.Fronts.{HasTakenStart, told_items}
use Rattle.xml_instances.specs.inner.Quick.{start_events}
use Rattle.xml_instances.specs.declared.checker.XmlChecker.{XmlChecker}
use Rattle.markup.proofs.StartsTold.{some_holds}
use Rattle.xml_instances.proofs.QuickFed.{stops_more, TagTold}

-- the piece is refused
pub front_refused : (T : Tables) (old new : XmlChecker) (piece : List ℕ) (e : InstanceError) → ((bytes : List ℕ) → HasFedXml old T bytes → XmlStops T (bytes ++ piece) e) → TakesXmlFront T old new piece (Err e)
front_refused T old new piece e err = record { ok = λ bytes h. tt; err = err; within = tt; count = tt }

-- its front is
pub front_stops : (T : Tables) (old new : XmlChecker) (piece : List ℕ) (n : ℕ) (e : InstanceError) → ((bytes : List ℕ) → HasFedXml old T bytes → XmlStops T (bytes ++ take n piece) e) → TakesXmlFront T old new piece (Err e)
front_stops T old new piece n e err = front_refused T old new piece e
    (λ bytes h. subst (λ (v : List ℕ). XmlStops T v e) (append_assoc bytes (take n piece) (drop n piece) ∙ ap (λ v. bytes ++ v) (take-append-drop n piece)) (stops_more T (bytes ++ take n piece) (drop n piece) e (err bytes h)))

-- the name of the tag is in the namespace of the innermost element
pub told_inside : (old new : Reader) (piece : List ℕ) (tag : StartTag) → HasTakenStart old new piece tag → tag.has_same_ns ≡ true → TagTold old new (take tag.bytes piece) (start_events tag.is_empty (map tag_entry tag.attributes.items)) tag.name.now
told_inside old new piece tag r same bytes told h =
    let items : Expanded → List Item = start_events tag.is_empty (map tag_entry tag.attributes.items) in
    subst (λ (ns : List ℕ). HasTold new (bytes ++ take tag.bytes piece) (told ++ placed_at (length bytes) (items (record { namespace = ns; local = tag.name.now })))) (r.same_ns bytes told h same) (r.told_are bytes told h)

-- the events of the tag are appended
pub told_events : (T : Tables) (checker : XmlChecker) (new : Reader) (bytes piece : List ℕ) (tag : StartTag) (events : List Event) (h : HasFedXml checker T bytes) → HasTakenStart checker.reader new piece tag → Tells checker.events events (placed_at checker.place (told_items tag))
    → GoesOn new (bytes ++ take tag.bytes piece) h.told checker.events events
told_events T checker new bytes piece tag events h r tells =
    let k = r.told_are bytes h.told h.given in
    record {
      more = placed_at (length bytes) (told_items tag);
      tells = subst (λ (place : ℕ). Tells checker.events events (placed_at place (told_items tag))) h.placed tells;
      taken_are = k.taken_are;
      are_events = k.are_events;
      only_cut = k.only_cut;
    }

-- the reader answers a tag
pub start_taken : (old new : Reader) (piece : List ℕ) (o : Option StartTag) (tag : StartTag) → o ≡ Some tag → IfSome o (λ t. (0 < t.bytes) × (t.bytes ≤ length piece)) → bytes_taken old + length piece ≤ 2 ^ 40
    → ((bytes : List ℕ) (told : List Placed) → HasTaken old bytes told → IfSome o (λ t. HasTold new (bytes ++ take t.bytes piece) (told ++ placed_at (length bytes) (told_items t))))
    → ((bytes : List ℕ) (told : List Placed) → HasTaken old bytes told → IfSome o (λ t. t.has_same_ns ≡ true → t.ns ≡ (name_behind told t.name.now).namespace))
    → IfSome o (λ t. bytes_taken new ≡ bytes_taken old + t.bytes) → HasTakenStart old new piece tag
start_taken old new piece o tag e within room told same count = record {
  told_are = λ bytes seen h. some_holds (λ (t : StartTag). HasTold new (bytes ++ take t.bytes piece) (seen ++ placed_at (length bytes) (told_items t))) o tag e (told bytes seen h);
  same_ns = λ bytes seen h. some_holds (λ (t : StartTag). t.has_same_ns ≡ true → t.ns ≡ (name_behind seen t.name.now).namespace) o tag e (same bytes seen h);
  within = (some_holds (λ (t : StartTag). (0 < t.bytes) × (t.bytes ≤ length piece)) o tag e within).1;
  room = room;
  count = some_holds (λ (t : StartTag). bytes_taken new ≡ bytes_taken old + t.bytes) o tag e count;
}
