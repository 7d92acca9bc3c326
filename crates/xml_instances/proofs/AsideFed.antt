-- A checker that takes a whole token which tells only that something is skipped.
use Rattle.std.proofs.Common.{◌≡◌, ℕ, ◌+◌, ◌-◌, ◌^◌, ◌≤◌, arith, take, List, [], ◌∷◌, ◌++◌, None, Option, refl, sym, ap, ◌∙◌, length, subst}
use Rattle.std.specs.Prelude.{Ok, min}
use Rattle.std.proofs.lemmas.List.{length-take-le}
use Rattle.lexical_core.specs.Tree.{Skipped}
use Rattle.markup.specs.Events.{Placed}
use Rattle.markup.specs.Reading.{HasTaken, HasTold, bytes_taken}
use Rattle.markup.specs.Scopes.{placed_at}
use Rattle.message_model.specs.Message.{Message}
use Rattle.message_model.specs.Tables.{Tables, message_of}
use Rattle.xml_instances.specs.Levels.{Level, Parent, Leaf, Envelope, Foreign, levels_after, levels_over}
use Rattle.xml_instances.specs.EventFaults.{EventFault}
use Rattle.xml_instances.specs.XmlFaults.{items_told}
use Rattle.xml_instances.specs.Open.{IsOpen}
use Rattle.xml_instances.specs.Built.{Shown, EventShows}
use Rattle.xml_instances.specs.Keeping.{PiecesKept, GoOn}
use Rattle.xml_instances.specs.Checking.{HasFedXml, TakesXmlFront, xml_bytes_fed}
use Rattle.xml_instances.specs.declared.content.Content.{Content}
use Rattle.xml_instances.specs.declared.checker.XmlChecker.{XmlChecker}
use Rattle.xml_instances.proofs.Checks.{place_more}
use Rattle.xml_instances.proofs.GoingOn.{go_as, go_still, go_one}
use Rattle.xml_instances.proofs.QuickFed.{more_fed}

-- such an event breaks no rule, leaves the open elements as they are, and shows nothing
skipped_fine : (m : Message ℕ) (ls : List (Level ℕ)) → EventFault m ls Skipped None
skipped_fine m [] = refl
skipped_fine m (l ∷ ls) = refl

skipped_levels : (m : Message ℕ) (ls : List (Level ℕ)) → levels_after m ls Skipped ≡ ls
skipped_levels m [] = refl
skipped_levels m (l ∷ ls) = refl

skipped_shows : (T : Tables) (ls : List (Level ℕ)) (s : Shown) → EventShows T ls Skipped s s
skipped_shows T [] s = refl
skipped_shows T (Parent f d ∷ ls) s = refl
skipped_shows T (Leaf simple text ∷ ls) s = refl
skipped_shows T (Envelope filled ∷ ls) s = refl
skipped_shows T (Foreign ∷ ls) s = refl

skipped_still : (T : Tables) (ls : List (Level ℕ)) (a b : Option PiecesKept) → b ≡ a → GoOn a b (EventShows T ls Skipped)
skipped_still T ls a b e = go_as {R = λ s t. t ≡ s} {S = EventShows T ls Skipped} a b (λ s t k. subst (λ (v : Shown). EventShows T ls Skipped s v) (sym k) (skipped_shows T ls s)) (go_still a b e)

pub front_aside : (T : Tables) (old new : XmlChecker) (piece : List ℕ) (n : ℕ) → n ≤ length piece → xml_bytes_fed old + length piece ≤ 2 ^ 40
    → ((bytes : List ℕ) (told : List Placed) → HasTaken old.reader bytes told → HasTold new.reader (bytes ++ take n piece) (told ++ placed_at (length bytes) (Skipped ∷ []))) → bytes_taken new.reader ≡ bytes_taken old.reader + n → new.place ≡ min (old.place + n) (2 ^ 64 - 1)
    → new.events ≡ old.events → new.failed ≡ old.failed → new.content ≡ old.content → TakesXmlFront T old new piece (Ok n)
front_aside T old new piece n within room tells moved place events failed content = record { ok = ok; err = λ bytes h. tt; within = within; count = moved }
  where
    long : length (take n piece) ≡ n
    long = length-take-le n piece within

    ok : (bytes : List ℕ) → HasFedXml old T bytes → HasFedXml new T (bytes ++ take n piece)
    ok bytes h =
        let ls = levels_over (message_of T) [] (items_told h.told) in
        more_fed T old new bytes (take n piece) (placed_at (length bytes) (Skipped ∷ [])) (Skipped ∷ []) h refl (tells bytes h.told h.given) (moved ∙ ap (λ v. bytes_taken old.reader + v) (sym long))
        (place ∙ place_more bytes (take n piece) old.place (bytes_taken old.reader) n h.placed h.counted (sym long) (omega (arith, within, room))) (skipped_fine (message_of T) ls, tt)
        (subst (λ (x : List (Level ℕ)). IsOpen new.content (message_of T) x) (sym (skipped_levels (message_of T) ls)) (subst (λ (v : Content). IsOpen v (message_of T) ls) (sym content) h.open_are))
        (go_one T ls Skipped old.content.pieces new.content.pieces (skipped_still T ls old.content.pieces new.content.pieces (ap (λ v. v.pieces) content))) (events ∙ h.none) (failed ∙ h.sound)
