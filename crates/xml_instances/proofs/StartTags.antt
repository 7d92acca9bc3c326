-- A start tag in an element with elements of the message, with what it shows.
use Rattle.std.proofs.Common.{◌≡◌, ℕ, true, List, [], ◌∷◌, Option, Some, None, refl, sym, subst}
use Rattle.lexical_core.specs.Tree.{Expanded, Entry, Starts, Ends}
use Rattle.message_model.specs.Message.{Message}
use Rattle.message_model.specs.Tables.{Tables, message_of}
use Rattle.xml_instances.specs.Levels.{Level, Parent, Leaf, Envelope, Foreign, levels_after}
use Rattle.xml_instances.specs.EventFaults.{EventFault}
use Rattle.xml_instances.specs.Built.{Shown, ShowsBeside, EventShows, EventsShow}
use Rattle.xml_instances.specs.Keeping.{PiecesKept, GoOn, MayShow}
use Rattle.xml_instances.specs.Open.{StandsOpen}
use Rattle.xml_instances.specs.inner.Quick.{is_parent}
use Rattle.xml_instances.specs.declared.content.OpenText.{OpenText}
use Rattle.xml_instances.specs.declared.opened.Opened.{Opened}
use Rattle.xml_instances.specs.declared.opened.Opened.TheVariants as opened
use Rattle.xml_instances.proofs.GoingOn.{IsBeside, beside_event, end_behind, go_as, go_one, go_then}

-- it is neither an envelope nor in one
pub parent_beside : (m : Message ℕ) (text : Option OpenText) (o : Option Opened) (round : List Opened) (ls : List (Level ℕ)) → is_parent o ≡ true → StandsOpen m text o round ls → IsBeside ls
parent_beside m text (Some (opened.Parent number last count)) round (Parent f d ∷ ls) is h = tt
parent_beside m text (Some (opened.Parent number last count)) round (Leaf simple taken ∷ ls) is h = tt
parent_beside m text (Some (opened.Parent number last count)) round (Envelope has ∷ ls) is h = absurd h.0
parent_beside m text (Some (opened.Parent number last count)) round (Foreign ∷ ls) is h = absurd h.0
parent_beside m text (Some (opened.Parent number last count)) round [] is h = absurd h
parent_beside m text (Some opened.Text) round ls is h = absurd (cc)
parent_beside m text (Some (opened.Envelope filled)) round ls is h = absurd (cc)
parent_beside m text (Some opened.Foreign) round ls is h = absurd (cc)
parent_beside m text None round ls is h = absurd (cc)

-- so that tags may be taken whose names are not told whole
pub parent_may : (a : Option PiecesKept) (o : Option Opened) → is_parent o ≡ true → MayShow a o
parent_may None o is = tt
parent_may (Some kept) (Some (opened.Parent number last count)) is = tt
parent_may (Some kept) (Some opened.Text) is = tt
parent_may (Some kept) (Some (opened.Envelope filled)) is = absurd (cc)
parent_may (Some kept) (Some opened.Foreign) is = absurd (cc)
parent_may (Some kept) None is = tt

module _ (T : Tables) (ls : List (Level ℕ)) (n : Expanded) (entries : List Entry) (beside : IsBeside ls) where
  starts : (s t : Shown) → ShowsBeside T ls (Starts n entries) s t → EventShows T ls (Starts n entries) s t
  starts s t x = subst (λ (z : Shown). ShowsBeside T ls (Starts n entries) z t) (sym (beside_event ls (Starts n entries) s beside)) x

  pub start_goes_on : (a b : Option PiecesKept) → GoOn a b (ShowsBeside T ls (Starts n entries)) → GoOn a b (EventsShow T ls (Starts n entries ∷ []))
  start_goes_on a b go = go_one T ls (Starts n entries) a b (go_as {R = ShowsBeside T ls (Starts n entries)} {S = EventShows T ls (Starts n entries)} a b starts go)

  -- an empty element
  pub both_go_on : (a b c : Option PiecesKept) → EventFault (message_of T) ls (Starts n entries) None → GoOn a b (ShowsBeside T ls (Starts n entries)) → GoOn b c (ShowsBeside T (levels_after (message_of T) ls (Starts n entries)) (Ends n))
      → GoOn a c (EventsShow T ls (Starts n entries ∷ Ends n ∷ []))
  both_go_on a b c fine first then_ =
      let behind : List (Level ℕ) = levels_after (message_of T) ls (Starts n entries) in
      go_then {Q = EventsShow T ls (Starts n entries ∷ Ends n ∷ [])} {R = ShowsBeside T ls (Starts n entries)} {S = ShowsBeside T behind (Ends n)} a b c
      (λ s u t x y. (u, starts s u x, (t, subst (λ (z : Shown). ShowsBeside T behind (Ends n) z t) (sym (end_behind (message_of T) ls n entries n u beside fine)) y, refl))) first then_
