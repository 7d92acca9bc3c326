-- The events that a reader tells, as the events of the definitions.
use Rattle.std.specs.Prelude.{◌≡◌, ◌⊎◌, List, ◌++◌, map, Option, None}
use Rattle.lexical_core.specs.declared.rule.Rule.{Rule}
use Rattle.lexical_core.specs.Tree.{Item, Entry, Starts, Char, Ends, Skipped}
use Rattle.markup.specs.Events.{Placed}
use Rattle.markup.specs.declared.event.Attr.{Attr}
use Rattle.markup.specs.declared.event.What.{What}
use Rattle.markup.specs.declared.event.What.TheVariants.{Start as StartTold, Char as CharTold, End as EndTold, Skipped as SkippedTold}
use Rattle.markup.specs.declared.event.Event.{Event}

-- an attribute with its expanded name
abbrev pub entry_of : Attr → Entry
entry_of a = record { name = record { namespace = a.ns; local = a.local }; value = a.value }

-- what stands at a place
abbrev pub item_of : What → Item
item_of (StartTold ns local attrs) = Starts (record { namespace = ns; local = local }) (map entry_of attrs)
item_of (CharTold c) = Char c
item_of (EndTold ns local) = Ends (record { namespace = ns; local = local })
item_of SkippedTold = Skipped

-- an event with its place
abbrev pub placed_event : Event → Placed
placed_event e = record { place = e.place; item = item_of e.what }

-- these events are appended
pub record Tells (old new : List Event) (told : List Placed) : Type 0 where
  pub more : List Event
  pub appended : new ≡ old ++ more
  pub told_are : map placed_event more ≡ told

-- a front of them is
pub record TellsFront (old new : List Event) (told : List Placed) : Type 0 where
  pub front : List Placed
  pub behind : List Placed
  pub front_is : told ≡ front ++ behind
  pub tells : Tells old new front

-- A front of the events is told where memory has run out, and none of a token that breaks a rule.
abbrev pub TellsClean : Option Rule → List Event → List Event → List Placed → Type 0
TellsClean rule old new told = TellsFront old new told × ((rule ≡ None) ⊎ (new ≡ old))
