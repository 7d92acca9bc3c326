-- How far the elements of a repository file are read, by the events so far.
use Rattle.std.specs.Prelude.{◌≡◌, List, [], Option, Some, None, reverse}
use Rattle.std.specs.List.{AllByRecursion}
use Rattle.lexical_core.specs.Tree.{Item, Starts}
use Rattle.markup.specs.Events.{Placed}
use Rattle.markup.specs.EventItems.{item_of}
use Rattle.markup.specs.declared.event.Event.{Event}
use Rattle.repo_loader.specs.declared.fault.LoadFault.{LoadFault}
use Rattle.repo_loader.specs.declared.loading.Loading.{Loading}
use Rattle.repo_loader.specs.declared.selection.Selection.{Selection}
use Rattle.repo_loader.specs.Selected.{FileTag, event_tags, parts_open_after}
use Rattle.repo_loader.specs.FileFaults.{AreSoundTags, IsFirstBroken, tags_of}
use Rattle.repo_loader.specs.inner.LoadingSteps.{AreTexts, CanClose, CanCloseMessage, HasTags}

-- the values of an event's attributes are texts
abbrev pub HasItemTexts : Item → Type 0
HasItemTexts (Starts name attributes) = AreTexts attributes
HasItemTexts _ = Unit {0}

-- those of the attributes of these events
abbrev pub HaveTexts : List Event → Type 0
HaveTexts events = AllByRecursion (λ (e : Event). HasItemTexts (item_of e.what)) events

-- the elements that these events start and that are read
abbrev pub tags_told : List Placed → List FileTag
tags_told told = tags_of (event_tags [] told)

-- what is open can be closed
pub record CanEnd (l : Loading) : Type 0 where
  pub entry : CanClose l
  pub message : CanCloseMessage l.message

-- What these events say is read, and none of their elements breaks a rule.
pub record HasLoaded (s : Selection) (told : List Placed) : Type 0 where
  pub open_are : reverse s.open_parts.items ≡ parts_open_after [] told
  pub sound : AreSoundTags [] (event_tags [] told)
  pub tags : HasTags s.loading (tags_told told)
  pub closes : CanEnd s.loading

-- An element that these events start breaks a rule, and the fault is the first such.
pub record IsBrokenBy (told : List Placed) (fault : LoadFault) : Type 0 where
  pub first : IsFirstBroken (event_tags [] told) fault.rule fault.place
  pub no_markup : fault.markup ≡ None

-- what was read of more events: they are read, or they have a fault
abbrev pub LoadsOn : Selection → List Placed → Option LoadFault → Type 0
LoadsOn s told None = HasLoaded s told
LoadsOn s told (Some fault) = IsBrokenBy told fault
