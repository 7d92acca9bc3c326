-- Fronts of a piece whose refusal is told apart from the answer.
use Rattle.std.specs.Prelude.{◌≡◌, ℕ, ◌+◌, ◌^◌, ◌≤◌, ◌++◌, true, List, length, map, take, Result, Ok, Err, OnOk, IfOk}
use Rattle.lexical_core.specs.Tree.{Expanded, Item}
use Rattle.markup.specs.Events.{Placed}
use Rattle.markup.specs.PlainTags.{tag_items, name_behind}
use Rattle.markup.specs.Reading.{HasTaken, HasTold, bytes_taken}
use Rattle.markup.specs.Scopes.{placed_at}
use Rattle.markup.specs.TagAttributes.{tag_entry}
use Rattle.markup.specs.declared.reader.Reader.{Reader}
use Rattle.markup.specs.declared.start_tag.StartTag.{StartTag}
use Rattle.markup.specs.declared.plain_tag.TagKind.{TagKind}
use Rattle.message_model.specs.Message.{Message}
use Rattle.message_model.specs.Tables.{Tables, message_of, types_of}
use Rattle.message_model.specs.declared.fault.InstanceError.{InstanceError}
use Rattle.message_model.specs.declared.fault.InstanceError.TheVariants.{Memory}
use Rattle.xml_instances.specs.Levels.{Level}
use Rattle.xml_instances.specs.Built.{EventsShow}
use Rattle.xml_instances.specs.Keeping.{GoOn, MayShowName}
use Rattle.xml_instances.specs.Open.{IsOpen, AreMade}
use Rattle.xml_instances.specs.Checking.{IsTold}
use Rattle.xml_instances.specs.Verdicts.{IsLean}
use Rattle.xml_instances.specs.inner.Quick.{AreItemsTaken, IsOurs, start_events}
use Rattle.xml_instances.specs.declared.content.Content.{Content}
use Rattle.xml_instances.specs.declared.opened.Refusal.{Refusal}

-- the answer, with why it stops
abbrev pub because : {T E : Type 0} → InstanceError → Result T E → Result T InstanceError
because stop (Ok x) = Ok x
because stop (Err e) = Err stop

-- what the content answers to the events of a tag, by its name
abbrev pub TagItemsTaken : {U : Type 0} → Message ℕ → Content → Content → (Expanded → List Item) → List ℕ → Result U Refusal → Type 0
TagItemsTaken m old new items name r = (ls : List (Level ℕ)) (n : Expanded) → n.local ≡ name → IsOurs m ls n → IsOpen old m ls → AreItemsTaken m ls (items n) new r

-- what it answers to a tag without attributes
abbrev pub TagTaken : {U : Type 0} → Message ℕ → Content → Content → TagKind → List ℕ → Result U Refusal → Type 0
TagTaken m old new kind name r = TagItemsTaken m old new (tag_items kind) name r

-- the same, where a refusal is told at the place
abbrev pub IsTagHeld : {U E : Type 0} → Tables → Content → Content → TagKind → List ℕ → ℕ → Result U E → InstanceError → Type 0
IsTagHeld T old new kind name place (Ok x) stop = TagTaken {U = Unit {0}} (message_of T) old new kind name (Ok tt)
IsTagHeld T old new kind name place (Err e) stop = (r : Refusal) × TagTaken {U = Unit {0}} (message_of T) old new kind name (Err r) × IsTold r place stop

-- what a tag shows that is taken
abbrev pub IsTagShown : {U E : Type 0} → Tables → Content → Content → TagKind → List ℕ → Result U E → Type 0
IsTagShown T old new kind name result = (ls : List (Level ℕ)) (n : Expanded) → n.local ≡ name → IsOurs (message_of T) ls n → IsOpen old (message_of T) ls
    → MayShowName old.pieces old.innermost n → OnOk result (GoOn old.pieces new.pieces (EventsShow T ls (tag_items kind n)))

-- what becomes of the content by a tag that is held to the message, and of why it stops
pub record HoldsTag {U E : Type 0} (T : Tables) (old new : Content) (kind : TagKind) (name : List ℕ) (place : ℕ) (result : Result U E) (stop : InstanceError) : Type 0 where
  pub made : AreMade (types_of T) new
  pub lean : IsLean old → IsLean new
  pub none : IfOk result (λ _. stop ≡ Memory)
  pub taken : IsTagHeld T old new kind name place result stop
  pub shown : IsTagShown T old new kind name result

-- the events of a start tag that is taken whole
abbrev pub told_items : StartTag → List Item
told_items tag = start_events tag.is_empty (map tag_entry tag.attributes.items) (record { namespace = tag.ns; local = tag.name.now })

-- A reader has taken the start tag at the front of the piece.
pub record HasTakenStart (old new : Reader) (piece : List ℕ) (tag : StartTag) : Type 0 where
  pub told_are : (bytes : List ℕ) (told : List Placed) → HasTaken old bytes told → HasTold new (bytes ++ take tag.bytes piece) (told ++ placed_at (length bytes) (told_items tag))
  pub same_ns : (bytes : List ℕ) (told : List Placed) → HasTaken old bytes told → tag.has_same_ns ≡ true → tag.ns ≡ (name_behind told tag.name.now).namespace
  pub within : tag.bytes ≤ length piece
  pub room : bytes_taken old + length piece ≤ 2 ^ 40
  pub count : bytes_taken new ≡ bytes_taken old + tag.bytes
