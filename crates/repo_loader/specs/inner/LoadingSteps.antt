-- What has been read of a repository file so far.
use Rattle.std.specs.Prelude.{◌≡◌, ◌||◌, Bool, true, false, if◌then◌else◌, ℕ, List, [], ◌∷◌, ◌++◌, Option, Some, None}
use Rattle.std.specs.List.{AllByRecursion}
use Rattle.lexical_core.specs.Characters.{IsXmlText}
use Rattle.lexical_core.specs.Tree.{Entry as Attribute}
use Rattle.repo_objects.specs.declared.objects.CodeDef.{CodeDef}
use Rattle.repo_objects.specs.declared.objects.ElementDef.{ElementDef}
use Rattle.repo_objects.specs.Objects.{HasMessageTexts}
use Rattle.repo_objects.specs.Repository.{DictionaryEntry, HasId, HasEntryTexts}
use Rattle.repo_objects.specs.declared.objects.MessageDef.{MessageDef}
use Rattle.repo_objects.specs.declared.objects.ObjectKind.{ObjectKind}
use Rattle.repo_loader.specs.declared.loading.OpenEntry.{OpenEntry}
use Rattle.repo_loader.specs.declared.loading.Loading.{Loading}
use Rattle.repo_loader.specs.Selected.{FileTag}
use Rattle.repo_loader.specs.declared.loading.OpenMessage.{OpenMessage}
use Rattle.repo_loader.specs.inner.FileSteps.{has_stop}
use Rattle.repo_loader.specs.File.{objects, entry, is_message, is_message_tag, messages, message, behind, own_blocks, own_identifiers, first_or_empty, element, code, message_identifier}
use Rattle.repo_loader.specs.declared.part.Part.{Part}
use Rattle.repo_loader.specs.declared.part.Part.TheVariants.{Element, Alternative, Code, Block, Identifier}
use Rattle.repo_loader.specs.FileFaults.{HasNumbers}

-- some item is there
abbrev pub is_some_list : {A : Type 0} → List A → Bool
is_some_list [] = false
is_some_list (x ∷ xs) = true

-- the values of attributes are texts
abbrev pub AreTexts : List Attribute → Type 0
AreTexts attributes = AllByRecursion (λ (a : Attribute). IsXmlText a.value) attributes

-- the open entry, as one of the data dictionary
abbrev pub entry_is : OpenEntry → DictionaryEntry
entry_is o = record { id = o.id; object = o.object }

abbrev pub entry_list : Option OpenEntry → List DictionaryEntry
entry_list None = []
entry_list (Some o) = entry_is o ∷ []

-- its id is new, and its texts are texts
abbrev pub IsNew : List DictionaryEntry → Option OpenEntry → Type 0
IsNew objects None = Unit {0}
IsNew objects (Some o) = (HasId objects o.id → ⊥) × HasEntryTexts (entry_is o)

abbrev pub CanClose : Loading → Type 0
CanClose l = IsNew l.repository.objects l.entry

-- one more element
abbrev pub with_element : ElementDef → Option OpenEntry → Option OpenEntry
with_element e None = None
with_element e (Some o) = Some (record { id = o.id; object = record o.object { elements = o.object.elements ++ e ∷ [] } })

-- the tags of the elements that were read say these objects; before the first entry there is none
pub record HasObjects (l : Loading) (tags : List FileTag) : Type 0 where
  pub objects_are : objects tags ≡ l.repository.objects ++ entry_list l.entry
  pub none_before : l.entry ≡ None → l.repository.objects ≡ []

-- some object has the id, where there is one
abbrev pub HasIdIn : List DictionaryEntry → Option (List ℕ) → Type 0
HasIdIn objects None = ⊥
HasIdIn objects (Some id) = HasId objects id

-- the entry before is closed, and this one is open
pub record OpensEntry (old new : Loading) (kind : ObjectKind) (attributes : List Attribute) : Type 0 where
  pub holds : OpenEntry
  pub closed : new.repository.objects ≡ old.repository.objects ++ entry_list old.entry
  pub opened : new.entry ≡ Some holds
  pub same : entry_is holds ≡ entry kind attributes []

-- the open message is the one of the last message's tag, and knows whether an identifier came
pub record LastMessage (o : OpenMessage) (closed : List MessageDef) (tags : List FileTag) : Type 0 where
  pub before : List FileTag
  pub tag : FileTag
  pub after : List FileTag
  pub tags_are : tags ≡ before ++ tag ∷ after
  pub is : is_message tag.part ≡ true
  pub last : has_stop is_message_tag after ≡ false
  pub closed_are : messages before ≡ closed
  pub message_is : o.message ≡ message tag.attributes after
  pub identified : o.identified ≡ is_some_list (behind is_message_tag own_identifiers after)

-- no message's tag came, or the open message is that of the last
abbrev pub HasMessages : Option OpenMessage → List MessageDef → List FileTag → Type 0
HasMessages None closed tags = (closed ≡ []) × (has_stop is_message_tag tags ≡ false)
HasMessages (Some o) closed tags = LastMessage o closed tags

-- what one more tag, which is no message's, makes of the open message
abbrev pub grow_message : FileTag → OpenMessage → OpenMessage
grow_message t o = record {
  message = record o.message { blocks = o.message.blocks ++ own_blocks t; id = if o.identified then o.message.id else first_or_empty (own_identifiers t) };
  identified = o.identified || is_some_list (own_identifiers t);
}

abbrev pub grown_if : FileTag → Option OpenMessage → Option OpenMessage
grown_if t None = None
grown_if t (Some o) = Some (grow_message t o)

-- the messages so far are those that are closed, and the open one
abbrev pub open_messages : Option OpenMessage → List MessageDef
open_messages None = []
open_messages (Some o) = o.message ∷ []

-- its texts are texts
abbrev pub CanCloseMessage : Option OpenMessage → Type 0
CanCloseMessage None = Unit {0}
CanCloseMessage (Some o) = HasMessageTexts o.message

-- one more building block, and the first identifier
abbrev pub with_block : ElementDef → Option OpenMessage → Option OpenMessage
with_block e None = None
with_block e (Some o) = Some (record { message = record o.message { blocks = o.message.blocks ++ e ∷ [] }; identified = o.identified })

abbrev pub with_identifier : List ℕ → Option OpenMessage → Option OpenMessage
with_identifier id None = None
with_identifier id (Some o) = Some (record { message = record o.message { id = if o.identified then o.message.id else id }; identified = true })

-- one more code
abbrev pub with_code : CodeDef → Option OpenEntry → Option OpenEntry
with_code c None = None
with_code c (Some o) = Some (record { id = o.id; object = record o.object { codes = o.object.codes ++ c ∷ [] } })

-- what a tag that is no entry's makes of the open entry, and one that is no message's of the open message
abbrev pub entry_after : Part → List Attribute → Option OpenEntry → Option OpenEntry
entry_after Element attributes o = with_element (element 0 attributes) o
entry_after Alternative attributes o = with_element (element 1 attributes) o
entry_after Code attributes o = with_code (code attributes) o
entry_after _ attributes o = o

abbrev pub message_after : Part → List Attribute → Option OpenMessage → Option OpenMessage
message_after Block attributes o = with_block (element 0 attributes) o
message_after Identifier attributes o = with_identifier (message_identifier attributes) o
message_after _ attributes o = o

-- the tag gives what is open its own
pub record TakesOther (old new : Loading) (part : Part) (attributes : List Attribute) : Type 0 where
  pub repository : new.repository ≡ old.repository
  pub entry : new.entry ≡ entry_after part attributes old.entry
  pub message : new.message ≡ message_after part attributes old.message
  pub numbers : HasNumbers part attributes

-- these tags say what is read
pub record HasTags (l : Loading) (tags : List FileTag) : Type 0 where
  pub objects : HasObjects l tags
  pub messages : HasMessages l.message l.repository.messages tags
