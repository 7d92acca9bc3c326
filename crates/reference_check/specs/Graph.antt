-- The types of a message of a repository: the form of each place, whose slots lead to other places.
use Rattle.std.specs.Prelude.{ℕ, List, [], ◌∷◌, ◌++◌, map, Option, Some, None, if◌then◌else◌}
use Rattle.std.specs.Str.{bytes_eq}
use Rattle.repo_objects.specs.declared.objects.ElementDef.{ElementDef}
use Rattle.repo_objects.specs.declared.objects.MessageDef.{MessageDef}
use Rattle.repo_objects.specs.declared.objects.Object.{Object}
use Rattle.repo_objects.specs.Repository.{DictionaryEntry, Contents}
use Rattle.repo_objects.specs.declared.objects.Kinds.{Kinds}
use Rattle.repo_objects.specs.declared.objects.Kinds.TheVariants as kinds
use Rattle.repo_objects.specs.declared.objects.ObjectKind.{ObjectKind}
use Rattle.repo_objects.specs.declared.objects.ObjectKind.TheVariants.{Simple, Component, Choice, External, Other}
use Rattle.reference_check.specs.Forms.{Graph, Form, Slot}
use Rattle.reference_check.specs.Forms as form

-- `Document`, the message, an object by its id; and where an element leads that does not name one object
pub data Place : Type 0 where
  document : Place
  message : Place
  entry : List ℕ → Place
  nowhere : Place

-- the first object of that id
abbrev pub find_entry : List ℕ → List DictionaryEntry → Option Object
find_entry id [] = None
find_entry id (e ∷ es) = if bytes_eq e.id id then Some e.object else find_entry id es

-- the first message of that identifier
abbrev pub find_message : List ℕ → List MessageDef → Option MessageDef
find_message id [] = None
find_message id (m ∷ ms) = if bytes_eq m.id id then Some m else find_message id ms

-- the id, where one is given
abbrev pub given_id : Option (List ℕ) → List (List ℕ)
given_id None = []
given_id (Some id) = id ∷ []

-- the ids that an element names
abbrev pub references : ElementDef → List (List ℕ)
references e = given_id e.simple ++ given_id e.complex ++ given_id e.plain

-- where an element leads, if it names one object
abbrev pub one_of : List (List ℕ) → Place
one_of (id ∷ []) = entry id
one_of _ = nowhere

-- the slot of an element
abbrev pub slot_of : ElementDef → Slot Place
slot_of e = record { tag = e.tag; min = e.min; max = e.max; target = one_of (references e) }

-- the form of a simple type; its object stands for its facets
abbrev pub simple_form : Contents → Object → Kinds → Option (List ℕ) → Form Place Object
simple_form R o kinds.Amount (Some c) = form.Money (entry c) o
simple_form R o _ _ = form.Simple o

-- of an object, by its kind
abbrev pub object_form : Contents → Object → ObjectKind → Form Place Object
object_form R o (Simple k) = simple_form R o k o.currency
object_form R o Component = form.Sequence (map slot_of o.elements)
object_form R o Choice = form.Choice (map slot_of o.elements)
object_form R o External = form.Envelope
object_form R o Other = form.LeftOut

-- of the object of an id
abbrev pub entry_form : Contents → Option Object → Form Place Object
entry_form R None = form.Missing
entry_form R (Some o) = object_form R o o.kind

-- of the message: its building blocks in order
abbrev pub message_form : Option MessageDef → Form Place Object
message_form None = form.Missing
message_form (Some d) = form.Sequence (map slot_of d.blocks)

-- of `Document`: the message's element alone
abbrev pub document_form : Option MessageDef → Form Place Object
document_form None = form.Missing
document_form (Some d) = form.Sequence (record { tag = d.tag; min = 1; max = Some 1; target = message } ∷ [])

-- the forms of a message of a repository
abbrev pub graph : Contents → List ℕ → Graph Place Object
graph R m document = document_form (find_message m R.messages)
graph R m message = message_form (find_message m R.messages)
graph R m nowhere = form.Missing
graph R m (entry id) = entry_form R (find_entry id R.objects)
