-- The message that drills make instances of: nodes, each with a name and with nodes below it.
use Rattle.std.specs.Prelude.{ℕ, List, [], ◌∷◌, Some, None, codes}
use Rattle.data_types.specs.declared.kind.Kind.TheVariants as kind
use Rattle.facets.specs.declared.simple.Simple.{Simple}
use Rattle.repo_objects.specs.declared.objects.ElementDef.{ElementDef}
use Rattle.repo_objects.specs.declared.objects.Kinds.TheVariants as kinds
use Rattle.repo_objects.specs.declared.objects.MessageDef.{MessageDef}
use Rattle.repo_objects.specs.declared.objects.Object.{Object}
use Rattle.repo_objects.specs.declared.objects.ObjectKind.TheVariants as object
use Rattle.repo_objects.specs.Objects.{no_facets}
use Rattle.repo_objects.specs.Repository.{Contents}
use Rattle.reference_check.specs.Forms as form
use Rattle.reference_check.specs.Forms.{Slot}
use Rattle.message_model.specs.Tables.{Tables, TypeEntry}

-- ---- the repository

-- the ids of the text and of the node
abbrev pub text_id : List ℕ
text_id = codes "_t"

abbrev pub node_id : List ℕ
node_id = codes "_n"

-- a text of 1 to 35 characters
abbrev pub text_object : Object
text_object = record {
  name = codes "Max35Text";
  kind = object.Simple kinds.Text;
  word = codes "Text";
  facets = record no_facets { min_length = Some 1; max_length = Some 35 };
  elements = [];
  codes = [];
  trace = None;
  currency = None;
}

-- a node's name, once
abbrev pub name_element : ElementDef
name_element = record { name = codes "Name"; tag = codes "Nm"; min = 1; max = Some 1; simple = Some text_id; complex = None; plain = None }

-- the nodes below it, any number of them
abbrev pub child_element : ElementDef
child_element = record { name = codes "Child"; tag = codes "Chld"; min = 0; max = None; simple = None; complex = Some node_id; plain = None }

abbrev pub node_object : Object
node_object = record {
  name = codes "Node1";
  kind = object.Component;
  word = codes "MessageComponent";
  facets = no_facets;
  elements = name_element ∷ (child_element ∷ []);
  codes = [];
  trace = None;
  currency = None;
}

abbrev pub message_id : List ℕ
message_id = codes "demo.002.001.01"

-- the one block of the message
abbrev pub node_block : ElementDef
node_block = record { name = codes "Node"; tag = codes "Nd"; min = 1; max = Some 1; simple = None; complex = Some node_id; plain = None }

abbrev pub tree_message : MessageDef
tree_message = record { id = message_id; name = codes "TreeV01"; tag = codes "Tree"; blocks = node_block ∷ [] }

abbrev pub contents : Contents
contents = record {
  objects = record { id = text_id; object = text_object } ∷ (record { id = node_id; object = node_object } ∷ []);
  messages = tree_message ∷ [];
}

-- ---- the compiled message

abbrev pub drill_text_type : Simple
drill_text_type = record {
  kind = kind.Text;
  min = 1;
  max = Some 35;
  total = 18;
  fraction = None;
  low = None;
  high = None;
  pattern = None;
  codes = None;
}

-- `Document` is type 0, the message type 1, the text type 2, the node type 3
abbrev pub document_slots : List (Slot ℕ)
document_slots = record { tag = codes "Tree"; min = 1; max = Some 1; target = 1 } ∷ []

abbrev pub message_slots : List (Slot ℕ)
message_slots = record { tag = codes "Nd"; min = 1; max = Some 1; target = 3 } ∷ []

abbrev pub node_slots : List (Slot ℕ)
node_slots = record { tag = codes "Nm"; min = 1; max = Some 1; target = 2 } ∷ (record { tag = codes "Chld"; min = 0; max = None; target = 3 } ∷ [])

abbrev pub type_entries : List TypeEntry
type_entries =
    record { word = codes "Document"; name = codes "Document"; form = form.Sequence document_slots }
    ∷ (record { word = codes "Message"; name = codes "TreeV01"; form = form.Sequence message_slots }
    ∷ (record { word = codes "Text"; name = codes "Max35Text"; form = form.Simple drill_text_type }
    ∷ (record { word = codes "MessageComponent"; name = codes "Node1"; form = form.Sequence node_slots } ∷ [])))

abbrev pub drill_tables : Tables
drill_tables = record { id = message_id; types = type_entries }
