-- What a repository file says: the objects of its data dictionary and its messages, by the elements that are read.
use Rattle.std.specs.Prelude.{ℕ, Bool, true, false, List, [], ◌∷◌, ◌++◌, codes, if◌then◌else◌}
use Rattle.lexical_core.specs.Tree.{Entry as Attribute}
use Rattle.lexical_core.specs.Names.{attribute_value}
use Rattle.repo_objects.specs.declared.objects.ObjectKind.{ObjectKind}
use Rattle.repo_objects.specs.declared.objects.ObjectKind.TheVariants.{Other}
use Rattle.repo_objects.specs.declared.objects.RawFacets.{RawFacets}
use Rattle.repo_objects.specs.declared.objects.ElementDef.{ElementDef}
use Rattle.repo_objects.specs.declared.objects.CodeDef.{CodeDef}
use Rattle.repo_objects.specs.declared.objects.Object.{Object}
use Rattle.repo_objects.specs.declared.objects.MessageDef.{MessageDef}
use Rattle.repo_objects.specs.Repository.{DictionaryEntry as Named, Contents}
use Rattle.repo_loader.specs.declared.part.Part.{Part}
use Rattle.repo_loader.specs.declared.part.Part.TheVariants.{Entry, Element, Alternative, Code, Message, Block, Identifier}
use Rattle.repo_loader.specs.FileNames.{id_name}
use Rattle.repo_loader.specs.FileValues.{text_of_attribute, text_or_empty, reference, word_of, has_lengths, has_digits, count, bound, least_of, greatest_of}
use Rattle.repo_loader.specs.FileNames.{own}
use Rattle.repo_loader.specs.Selected.{FileTag}

-- an element, an alternative or a building block; `minOccurs` is this where it is absent
abbrev pub element : ℕ → List Attribute → ElementDef
element absent attributes = record {
  name = text_of_attribute (codes "name") attributes;
  tag = text_of_attribute (codes "xmlTag") attributes;
  min = least_of absent (attribute_value (own (codes "minOccurs")) attributes);
  max = greatest_of (attribute_value (own (codes "maxOccurs")) attributes);
  simple = reference (codes "simpleType") attributes;
  complex = reference (codes "complexType") attributes;
  plain = reference (codes "type") attributes;
}

-- a code
abbrev pub code : List Attribute → CodeDef
code attributes = record { name = text_of_attribute (codes "name") attributes; code = reference (codes "codeName") attributes }

-- the facets of an entry of the kind; one that the kind does not have counts as absent
abbrev pub facets : ObjectKind → List Attribute → RawFacets
facets kind attributes = record {
  min_length = count (has_lengths kind) (codes "minLength") attributes;
  max_length = count (has_lengths kind) (codes "maxLength") attributes;
  length = count (has_lengths kind) (codes "length") attributes;
  total = count (has_digits kind) (codes "totalDigits") attributes;
  fraction = count (has_digits kind) (codes "fractionDigits") attributes;
  min_in = bound (has_digits kind) (codes "minInclusive") attributes;
  min_ex = bound (has_digits kind) (codes "minExclusive") attributes;
  max_in = bound (has_digits kind) (codes "maxInclusive") attributes;
  max_ex = bound (has_digits kind) (codes "maxExclusive") attributes;
  pattern = reference (codes "pattern") attributes;
}

-- an identifier: its four attributes, joined by points
abbrev pub message_identifier : List Attribute → List ℕ
message_identifier attributes =
    text_of_attribute (codes "businessArea") attributes ++ (codes "." ++ (text_of_attribute (codes "messageFunctionality") attributes ++ (codes "."
    ++ (text_of_attribute (codes "flavour") attributes ++ (codes "." ++ text_of_attribute (codes "version") attributes)))))

-- what an element that is read gives to what it stands in
abbrev pub elements_at : Part → List Attribute → List ElementDef
elements_at Element attributes = element 0 attributes ∷ []
elements_at Alternative attributes = element 1 attributes ∷ []
elements_at _ attributes = []

abbrev pub codes_at : Part → List Attribute → List CodeDef
codes_at Code attributes = code attributes ∷ []
codes_at _ attributes = []

abbrev pub blocks_at : Part → List Attribute → List ElementDef
blocks_at Block attributes = element 0 attributes ∷ []
blocks_at _ attributes = []

abbrev pub identifiers_at : Part → List Attribute → List (List ℕ)
identifiers_at Identifier attributes = message_identifier attributes ∷ []
identifiers_at _ attributes = []

-- the element is an entry of the data dictionary, and of which kind
abbrev pub is_entry : Part → Bool
is_entry (Entry kind) = true
is_entry _ = false

abbrev pub kind_at : Part → ObjectKind
kind_at (Entry kind) = kind
kind_at _ = Other

-- it is a message
abbrev pub is_message : Part → Bool
is_message Message = true
is_message _ = false

-- the element, code, building block or identifier that a tag gives to what it stands in
abbrev pub own_elements : FileTag → List ElementDef
own_elements t = elements_at t.part t.attributes

abbrev pub own_codes : FileTag → List CodeDef
own_codes t = codes_at t.part t.attributes

abbrev pub own_blocks : FileTag → List ElementDef
own_blocks t = blocks_at t.part t.attributes

abbrev pub own_identifiers : FileTag → List (List ℕ)
own_identifiers t = identifiers_at t.part t.attributes

-- an entry's tag, and a message's
abbrev pub is_entry_tag : FileTag → Bool
is_entry_tag t = is_entry t.part

abbrev pub is_message_tag : FileTag → Bool
is_message_tag t = is_message t.part

-- what the tags give, before the first that stops it
abbrev pub behind : {A : Type 0} → (FileTag → Bool) → (FileTag → List A) → List FileTag → List A
behind stops own [] = []
behind stops own (t ∷ ts) = if stops t then [] else own t ++ behind stops own ts

-- an entry, with the elements and codes that stand behind its tag and before the next entry's
abbrev pub object : ObjectKind → List Attribute → List FileTag → Object
object kind attributes after = record {
  name = text_of_attribute (codes "name") attributes;
  kind = kind;
  word = word_of attributes;
  facets = facets kind attributes;
  elements = behind is_entry_tag own_elements after;
  codes = behind is_entry_tag own_codes after;
  trace = reference (codes "trace") attributes;
  currency = reference (codes "currencyIdentifierSet") attributes;
}

abbrev pub entry : ObjectKind → List Attribute → List FileTag → Named
entry kind attributes after = record { id = text_or_empty (attribute_value id_name attributes); object = object kind attributes after }

-- the first of these; empty where there is none
abbrev pub first_or_empty : List (List ℕ) → List ℕ
first_or_empty [] = []
first_or_empty (id ∷ ids) = id

-- a message, with the building blocks and the first identifier behind its tag and before the next message's
abbrev pub message : List Attribute → List FileTag → MessageDef
message attributes after = record {
  id = first_or_empty (behind is_message_tag own_identifiers after);
  name = text_of_attribute (codes "name") attributes;
  tag = text_of_attribute (codes "xmlTag") attributes;
  blocks = behind is_message_tag own_blocks after;
}

-- the objects, in file order
abbrev pub objects : List FileTag → List Named
objects [] = []
objects (t ∷ ts) = if is_entry t.part then entry (kind_at t.part) t.attributes ts ∷ objects ts else objects ts

-- the messages, in file order
abbrev pub messages : List FileTag → List MessageDef
messages [] = []
messages (t ∷ ts) = if is_message t.part then message t.attributes ts ∷ messages ts else messages ts

-- what the elements that are read say
abbrev pub contents_of : List FileTag → Contents
contents_of tags = record { objects = objects tags; messages = messages tags }
