-- Which elements of a repository file are read: of a tree, and by events.
use Rattle.std.specs.Prelude.{ℕ, List, [], ◌∷◌, ◌++◌, drop, codes, if◌then◌else◌}
use Rattle.lexical_core.specs.Tree.{Expanded, Entry as Attribute, Nodes, Nothing, Element as Node, Text, Tree, Item, Starts, Ends}
use Rattle.lexical_core.specs.Names.{same_name}
use Rattle.markup.specs.Events.{Placed}
use Rattle.repo_objects.specs.declared.objects.ObjectKind.{ObjectKind}
use Rattle.repo_objects.specs.declared.objects.ObjectKind.TheVariants as object
use Rattle.repo_objects.specs.declared.objects.Kinds.TheVariants as kinds
use Rattle.repo_loader.specs.declared.part.Part.{Part}
use Rattle.repo_loader.specs.declared.part.Part.TheVariants.{File, Repository, OtherRoot, Dictionary, Entry, Element, Alternative, Code, Catalogue, Area, Message, Block, Identifier, LeftOut}
use Rattle.repo_loader.specs.FileNames.{root_name, is_own}
use Rattle.repo_loader.specs.FileValues.{object_kind_of}

-- one name is read in the element, as this
abbrev pub only : List ℕ → Part → Expanded → Part
only local part n = if is_own local n then part else LeftOut

-- what stands in an entry of the kind
abbrev pub part_in_entry : ObjectKind → Expanded → Part
part_in_entry object.Component n = only (codes "messageElement") Element n
part_in_entry object.Choice n = only (codes "messageElement") Alternative n
part_in_entry (object.Simple kinds.CodeSet) n = only (codes "code") Code n
part_in_entry _ n = LeftOut

-- What an element of this name and with these attributes is, by what it stands in. Every other element is left out with all that it holds.
abbrev pub part_in : Part → Expanded → List Attribute → Part
part_in File n attributes = if same_name n root_name then Repository else OtherRoot
part_in Repository n attributes = if is_own (codes "dataDictionary") n then Dictionary else only (codes "businessProcessCatalogue") Catalogue n
part_in Dictionary n attributes = only (codes "topLevelDictionaryEntry") (Entry (object_kind_of attributes)) n
part_in (Entry kind) n attributes = part_in_entry kind n
part_in Catalogue n attributes = only (codes "topLevelCatalogueEntry") Area n
part_in Area n attributes = only (codes "messageDefinition") Message n
part_in Message n attributes = if is_own (codes "messageBuildingBlock") n then Block else only (codes "messageDefinitionIdentifier") Identifier n
part_in _ n attributes = LeftOut

-- an element that is read: what it is, and its attributes
pub record FileTag : Type 0 where
  pub part : Part
  pub attributes : List Attribute

-- the element, where it is read
abbrev pub tag_if : Part → List Attribute → List FileTag
tag_if LeftOut attributes = []
tag_if part attributes = record { part = part; attributes = attributes } ∷ []

-- ---- of a tree

-- the elements that are read among these, which stand in an element of that part, in the order of their tags
abbrev pub tags_in : Part → Nodes → List FileTag
tags_in part Nothing = []
tags_in part (Text char rest) = tags_in part rest
tags_in part (Node n attributes children rest) =
    tag_if (part_in part n attributes) attributes ++ (tags_in (part_in part n attributes) children ++ tags_in part rest)

-- those of a whole tree
abbrev pub tree_tags : Tree → List FileTag
tree_tags t = tag_if (part_in File t.name t.attributes) t.attributes ++ tags_in (part_in File t.name t.attributes) t.children

-- ---- by events

-- the innermost of the open elements
abbrev pub innermost : List Part → Part
innermost [] = File
innermost (part ∷ parts) = part

-- the element that an event starts, where it is read
abbrev pub item_tags : Part → Item → List FileTag
item_tags part (Starts n attributes) = tag_if (part_in part n attributes) attributes
item_tags part _ = []

-- the open elements behind an event, the innermost first
abbrev pub parts_open_behind : List Part → Item → List Part
parts_open_behind parts (Starts n attributes) = part_in (innermost parts) n attributes ∷ parts
parts_open_behind parts (Ends n) = drop 1 parts
parts_open_behind parts _ = parts

-- the elements that are read, inside these open ones
abbrev pub item_list_tags : List Part → List Item → List FileTag
item_list_tags parts [] = []
item_list_tags parts (item ∷ items) = item_tags (innermost parts) item ++ item_list_tags (parts_open_behind parts item) items

-- an element that is read, with the place of its tag
pub record PlacedTag : Type 0 where
  pub place : ℕ
  pub tag : FileTag

-- the same with a place
abbrev pub placed_tags : ℕ → List FileTag → List PlacedTag
placed_tags place [] = []
placed_tags place (tag ∷ tags) = record { place = place; tag = tag } ∷ placed_tags place tags

-- the elements that are read by these events, inside these open ones
abbrev pub event_tags : List Part → List Placed → List PlacedTag
event_tags parts [] = []
event_tags parts (e ∷ es) = placed_tags e.place (item_tags (innermost parts) e.item) ++ event_tags (parts_open_behind parts e.item) es

-- the open elements behind these events
abbrev pub parts_open_after : List Part → List Placed → List Part
parts_open_after parts [] = parts
parts_open_after parts (e ∷ es) = parts_open_after (parts_open_behind parts e.item) es
