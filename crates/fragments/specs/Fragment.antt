-- The canonical fragment of an element: its one spelling as XML.
use Rattle.std.specs.Prelude.{ℕ, ◌+◌, Bool, true, false, ◌||◌, List, [], ◌∷◌, ◌++◌, map, codes, Option, Some, None, if◌then◌else◌}
use Rattle.std.specs.List.{flat_map}
use Rattle.std.specs.Str.{bytes_eq}
use Rattle.std.specs.Int.Digits.{digits_of}
use Rattle.lexical_core.specs.Escapes.{escape_of, reference_or}
use Rattle.lexical_core.specs.Tree.{Expanded, Entry, Nodes, Nothing, Element, Text, Tree}
use Rattle.lexical_core.specs.Names.{xml_namespace, xmlns}

-- a name as it is written; the prefix is empty where there is none
pub record Spelling : Type 0 where
  pub prefix : List ℕ
  pub local : List ℕ

-- a name and its value in quotes, as they are written in a start tag: a declaration or an attribute
pub record Written : Type 0 where
  pub name : Spelling
  pub value : List ℕ

abbrev pub spelling_text : Spelling → List ℕ
spelling_text s = if bytes_eq s.prefix [] then s.local else s.prefix ++ 58 ∷ s.local

-- the spelling of a byte in the value of an attribute, in quotes `"`
abbrev pub value_byte : ℕ → List ℕ
value_byte byte = reference_or true byte (byte ∷ [])

abbrev pub written_text : Written → List ℕ
written_text w = 32 ∷ spelling_text w.name ++ 61 ∷ 34 ∷ flat_map value_byte w.value ++ 34 ∷ []

abbrev pub is_xml : List ℕ → Bool
is_xml namespace = bytes_eq namespace xml_namespace

-- the name of an element: with the prefix `xml` in its namespace, and else without one
abbrev pub element_spelling : Expanded → Spelling
element_spelling name = record { prefix = if is_xml name.namespace then codes "xml" else []; local = name.local }

-- where this default namespace stands, if any, the element needs no declaration of its own
abbrev pub is_default : Option (List ℕ) → List ℕ → Bool
is_default None namespace = false
is_default (Some default) namespace = bytes_eq default namespace

-- the default namespace within an element
abbrev pub default_within : Option (List ℕ) → Expanded → Option (List ℕ)
default_within default name = if is_xml name.namespace then default else Some name.namespace

abbrev pub default_declaration : Option (List ℕ) → Expanded → List Written
default_declaration default name =
    if is_xml name.namespace || is_default default name.namespace then []
    else record { name = record { prefix = []; local = xmlns }; value = name.namespace } ∷ []

-- an attribute without a namespace, or in that of `xml`, needs no declaration
abbrev pub needs_none : List ℕ → Bool
needs_none namespace = bytes_eq namespace [] || is_xml namespace

-- a namespace before others, where it is not the first of them already
abbrev pub before_others : List ℕ → List (List ℕ) → List (List ℕ)
before_others namespace [] = namespace ∷ []
before_others namespace (first ∷ more) = if bytes_eq namespace first then first ∷ more else namespace ∷ first ∷ more

-- the namespaces that sorted attributes need declared, in order, each once
abbrev pub namespaces_of : List Entry → List (List ℕ)
namespaces_of [] = []
namespaces_of (e ∷ es) = if needs_none e.name.namespace then namespaces_of es else before_others e.name.namespace (namespaces_of es)

-- the prefix with a number: `a1`, `a2` and so on
abbrev pub prefix_of : ℕ → List ℕ
prefix_of number = 97 ∷ map (λ d. 48 + d) (digits_of 10 number)

-- declarations of namespaces, numbered from here
abbrev pub numbered_declarations : ℕ → List (List ℕ) → List Written
numbered_declarations number [] = []
numbered_declarations number (namespace ∷ more) = record { name = record { prefix = xmlns; local = prefix_of number }; value = namespace } ∷ numbered_declarations (number + 1) more

-- the number of a namespace among these, numbered from here
abbrev pub number_among : ℕ → List (List ℕ) → List ℕ → ℕ
number_among number [] namespace = number
number_among number (first ∷ more) namespace = if bytes_eq first namespace then number else number_among (number + 1) more namespace

abbrev pub attribute_prefix : List (List ℕ) → List ℕ → List ℕ
attribute_prefix namespaces namespace =
    if bytes_eq namespace [] then []
    else (if is_xml namespace then codes "xml" else prefix_of (number_among 1 namespaces namespace))

abbrev pub attribute_written : List (List ℕ) → Entry → Written
attribute_written namespaces e = record { name = record { prefix = attribute_prefix namespaces e.name.namespace; local = e.name.local }; value = e.value }

-- what a start tag says: the default's declaration, those of prefixes, the attributes
abbrev pub tag_contents : Option (List ℕ) → Expanded → List Entry → List Written
tag_contents default name attributes =
    default_declaration default name ++ (numbered_declarations 1 (namespaces_of attributes) ++ map (attribute_written (namespaces_of attributes)) attributes)

abbrev pub start_text : Option (List ℕ) → Expanded → List Entry → List ℕ
start_text default name attributes = 60 ∷ spelling_text (element_spelling name) ++ (flat_map written_text (tag_contents default name attributes) ++ 62 ∷ [])

abbrev pub end_text : Expanded → List ℕ
end_text name = 60 ∷ 47 ∷ spelling_text (element_spelling name) ++ 62 ∷ []

-- the children of an element, where this default namespace stands so far
abbrev pub nodes_text : Option (List ℕ) → Nodes → List ℕ
nodes_text default Nothing = []
nodes_text default (Element name attributes children rest) =
    start_text default name attributes ++ (nodes_text (default_within default name) children ++ (end_text name ++ nodes_text default rest))
nodes_text default (Text char rest) = escape_of false char ++ nodes_text default rest

-- the canonical fragment of a tree: no default namespace stands before it
abbrev pub fragment : Tree → List ℕ
fragment t = nodes_text None (Element t.name t.attributes t.children Nothing)
