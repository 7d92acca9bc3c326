-- Small files, to see that the definitions say what is meant.
use Rattle.std.proofs.Common.{◌≡◌, ℕ, List, [], ◌∷◌, codes, Option, Some, None, true, false, refl, pos}
use Rattle.std.proofs.Common.{neg_ℤ}
use Rattle.lexical_core.specs.Tree.{Expanded, Entry as Attribute, Nodes, Nothing, Element, Text, Tree}
use Rattle.repo_objects.specs.declared.objects.ObjectKind.{ObjectKind}
use Rattle.repo_objects.specs.declared.objects.ObjectKind.TheVariants.{Simple, Component, Choice, Other}
use Rattle.repo_objects.specs.declared.objects.Kinds.TheVariants as kinds
use Rattle.repo_objects.specs.declared.objects.ElementDef.{ElementDef}
use Rattle.repo_objects.specs.declared.objects.Object.{Object}
use Rattle.repo_objects.specs.Repository.{Contents}
use Rattle.repo_loader.specs.FileNames.{own, id_name, type_name, root_name}
use Rattle.repo_loader.specs.FileValues.{number_from_text, is_count, object_kind_of}
use Rattle.repo_loader.specs.Selected.{tree_tags}
use Rattle.repo_loader.specs.File.{contents_of}

-- numbers
one_and_a_half : number_from_text (codes "1.50") ≡ record { whole = pos 15; scale = 1 }
one_and_a_half = refl

minus_zero : number_from_text (codes "-0") ≡ record { whole = pos 0; scale = 0 }
minus_zero = refl

below_zero : number_from_text (codes "-.5") ≡ record { whole = neg_ℤ (pos 5); scale = 1 }
below_zero = refl

greatest : is_count (codes "4294967295") ≡ true
greatest = refl

too_great : is_count (codes "4294967296") ≡ false
too_great = refl

zero_first : is_count (codes "0000000007") ≡ true
zero_first = refl

no_digits : is_count [] ≡ false
no_digits = refl

-- kinds
two_colons : object_kind_of (record { name = type_name; value = codes "a:b:Text" } ∷ []) ≡ Other
two_colons = refl

-- the file of a note
abbrev a : List ℕ → List ℕ → Attribute
a local v = record { name = own local; value = v }

abbrev named : List ℕ → Expanded
named local = own local

abbrev note : Tree
note = record {
  name = root_name;
  attributes = [];
  children =
      Text 10 (Element (named (codes "dataDictionary")) []
      (Text 10 (Element (named (codes "topLevelDictionaryEntry"))
      (a (codes "maxLength") (codes "35") ∷ (a (codes "minLength") (codes "1") ∷ (a (codes "name") (codes "Max35Text") ∷ (record { name = id_name; value = codes "_t" } ∷ (record { name = type_name; value = codes "iso20022:Text" } ∷ [])))))
      (Element (named (codes "messageElement")) [] Nothing Nothing)
      (Text 10 Nothing)))
      (Element (named (codes "businessProcessCatalogue")) []
      (Element (named (codes "topLevelCatalogueEntry")) []
      (Element (named (codes "messageDefinition")) (a (codes "name") (codes "NoteV01") ∷ (a (codes "xmlTag") (codes "Note") ∷ []))
      (Element (named (codes "messageBuildingBlock"))
      (a (codes "maxOccurs") (codes "1") ∷ (a (codes "minOccurs") (codes "1") ∷ (a (codes "name") (codes "Identification") ∷ (a (codes "simpleType") (codes "_t") ∷ (a (codes "xmlTag") (codes "Id") ∷ []))))) Nothing
      (Element (named (codes "messageDefinitionIdentifier"))
      (a (codes "businessArea") (codes "demo") ∷ (a (codes "flavour") (codes "001") ∷ (a (codes "messageFunctionality") (codes "001") ∷ (a (codes "version") (codes "01") ∷ [])))) Nothing
      Nothing))
      Nothing)
      Nothing)
      Nothing));
}

abbrev said : Contents
said = record {
  objects = record {
    id = codes "_t";
    object = record {
      name = codes "Max35Text";
      kind = Simple kinds.Text;
      word = codes "Text";
      facets = record { min_length = Some 1; max_length = Some 35; length = None; total = None; fraction = None; min_in = None; min_ex = None; max_in = None; max_ex = None; pattern = None };
      elements = [];
      codes = [];
      trace = None;
      currency = None;
    };
  } ∷ [];
  messages = record {
    id = codes "demo.001.001.01";
    name = codes "NoteV01";
    tag = codes "Note";
    blocks = record { name = codes "Identification"; tag = codes "Id"; min = 1; max = Some 1; simple = Some (codes "_t"); complex = None; plain = None } ∷ [];
  } ∷ [];
}

note_says : contents_of (tree_tags note) ≡ said
note_says = refl

-- a choice, a component, a code set, an amount, and what is passed over
abbrev typed : List ℕ → List ℕ → List ℕ → List Attribute → List Attribute
typed kind id name more = record { name = id_name; value = id } ∷ (record { name = type_name; value = kind } ∷ (a (codes "name") name ∷ more))

abbrev entry_node : List Attribute → Nodes → Nodes → Nodes
entry_node attributes children rest = Element (named (codes "topLevelDictionaryEntry")) attributes children rest

abbrev parts : Tree
parts = record {
  name = root_name;
  attributes = [];
  children =
      Element (named (codes "other")) [] (entry_node (typed (codes "Text") (codes "_0") (codes "Hidden") []) Nothing Nothing)
      (Element (record { namespace = codes "urn:iso:std:iso:20022:2013:ecore"; local = codes "dataDictionary" }) []
      (entry_node (typed (codes "iso20022:ChoiceComponent") (codes "_c") (codes "Pick") [])
      (Element (named (codes "messageElement")) (a (codes "xmlTag") (codes "A") ∷ (a (codes "type") [] ∷ [])) (Element (named (codes "messageElement")) [] Nothing Nothing)
      (Element (record { namespace = codes "urn:x"; local = codes "messageElement" }) [] Nothing Nothing))
      (entry_node (typed (codes "iso20022:MessageComponent") (codes "_m") (codes "Node") (a (codes "maxLength") (codes "x") ∷ []))
      (Element (named (codes "messageElement")) (a (codes "xmlTag") (codes "B") ∷ (a (codes "maxOccurs") (codes "unbounded") ∷ [])) Nothing
      (Element (named (codes "code")) [] Nothing Nothing))
      (entry_node (typed (codes "iso20022:CodeSet") (codes "_k") (codes "Yes1Code") [])
      (Element (named (codes "code")) (a (codes "codeName") (codes "YES") ∷ (a (codes "name") (codes "Yes") ∷ [])) Nothing
      (Element (named (codes "code")) (a (codes "codeName") [] ∷ (a (codes "name") (codes "No") ∷ [])) Nothing Nothing))
      (entry_node (typed (codes "iso20022:Amount") (codes "_a") (codes "Amt") (a (codes "minInclusive") (codes "0.10") ∷ (a (codes "minLength") (codes "x") ∷ (a (codes "currencyIdentifierSet") (codes "_k") ∷ []))))
      Nothing Nothing))))
      Nothing);
}

abbrev bare : ObjectKind → List ℕ → List ℕ → Object
bare kind word name = record {
  name = name;
  kind = kind;
  word = word;
  facets = record { min_length = None; max_length = None; length = None; total = None; fraction = None; min_in = None; min_ex = None; max_in = None; max_ex = None; pattern = None };
  elements = [];
  codes = [];
  trace = None;
  currency = None;
}

abbrev tagged : List ℕ → ℕ → Option ℕ → ElementDef
tagged tag min max = record { name = []; tag = tag; min = min; max = max; simple = None; complex = None; plain = None }

parts_say : contents_of (tree_tags parts) ≡ record {
  objects =
      record { id = codes "_c"; object = record (bare Choice (codes "ChoiceComponent") (codes "Pick")) { elements = tagged (codes "A") 1 None ∷ [] } }
      ∷ (record { id = codes "_m"; object = record (bare Component (codes "MessageComponent") (codes "Node")) { elements = tagged (codes "B") 0 None ∷ [] } }
      ∷ (record { id = codes "_k"; object = record (bare (Simple kinds.CodeSet) (codes "CodeSet") (codes "Yes1Code")) { codes = record { name = codes "Yes"; code = Some (codes "YES") } ∷ (record { name = codes "No"; code = None } ∷ []) } }
      ∷ (record {
        id = codes "_a";
        object = record (bare (Simple kinds.Amount) (codes "Amount") (codes "Amt")) {
          facets = record (bare (Simple kinds.Amount) [] []).facets { min_in = Some (record { whole = pos 1; scale = 1 }) };
          currency = Some (codes "_k");
        };
      } ∷ [])));
  messages = [];
}
parts_say = refl
