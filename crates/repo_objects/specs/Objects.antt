-- What repositories hold: texts that are UTF-8 of characters of XML (XML 1.0 §2.2), and facets of which none is given.
use Rattle.std.specs.Prelude.{ℕ, List, Option, Some, None, All}
use Rattle.lexical_core.specs.Characters.{IsXmlText}
use Rattle.repo_objects.specs.declared.objects.Object.{Object}
use Rattle.repo_objects.specs.declared.objects.ElementDef.{ElementDef}
use Rattle.repo_objects.specs.declared.objects.CodeDef.{CodeDef}
use Rattle.repo_objects.specs.declared.objects.MessageDef.{MessageDef}
use Rattle.repo_objects.specs.declared.objects.RawFacets.{RawFacets}

-- facets of which none is given
abbrev pub no_facets : RawFacets
no_facets = record {
  min_length = None;
  max_length = None;
  length = None;
  total = None;
  fraction = None;
  min_in = None;
  min_ex = None;
  max_in = None;
  max_ex = None;
  pattern = None;
}

-- a text that may be absent
abbrev pub IsXmlTextIfAny : Option (List ℕ) → Type 0
IsXmlTextIfAny None = Unit {0}
IsXmlTextIfAny (Some text) = IsXmlText text

-- the texts of a building block or an element
pub record HasElementTexts (element : ElementDef) : Type 0 where
  pub name : IsXmlText element.name
  pub tag : IsXmlText element.tag
  pub simple : IsXmlTextIfAny element.simple
  pub complex : IsXmlTextIfAny element.complex
  pub plain : IsXmlTextIfAny element.plain

-- the texts of a code
pub record HasCodeTexts (definition : CodeDef) : Type 0 where
  pub name : IsXmlText definition.name
  pub code : IsXmlTextIfAny definition.code

-- the texts of an entry of the data dictionary
pub record HasObjectTexts (object : Object) : Type 0 where
  pub name : IsXmlText object.name
  pub word : IsXmlText object.word
  pub pattern : IsXmlTextIfAny object.facets.pattern
  pub elements : All HasElementTexts object.elements
  pub codes : All HasCodeTexts object.codes
  pub trace : IsXmlTextIfAny object.trace
  pub currency : IsXmlTextIfAny object.currency

-- the texts of a message definition
pub record HasMessageTexts (message : MessageDef) : Type 0 where
  pub id : IsXmlText message.id
  pub name : IsXmlText message.name
  pub tag : IsXmlText message.tag
  pub blocks : All HasElementTexts message.blocks
