-- What the attributes of an element say is text, where their values are.
use Rattle.std.proofs.Common.{ℕ, Bool, true, false, List, [], ◌∷◌, Option, Some, None, if◌then◌else◌, codes, refl}
use Rattle.std.proofs.lemmas.List.Elements.{All-nil}
use Rattle.lexical_core.specs.Characters.{IsXmlText}
use Rattle.lexical_core.specs.Tree.{Expanded, Entry as Attribute}
use Rattle.lexical_core.specs.Names.{same_name, attribute_value}
use Rattle.repo_objects.specs.declared.objects.ObjectKind.{ObjectKind}
use Rattle.repo_objects.specs.Objects.{IsXmlTextIfAny, HasElementTexts, HasCodeTexts}
use Rattle.repo_objects.specs.Repository.{HasEntryTexts}
use Rattle.repo_loader.specs.FileNames.{own, id_name, type_name}
use Rattle.repo_loader.specs.FileValues.{text_or_empty, some_text, text_of_attribute, reference, word_of}
use Rattle.repo_loader.specs.File.{entry, element, code}
use Rattle.repo_loader.specs.inner.LoadingSteps.{AreTexts}
use Rattle.repo_loader.proofs.ColonTexts.{colon_text}

pub empty_text : IsXmlText []
empty_text = ([], tt, refl)

value_text : (name : Expanded) (as' : List Attribute) → AreTexts as' → IsXmlTextIfAny (attribute_value name as')
value_text name [] h = tt
value_text name (a ∷ as') h = by (same_name a.name name) (value_text name as' h.1)
  where
    by : (b : Bool) → IsXmlTextIfAny (attribute_value name as') → IsXmlTextIfAny (if b then Some a.value else attribute_value name as')
    by true later = h.0
    by false later = later

or_empty : (o : Option (List ℕ)) → IsXmlTextIfAny o → IsXmlText (text_or_empty o)
or_empty None h = empty_text
or_empty (Some t) h = h

some_is_text : (o : Option (List ℕ)) → IsXmlTextIfAny o → IsXmlTextIfAny (some_text o)
some_is_text None h = tt
some_is_text (Some []) h = tt
some_is_text (Some (c ∷ cs)) h = h

module _ (as' : List Attribute) (h : AreTexts as') where
  pub text_is : (local : List ℕ) → IsXmlText (text_of_attribute local as')
  text_is local = or_empty (attribute_value (own local) as') (value_text (own local) as' h)

  reference_is : (local : List ℕ) → IsXmlTextIfAny (reference local as')
  reference_is local = some_is_text (attribute_value (own local) as') (value_text (own local) as' h)

  word_is : IsXmlText (word_of as')
  word_is = colon_text (text_or_empty (attribute_value type_name as')) (or_empty (attribute_value type_name as') (value_text type_name as' h))

  pub entry_texts : (kind : ObjectKind) → HasEntryTexts (entry kind as' [])
  entry_texts kind = record {
    id = or_empty (attribute_value id_name as') (value_text id_name as' h);
    object = record {
      name = text_is (codes "name");
      word = word_is;
      pattern = reference_is (codes "pattern");
      elements = All-nil HasElementTexts;
      codes = All-nil HasCodeTexts;
      trace = reference_is (codes "trace");
      currency = reference_is (codes "currencyIdentifierSet");
    };
  }

  pub element_texts : (absent : ℕ) → HasElementTexts (element absent as')
  element_texts absent = record {
    name = text_is (codes "name");
    tag = text_is (codes "xmlTag");
    simple = reference_is (codes "simpleType");
    complex = reference_is (codes "complexType");
    plain = reference_is (codes "type");
  }

  pub code_texts : HasCodeTexts (code as')
  code_texts = record { name = text_is (codes "name"); code = reference_is (codes "codeName") }
