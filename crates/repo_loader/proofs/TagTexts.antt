-- What tags give is text, where their attributes are: so what is open can be closed.
use Rattle.std.proofs.Common.{ℕ, Bool, true, false, List, [], ◌++◌, Option, Some, None, codes, inl, if◌then◌else◌, arith, ap, ◌∙◌}
use Rattle.std.proofs.lemmas.List.Elements.{All-nil, All-push}
use Rattle.std.proofs.lemmas.Str.{encode_ascii, encodes-append}
use Rattle.lexical_core.specs.Characters.{IsXmlText}
use Rattle.lexical_core.specs.Tree.{Entry as Attribute}
use Rattle.lexical_core.proofs.CharacterLemmas.{chars_joined}
use Rattle.repo_objects.specs.declared.objects.ElementDef.{ElementDef}
use Rattle.repo_objects.specs.declared.objects.CodeDef.{CodeDef}
use Rattle.repo_objects.specs.Objects.{HasElementTexts, HasCodeTexts, HasMessageTexts}
use Rattle.repo_objects.specs.Repository.{DictionaryEntry}
use Rattle.repo_loader.specs.declared.loading.OpenEntry.{OpenEntry}
use Rattle.repo_loader.specs.declared.loading.OpenMessage.{OpenMessage}
use Rattle.repo_loader.specs.FileValues.{text_of_attribute}
use Rattle.repo_loader.specs.File.{message, message_identifier}
use Rattle.repo_loader.specs.inner.LoadingSteps.{AreTexts, IsNew, CanCloseMessage, with_element, with_code, with_block, with_identifier}
use Rattle.repo_loader.proofs.EntryTexts.{empty_text, text_is}

-- ---- texts together

both_texts : (xs ys : List ℕ) → IsXmlText xs → IsXmlText ys → IsXmlText (xs ++ ys)
both_texts xs ys h k = (h.0 ++ k.0, chars_joined h.0 k.0 h.1 k.1, encodes-append h.0 k.0 ∙ (λ i. h.2 i ++ k.2 i))

point_text : IsXmlText (codes ".")
point_text = (codes ".", (inl (omega arith, omega arith), tt), ap (λ l. l ++ []) (encode_ascii 46 (omega arith)))

module _ (as' : List Attribute) (h : AreTexts as') where
  -- one of the four, a point, and what follows
  then_text : (local rest : List ℕ) → IsXmlText rest → IsXmlText (text_of_attribute local as' ++ (codes "." ++ rest))
  then_text local rest k = both_texts (text_of_attribute local as') (codes "." ++ rest) (text_is as' h local) (both_texts (codes ".") rest point_text k)

  pub identifier_text : IsXmlText (message_identifier as')
  identifier_text =
      then_text (codes "businessArea") _ (then_text (codes "messageFunctionality") _ (then_text (codes "flavour") (text_of_attribute (codes "version") as') (text_is as' h (codes "version"))))

  pub message_texts : HasMessageTexts (message as' [])
  message_texts = record { id = empty_text; name = text_is as' h (codes "name"); tag = text_is as' h (codes "xmlTag"); blocks = All-nil HasElementTexts }

-- ---- what is open stays fit to be closed

pub element_new : (objects : List DictionaryEntry) (o : Option OpenEntry) (e : ElementDef) → HasElementTexts e → IsNew objects o → IsNew objects (with_element e o)
element_new objects None e h new = tt
element_new objects (Some o) e h new =
    (new.0, record { id = new.1.id; object = record { name = new.1.object.name; word = new.1.object.word; pattern = new.1.object.pattern; elements = All-push HasElementTexts o.object.elements e new.1.object.elements h; codes = new.1.object.codes; trace = new.1.object.trace; currency = new.1.object.currency } })

pub code_new : (objects : List DictionaryEntry) (o : Option OpenEntry) (c : CodeDef) → HasCodeTexts c → IsNew objects o → IsNew objects (with_code c o)
code_new objects None c h new = tt
code_new objects (Some o) c h new =
    (new.0, record { id = new.1.id; object = record { name = new.1.object.name; word = new.1.object.word; pattern = new.1.object.pattern; elements = new.1.object.elements; codes = All-push HasCodeTexts o.object.codes c new.1.object.codes h; trace = new.1.object.trace; currency = new.1.object.currency } })

pub block_closes : (o : Option OpenMessage) (e : ElementDef) → HasElementTexts e → CanCloseMessage o → CanCloseMessage (with_block e o)
block_closes None e h can = tt
block_closes (Some o) e h can = record { id = can.id; name = can.name; tag = can.tag; blocks = All-push HasElementTexts o.message.blocks e can.blocks h }

pub identifier_closes : (o : Option OpenMessage) (id : List ℕ) → IsXmlText id → CanCloseMessage o → CanCloseMessage (with_identifier id o)
identifier_closes None id h can = tt
identifier_closes (Some o) id h can = record { id = by o.identified; name = can.name; tag = can.tag; blocks = can.blocks }
  where
    by : (b : Bool) → IsXmlText (if b then o.message.id else id)
    by true = can.id
    by false = h
