-- The texts of what elements say are UTF-8 of characters of XML, where the values of their attributes are.
use Rattle.std.proofs.Common.{ℕ, Bool, true, false, List, [], ◌∷◌, ◌++◌, if◌then◌else◌, All}
use Rattle.std.specs.List.{AllByRecursion}
use Rattle.std.proofs.lemmas.List.Elements.{All-nil, All-cons, All-head, All-append}
use Rattle.lexical_core.specs.Characters.{IsXmlText}
use Rattle.lexical_core.specs.Tree.{Entry as Attribute, Item, Starts}
use Rattle.markup.specs.Events.{Placed}
use Rattle.repo_objects.specs.declared.objects.ObjectKind.{ObjectKind}
use Rattle.repo_objects.specs.Objects.{HasElementTexts, HasCodeTexts, HasMessageTexts}
use Rattle.repo_objects.specs.Repository.{DictionaryEntry as Named, HasEntryTexts}
use Rattle.repo_loader.specs.declared.part.Part.{Part}
use Rattle.repo_loader.specs.declared.part.Part.TheVariants.{Element, Alternative, Code, Block, Identifier, LeftOut}
use Rattle.repo_loader.specs.Selected.{FileTag, PlacedTag, innermost, part_in, tag_if, item_tags, parts_open_behind, placed_tags, event_tags}
use Rattle.repo_loader.specs.File.{is_entry, is_message, kind_at, is_entry_tag, is_message_tag, elements_at, codes_at, blocks_at, identifiers_at, own_elements, own_codes, own_blocks, own_identifiers, behind, first_or_empty, entry, message, element, code, message_identifier, objects, messages}
use Rattle.repo_loader.specs.FileFaults.{tags_of}
use Rattle.repo_loader.specs.inner.LoadingSteps.{AreTexts}
use Rattle.repo_loader.specs.inner.SelectionSteps.{HasItemTexts}
use Rattle.repo_loader.proofs.EntryTexts.{empty_text, entry_texts, element_texts, code_texts}
use Rattle.repo_loader.proofs.TagTexts.{identifier_text, message_texts}

-- the values of the attributes of these elements are texts
abbrev pub HaveTagTexts : List FileTag → Type 0
HaveTagTexts tags = AllByRecursion (λ (t : FileTag). AreTexts t.attributes) tags

-- ---- the elements that events start

tag_if_texts : (part : Part) (attributes : List Attribute) → AreTexts attributes → HaveTagTexts (tag_if part attributes)
tag_if_texts LeftOut attributes h = tt
tag_if_texts _ attributes h = (h, tt)

item_texts : (part : Part) (item : Item) → HasItemTexts item → HaveTagTexts (item_tags part item)
item_texts part (Starts n attributes) h = tag_if_texts (part_in part n attributes) attributes h
item_texts part _ h = tt

placed_texts : (place : ℕ) (tags : List FileTag) (more : List PlacedTag) → HaveTagTexts tags → HaveTagTexts (tags_of more) → HaveTagTexts (tags_of (placed_tags place tags ++ more))
placed_texts place [] more h k = k
placed_texts place (t ∷ tags) more h k = (h.0, placed_texts place tags more h.1 k)

pub event_tags_texts : (parts : List Part) (es : List Placed) → AllByRecursion (λ (e : Placed). HasItemTexts e.item) es → HaveTagTexts (tags_of (event_tags parts es))
event_tags_texts parts [] h = tt
event_tags_texts parts (e ∷ es) h =
    placed_texts e.place (item_tags (innermost parts) e.item) (event_tags (parts_open_behind parts e.item) es) (item_texts (innermost parts) e.item h.0) (event_tags_texts (parts_open_behind parts e.item) es h.1)

-- ---- what one of them gives

one_text : {A : Type 0} (P : A → Type 0) (x : A) → P x → All P (x ∷ [])
one_text P x h = All-cons P x [] h (All-nil P)

elements_texts : (part : Part) (attributes : List Attribute) → AreTexts attributes → All HasElementTexts (elements_at part attributes)
elements_texts Element attributes h = one_text HasElementTexts (element 0 attributes) (element_texts attributes h 0)
elements_texts Alternative attributes h = one_text HasElementTexts (element 1 attributes) (element_texts attributes h 1)
elements_texts _ attributes h = All-nil HasElementTexts

codes_texts : (part : Part) (attributes : List Attribute) → AreTexts attributes → All HasCodeTexts (codes_at part attributes)
codes_texts Code attributes h = one_text HasCodeTexts (code attributes) (code_texts attributes h)
codes_texts _ attributes h = All-nil HasCodeTexts

blocks_texts : (part : Part) (attributes : List Attribute) → AreTexts attributes → All HasElementTexts (blocks_at part attributes)
blocks_texts Block attributes h = one_text HasElementTexts (element 0 attributes) (element_texts attributes h 0)
blocks_texts _ attributes h = All-nil HasElementTexts

identifiers_texts : (part : Part) (attributes : List Attribute) → AreTexts attributes → All IsXmlText (identifiers_at part attributes)
identifiers_texts Identifier attributes h = one_text IsXmlText (message_identifier attributes) (identifier_text attributes h)
identifiers_texts _ attributes h = All-nil IsXmlText

-- ---- what stands behind a tag

behind_texts : {A : Type 0} (P : A → Type 0) (stops : FileTag → Bool) (own : FileTag → List A) → ((t : FileTag) → AreTexts t.attributes → All P (own t)) → (tags : List FileTag) → HaveTagTexts tags → All P (behind stops own tags)
behind_texts P stops own each [] h = All-nil P
behind_texts P stops own each (t ∷ tags) h = by (stops t) (behind_texts P stops own each tags h.1)
  where
    by : (b : Bool) → All P (behind stops own tags) → All P (if b then [] else own t ++ behind stops own tags)
    by true later = All-nil P
    by false later = All-append P (own t) (behind stops own tags) (each t h.0) later

first_text : (ids : List (List ℕ)) → All IsXmlText ids → IsXmlText (first_or_empty ids)
first_text [] h = empty_text
first_text (id ∷ ids) h = All-head IsXmlText id ids h

module _ (attributes : List Attribute) (after : List FileTag) (h : AreTexts attributes) (k : HaveTagTexts after) where
  whole_entry_texts : (kind : ObjectKind) → HasEntryTexts (entry kind attributes after)
  whole_entry_texts kind =
      let own = entry_texts attributes h kind in
      record {
        id = own.id;
        object = record {
          name = own.object.name;
          word = own.object.word;
          pattern = own.object.pattern;
          elements = behind_texts HasElementTexts is_entry_tag own_elements (λ t. elements_texts t.part t.attributes) after k;
          codes = behind_texts HasCodeTexts is_entry_tag own_codes (λ t. codes_texts t.part t.attributes) after k;
          trace = own.object.trace;
          currency = own.object.currency;
        };
      }

  whole_message_texts : HasMessageTexts (message attributes after)
  whole_message_texts =
      let own = message_texts attributes h in
      record {
        id = first_text (behind is_message_tag own_identifiers after) (behind_texts IsXmlText is_message_tag own_identifiers (λ t. identifiers_texts t.part t.attributes) after k);
        name = own.name;
        tag = own.tag;
        blocks = behind_texts HasElementTexts is_message_tag own_blocks (λ t. blocks_texts t.part t.attributes) after k;
      }

-- ---- all of it

pub object_texts : (tags : List FileTag) → HaveTagTexts tags → All HasEntryTexts (objects tags)
object_texts [] h = All-nil HasEntryTexts
object_texts (t ∷ tags) h = by (is_entry t.part) (object_texts tags h.1)
  where
    here : Named
    here = entry (kind_at t.part) t.attributes tags

    by : (b : Bool) → All HasEntryTexts (objects tags) → All HasEntryTexts (if b then here ∷ objects tags else objects tags)
    by true later = All-cons HasEntryTexts here (objects tags) (whole_entry_texts t.attributes tags h.0 h.1 (kind_at t.part)) later
    by false later = later

pub all_message_texts : (tags : List FileTag) → HaveTagTexts tags → All HasMessageTexts (messages tags)
all_message_texts [] h = All-nil HasMessageTexts
all_message_texts (t ∷ tags) h = by (is_message t.part) (all_message_texts tags h.1)
  where
    by : (b : Bool) → All HasMessageTexts (messages tags) → All HasMessageTexts (if b then message t.attributes tags ∷ messages tags else messages tags)
    by true later = All-cons HasMessageTexts (message t.attributes tags) (messages tags) (whole_message_texts t.attributes tags h.0 h.1) later
    by false later = later
