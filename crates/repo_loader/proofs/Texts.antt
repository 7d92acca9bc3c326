-- The values of attributes are UTF-8 of characters of XML.
use Rattle.std.proofs.Common.{◌≡◌, ℕ, ◌+◌, Bool, true, false, true≢false, List, [], ◌∷◌, ◌++◌, length, map, Option, Some, None, if◌then◌else◌, refl, sym}
use Rattle.std.specs.Prelude.{◌==◌, ◌||◌, ◌&&◌, not, is_none}
use Rattle.std.specs.List.{list_all, AllByRecursion}
use Rattle.std.specs.declared.cmp.Ordering.{Ordering}
use Rattle.std.specs.declared.cmp.Ordering.TheVariants.{Less, Equal, Greater}
use Rattle.std.proofs.lemmas.Bool.{and_parts, and_from}
use Rattle.lexical_core.specs.Characters.{IsXmlText}
use Rattle.lexical_core.specs.Tree.{Expanded, Entry as Entry', Item}
use Rattle.lexical_core.specs.Names.{name_cmp}
use Rattle.markup.specs.Chars.{is_xml_char, is_space, is_gap}
use Rattle.markup.specs.Name.{is_name}
use Rattle.markup.specs.Reference.{referred_character}
use Rattle.markup.specs.Attribute.{ValuePiece, Literal, Refers, is_piece, Attribute, is_attribute, begins_lf, value_chars}
use Rattle.markup.specs.declared.tag.Given.{Given}
use Rattle.markup.specs.declared.tag.Opening.{Opening}
use Rattle.markup.specs.Token.{Token, Mark, Declaration, Comment, Instruction, Opener, Closer, TypeDeclaration, Start, End, Refer, LineEnd, Character, StartTag, is_start_tag, token_bytes}
use Rattle.markup.specs.Marks.{stands, in_cdata, Front}
use Rattle.markup.specs.Events.{Placed, events, items_of, open_tags, opening, given_attribute, element_name, attribute_name, declared_prefix, entries, put, put_named, start_tag_items, end_tag_items, end_items}
use Rattle.markup.proofs.PlainCharacters.{all_chars, referred_is_xml, blank_is_xml}
use Rattle.repo_loader.specs.inner.LoadingSteps.{AreTexts}
use Rattle.repo_loader.specs.inner.SelectionSteps.{HasItemTexts}

first_of_four : (a b c d : Bool) → (a && b && c && d) ≡ true → a ≡ true
first_of_four true b c d h = refl
first_of_four false b c d h = absurd (true≢false (sym h))

last_of_six : (a b c d e f : Bool) → (a && b && c && d && e && f) ≡ true → f ≡ true
last_of_six true true true true true f h = h
last_of_six true true true true false f h = absurd (true≢false (sym h))
last_of_six true true true false e f h = absurd (true≢false (sym h))
last_of_six true true false d e f h = absurd (true≢false (sym h))
last_of_six true false c d e f h = absurd (true≢false (sym h))
last_of_six false b c d e f h = absurd (true≢false (sym h))

middle : (a b c : Bool) → (a && b && c) ≡ true → b ≡ true
middle true true c h = refl
middle true false c h = absurd (true≢false (sym h))
middle false b c h = absurd (true≢false (sym h))

value_xml : (quote : ℕ) (ps : List ValuePiece) → list_all (is_piece quote) ps ≡ true → list_all is_xml_char (value_chars ps) ≡ true
value_xml quote [] h = refl
value_xml quote (Refers r ∷ ps) h =
    and_from (is_xml_char (referred_character r)) (list_all is_xml_char (value_chars ps)) (referred_is_xml r (and_parts (is_piece quote (Refers r)) _ h).0) (value_xml quote ps (and_parts (is_piece quote (Refers r)) _ h).1)
value_xml quote (Literal c ∷ ps) h =
    by (c == 13 && begins_lf ps) (is_space c) (first_of_four (is_xml_char c) (not (c == 60)) (not (c == 38)) (not (c == quote)) (and_parts (is_piece quote (Literal c)) _ h).0)
    (value_xml quote ps (and_parts (is_piece quote (Literal c)) _ h).1)
  where
    by : (b s : Bool) → is_xml_char c ≡ true → list_all is_xml_char (value_chars ps) ≡ true
        → list_all is_xml_char (if b then value_chars ps else (if s then 32 else c) ∷ value_chars ps) ≡ true
    by true s x later = later
    by false true x later = and_from (is_xml_char 32) _ blank_is_xml later
    by false false x later = and_from (is_xml_char c) _ x later

given_text : (a : Attribute) → is_attribute a ≡ true → IsXmlText (given_attribute a).value
given_text a h =
    (value_chars a.value, all_chars (value_chars a.value) (value_xml a.quote a.value (last_of_six (is_gap a.gap) (is_name a.name) (list_all is_space a.before) (list_all is_space a.after) (a.quote == 34 || a.quote == 39) (list_all (is_piece a.quote) a.value) h)), refl)

givens_texts : (attributes : List Attribute) → list_all is_attribute attributes ≡ true → AllByRecursion (λ (g : Given). IsXmlText g.value) (map given_attribute attributes)
givens_texts [] h = tt
givens_texts (a ∷ rest) h = (given_text a (and_parts (is_attribute a) _ h).0, givens_texts rest (and_parts (is_attribute a) _ h).1)

put_texts : (x : Entry') (ys : List Entry') → IsXmlText x.value → AreTexts ys → AreTexts (put x ys)
put_texts x [] h all = (h, tt)
put_texts x (y ∷ ys) h all = by (name_cmp x.name y.name) (put_texts x ys h all.1)
  where
    by : (o : Ordering) → AreTexts (put x ys) → AreTexts (elim o [ Less ↦ x ∷ y ∷ ys | Equal ↦ x ∷ y ∷ ys | Greater ↦ y ∷ put x ys ])
    by Less later = (h, all)
    by Equal later = (h, all)
    by Greater later = (all.0, later)

entries_texts : (tags : List Opening) (gs : List Given) → AllByRecursion (λ (g : Given). IsXmlText g.value) gs → AreTexts (entries tags gs)
entries_texts tags [] h = tt
entries_texts tags (g ∷ gs) h = by (is_none (declared_prefix g.name)) (attribute_name tags g.name) (entries_texts tags gs h.1)
  where
    by : (b : Bool) (o : Option Expanded) → AreTexts (entries tags gs) → AreTexts (if b then put_named g.value o (entries tags gs) else entries tags gs)
    by false o later = later
    by true None later = later
    by true (Some name) later = put_texts (record { name = name; value = g.value }) (entries tags gs) h.0 later

started_texts : (o : Option Expanded) (es : List Entry') (b : Bool) → AreTexts es → AllByRecursion HasItemTexts (start_tag_items o es b)
started_texts None es b h = tt
started_texts (Some n) es true h = (h, (tt, tt))
started_texts (Some n) es false h = (h, tt)

ended_texts : (tags : List Opening) → AllByRecursion HasItemTexts (end_items tags)
ended_texts [] = tt
ended_texts (tag ∷ tags) = by (element_name (tag ∷ tags) tag.name)
  where
    by : (o : Option Expanded) → AllByRecursion HasItemTexts (end_tag_items o)
    by None = tt
    by (Some n) = (tt, tt)

start_texts : (before : List Token) (tag : StartTag) (after : List ℕ) → stands before (Start tag) after ≡ true → AllByRecursion HasItemTexts (items_of before (Start tag))
start_texts before tag after h = by (in_cdata before) h
  where
    by : (b : Bool) → (if b then false else is_start_tag tag) ≡ true → AllByRecursion HasItemTexts (items_of before (Start tag))
    by true k = absurd (true≢false (sym k))
    by false k =
        let t = opening tag in
        started_texts (element_name (t ∷ open_tags before) t.name) (entries (t ∷ open_tags before) t.given) t.is_empty
        (entries_texts (t ∷ open_tags before) t.given (givens_texts tag.attributes (middle (is_name tag.name) (list_all is_attribute tag.attributes) (list_all is_space tag.gap) k)))

token_texts : (before : List Token) (t : Token) (after : List ℕ) → stands before t after ≡ true → AllByRecursion HasItemTexts (items_of before t)
token_texts before (Start tag) after h = start_texts before tag after h
token_texts before (End name gap) after h = ended_texts (open_tags before)
token_texts before Mark after h = (tt, tt)
token_texts before (Declaration fields gap) after h = (tt, tt)
token_texts before (Comment text) after h = (tt, tt)
token_texts before (Instruction target text) after h = (tt, tt)
token_texts before Opener after h = (tt, tt)
token_texts before Closer after h = (tt, tt)
token_texts before TypeDeclaration after h = (tt, tt)
token_texts before (Refer reference) after h = (tt, tt)
token_texts before (LineEnd line) after h = (tt, tt)
token_texts before (Character char) after h = (tt, tt)

placed_texts : (place : ℕ) (items : List Item) (es : List Placed) → AllByRecursion HasItemTexts items → AllByRecursion (λ (e : Placed). HasItemTexts e.item) es
    → AllByRecursion (λ (e : Placed). HasItemTexts e.item) (map (λ (i : Item). record { place = place; item = i }) items ++ es)
placed_texts place [] es h k = k
placed_texts place (i ∷ items) es h k = (h.0, placed_texts place items es h.1 k)

-- the values of attributes that the events of tokens tell are texts
pub events_texts : (limit : ℕ) (before : List Token) (place : ℕ) (bytes : List ℕ) (ts : List Token) (rest : List ℕ) → Front limit before bytes ts rest
    → AllByRecursion (λ (e : Placed). HasItemTexts e.item) (events before place ts)
events_texts limit before place bytes [] rest h = tt
events_texts limit before place bytes (t ∷ ts) rest h =
    placed_texts place (items_of before t) (events (t ∷ before) (place + length (token_bytes t)) ts) (token_texts before t h.0 h.1.is)
    (events_texts limit (t ∷ before) (place + length (token_bytes t)) h.0 ts rest h.3)
