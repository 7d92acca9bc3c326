-- A document of canonical XML, as tokens: they break no rule, and their events are those of a tree that writes the value.
use Rattle.std.proofs.Common.{◌≡◌, ◌≤◌, inl, ℕ, suc, true, false, List, [], ◌∷◌, ◌++◌, None, codes, length, flat_map, refl, sym, ap, ap₂, subst, ◌∙◌, append_assoc, append-nil, arith, rules}
use Rattle.lexical_core.specs.Tree.{Entry, Expanded, Item, Starts, Char, Ends, Skipped, Nodes, Nothing, Element, Text, flat_nodes, tree_items}
use Rattle.data_types.specs.Value.{Value}
use Rattle.markup.specs.Attribute.{Attribute, ValuePiece, Literal}
use Rattle.markup.specs.Chars.{is_xml_char, is_space, is_name_start, is_name_char}
use Rattle.markup.specs.Name.{Plain}
use Rattle.markup.specs.Token.{Token, Declaration, LineEnd, Lf, token_bytes}
use Rattle.markup.specs.Marks.{Front, in_cdata, tag_limit}
use Rattle.markup.specs.Events.{open_tags}
use Rattle.markup.specs.Faults.{is_over, has_start}
use Rattle.markup.proofs.TokensBehind.{tokens_behind, events_items}
use Rattle.fragments.specs.Plain.{IsPart}
use Rattle.fragments.specs.Fragment.{start_text, end_text}
use Rattle.respell.proofs.Runs.{behind-append, Runs, runs-append, runs_front, AllStand, AllShort}
use Rattle.respell.proofs.TagNames.{opening_of, Knows, knows_none, knows_within}
use Rattle.respell.proofs.Trees.{Stays, one_run, element_stays}
use Rattle.respell.proofs.OneTree.{all_within, no_starts, over_of}
use Rattle.message_model.specs.Admits.{AdmitsAs}
use Rattle.message_model.specs.Message.{Message}
use Rattle.message_model.specs.Writes.{name_in_namespace}
use Rattle.xml_instances.specs.SpellsXml.{SpellsXml}
use Rattle.xml_writer.specs.CanonXml.{start_tag, end_tag, xml_declaration, namespace_text}
use Rattle.xml_writer.specs.SpellingLaw.{HasXmlNames, HasNoLongTag, CanonicalSpells}
use Rattle.xml_writer.proofs.TagTexts.{end_is, root_start_is, within_is}
use Rattle.xml_writer.proofs.SpelledValues.{HasAttributes, attributes_of, IsSpelled, spelled, tag_plain}

-- ---- the declaration

abbrev pub field : List ℕ → List ValuePiece → Attribute
field name value = record { gap = 32 ∷ []; name = Plain name; before = []; after = []; quote = 34; value = value }

abbrev pub declaration : Token
declaration = Declaration (field (codes "version") (Literal 49 ∷ Literal 46 ∷ Literal 48 ∷ []) ∷ field (codes "encoding") (Literal 85 ∷ Literal 84 ∷ Literal 70 ∷ Literal 45 ∷ Literal 56 ∷ []) ∷ []) []

abbrev pub first_tokens : List Token
first_tokens = declaration ∷ LineEnd Lf ∷ []

pub first_bytes : flat_map token_bytes first_tokens ≡ xml_declaration
unfolding lib.Utf8.encode
first_bytes = refl

pub first_stand : AllStand [] first_tokens
unfolding is_xml_char is_space is_name_start is_name_char
first_stand = (λ rest. refl, (λ rest. refl, tt))

abbrev first_run : Runs [] (Skipped ∷ Char 10 ∷ []) xml_declaration
first_run = record { tokens = first_tokens; bytes = first_bytes; stand = first_stand; clean = (refl, (refl, tt)); told = refl }

-- ---- the line end behind the root

line_bytes : token_bytes (LineEnd Lf) ≡ codes "\n"
unfolding lib.Utf8.encode
line_bytes = refl

abbrev line_run : (before : List Token) → in_cdata before ≡ false → Runs before (Char 10 ∷ []) (codes "\n")
line_run before cdata = one_run before (LineEnd Lf) (Char 10 ∷ []) (codes "\n") line_bytes (λ rest. rw cdata refl) refl refl

-- ---- the events

counted_nodes : (n : ℕ) (ns : Nodes) (more : List Item) → tree_items (suc n) (flat_nodes ns ++ more) ≡ flat_nodes ns ++ tree_items (suc n) more
counted_nodes n Nothing more = refl
counted_nodes n (Text c rest) more = ap (λ (l : List Item). Char c ∷ l) (counted_nodes n rest more)
counted_nodes n (Element name es children rest) more =
    ap (λ (l : List Item). Starts name es ∷ l) (
    ap (tree_items (suc (suc n))) (append_assoc (flat_nodes children) (Ends name ∷ flat_nodes rest) more)
    ∙ counted_nodes (suc n) children (Ends name ∷ (flat_nodes rest ++ more))
    ∙ ap (λ (l : List Item). flat_nodes children ++ Ends name ∷ l) (counted_nodes n rest more)
    ∙ sym (append_assoc (flat_nodes children) (Ends name ∷ flat_nodes rest) (tree_items (suc n) more))
    )

document_items : (name : Expanded) (es : List Entry) (ns : Nodes)
    → tree_items 0 ((Skipped ∷ Char 10 ∷ []) ++ ((Starts name es ∷ [] ++ (flat_nodes ns ++ Ends name ∷ [])) ++ Char 10 ∷ [])) ≡ Starts name es ∷ flat_nodes ns ++ Ends name ∷ []
document_items name es ns =
    ap (λ (l : List Item). Starts name es ∷ l) (ap (tree_items 1) (append_assoc (flat_nodes ns) (Ends name ∷ []) (Char 10 ∷ [])) ∙ counted_nodes 0 ns (Ends name ∷ Char 10 ∷ []))

pub document_part : IsPart (codes "Document")
unfolding lib.Utf8.encode
document_part = record {
  first = 68;
  others = codes "ocument";
  start = inl (omega arith, omega arith);
  more = search rules;
  spelled = refl;
}

-- ---- the document

module _ {P : Type 0} (m : Message P) (names : HasXmlNames m) (v : Value) (admits : AdmitsAs m.forms (m.forms m.root) v) (own content : List ℕ)
    (es : HasAttributes m names (m.forms m.root) v own) (x : IsSpelled m names (m.forms m.root) v content) where
  abbrev name : Expanded
  name = name_in_namespace m.namespace (codes "Document")

  abbrev start : List ℕ
  start = start_text None name es.entries

  abbrev Root : ℕ → Type 0
  Root limit = (length start ≤ limit) × (length (end_text name) ≤ limit) × x.Short limit

  root_stays : (before : List Token) → before ≡ LineEnd Lf ∷ declaration ∷ [] → Stays before (Starts name es.entries ∷ [] ++ (flat_nodes x.nodes ++ Ends name ∷ [])) (start ++ (content ++ end_text name)) Root
  root_stays before is =
      element_stays before [] None name es.entries (flat_nodes x.nodes) content x.Short (ap in_cdata is) (ap open_tags is) (ap is_over is) (knows_none [] refl) (tag_plain m names (codes "Document") document_part) es.plain
      (λ within c o. x.stands within (opening_of None name es.entries) [] c o
      (subst (λ d. Knows (opening_of None name es.entries ∷ []) d) (within_is m.namespace names.no_xml None (codes "Document"))
      (knows_within None name es.entries [] es.plain.0 (knows_none [] refl))))

  abbrev before_root : List Token
  before_root = LineEnd Lf ∷ declaration ∷ []

  abbrev root : Stays before_root (Starts name es.entries ∷ [] ++ (flat_nodes x.nodes ++ Ends name ∷ [])) (start ++ (content ++ end_text name)) Root
  root = root_stays before_root refl

  abbrev behind_root : List Token
  behind_root = tokens_behind before_root root.run.tokens

  root_is : start ++ (content ++ end_text name) ≡ start_tag (codes "Document") (namespace_text m.namespace ++ own) ++ (content ++ end_tag (codes "Document"))
  root_is = ap₂ (λ p q. p ++ (content ++ q)) (root_start_is m.namespace names.no_xml names.literal own es.entries es.text_is) (end_is m.namespace names.no_xml (codes "Document"))

  abbrev document : Runs [] ((Skipped ∷ Char 10 ∷ []) ++ ((Starts name es.entries ∷ [] ++ (flat_nodes x.nodes ++ Ends name ∷ [])) ++ Char 10 ∷ []))
      (xml_declaration ++ ((start ++ (content ++ end_text name)) ++ codes "\n"))
  document = runs-append [] (Skipped ∷ Char 10 ∷ []) _ xml_declaration _ first_run (runs-append before_root _ (Char 10 ∷ []) _ (codes "\n") root.run (line_run behind_root root.cdata))

  last_is : tokens_behind [] document.tokens ≡ LineEnd Lf ∷ behind_root
  last_is = behind-append before_root root.run.tokens (LineEnd Lf ∷ [])

  has_root : has_start (tokens_behind [] document.tokens) ≡ true
  has_root = ap has_start last_is ∙ no_starts before_root root.run.tokens name es.entries (flat_nodes x.nodes ++ Ends name ∷ []) root.run.told

  none_open : open_tags (tokens_behind [] document.tokens) ≡ []
  none_open = ap open_tags last_is ∙ root.tags

  pub document_spells : (bytes : List ℕ) → xml_declaration ++ ((start_tag (codes "Document") (namespace_text m.namespace ++ own) ++ (content ++ end_tag (codes "Document"))) ++ codes "\n") ≡ bytes
      → HasNoLongTag bytes → SpellsXml m bytes v
  document_spells bytes is short =
      let tokens = document.tokens in
      let spelled_is : flat_map token_bytes tokens ≡ bytes = document.bytes ∙ ap (λ t. xml_declaration ++ (t ++ codes "\n")) root_is ∙ is in
      let at : (limit : ℕ) → AllShort limit tokens → Front limit [] bytes tokens [] = λ limit h.
      subst (λ b. Front limit [] b tokens []) (append-nil (flat_map token_bytes tokens) ∙ spelled_is) (runs_front limit [] tokens [] document.stand h) in
      let size : length (flat_map token_bytes tokens) ≤ length bytes = (let e = ap length spelled_is in omega (arith, e)) in
      record {
        tokens = tokens;
        marks = at tag_limit (short (length bytes) tokens (at (length bytes) (all_within (length bytes) tokens size)));
        clean = document.clean;
        over = over_of (tokens_behind [] tokens) has_root none_open;
        tree = record { name = name; attributes = es.entries; children = x.nodes };
        tree_is = ap (tree_items 0) (events_items [] 0 tokens ∙ document.told) ∙ document_items name es.entries x.nodes;
        instance = record { admitted = admits; written = record { name = refl; attributes = es.writes; holds = x.holds; content = x.writes } };
      }

pub canonical_spells : CanonicalSpells
canonical_spells m v bytes names admits (within, (attributes, content, (own, own_is, attributes_is), content_is, within_are), bytes_is) short =
    document_spells m names v admits own content (attributes_of m names (m.forms m.root) v admits own own_is) (spelled m names m.root (m.forms m.root) refl v admits content content_is) bytes
    (ap (λ a. xml_declaration ++ ((start_tag (codes "Document") a ++ (content ++ end_tag (codes "Document"))) ++ codes "\n")) (sym attributes_is) ∙ ap (λ t. xml_declaration ++ (t ++ codes "\n")) (sym within_are) ∙ sym bytes_is) short
