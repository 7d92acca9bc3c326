-- The canonical content of a value is tokens that stand in any element, and their events are those of nodes that write the value.
use Rattle.std.proofs.Common.{◌≡◌, ◌≢◌, ◌≤◌, inl, inr, ℕ, true, false, List, [], ◌∷◌, ◌++◌, Some, None, codes, length, flat_map, refl, sym, ap, ap₂, subst, ◌∙◌, append_assoc, arith}
use Rattle.std.specs.Prelude.{slice_get, encode_utf8_all}
use Rattle.std.specs.List.{AllByRecursion}
use Rattle.std.proofs.lemmas.Str.{chars_from_encodes}
use Rattle.lexical_core.specs.Characters.{IsXmlChar}
use Rattle.lexical_core.specs.Tree.{Entry, Item, Starts, Ends, Nodes, Element, Tree, flat_nodes, flat}
use Rattle.lexical_core.specs.Tree as tree
use Rattle.lexical_core.specs.Names.{xmlns_namespace}
use Rattle.lexical_core.proofs.CharacterLemmas.{xml_text_is_utf8}
use Rattle.data_types.specs.Leaf.{Leaf, Number}
use Rattle.data_types.specs.Value.{Value, Children, Nothing, Child}
use Rattle.data_types.specs.Value as value
use Rattle.data_types.proofs.EscapeLemmas.{escaped_by_chars}
use Rattle.facets.specs.LeafUnder.{Fits}
use Rattle.facets.specs.declared.simple.Simple.{Simple}
use Rattle.markup.specs.declared.tag.Opening.{Opening}
use Rattle.markup.specs.Token.{Token}
use Rattle.markup.specs.Marks.{in_cdata}
use Rattle.markup.specs.Events.{open_tags}
use Rattle.markup.proofs.TokensBehind.{tokens_behind}
use Rattle.fragments.specs.Plain.{IsPart, IsPlainName, IsPlainEntry, ArePlainEntries}
use Rattle.fragments.specs.Fragment.{start_text, end_text, nodes_text, fragment}
use Rattle.respell.proofs.TagNames.{opening_of, Knows, knows_within}
use Rattle.respell.proofs.Trees.{Stays, stays_none, inside_of, not_over, element_stays, stays-append, retext, nodes_stay, fragment_within}
use Rattle.respell.specs.ShortTags.{HaveShortTags}
use Rattle.reference_check.specs.Forms.{Form, Slot, form_slots}
use Rattle.reference_check.specs.Forms as form
use Rattle.message_model.specs.Admits.{AdmitsAs, AdmitsChildren, FitsCode}
use Rattle.message_model.specs.Message.{Message}
use Rattle.message_model.specs.Writes.{name_in_namespace, WritesAttributes, WritesContent, MayHold, SpellsCode, SpellsText, text_nodes}
use Rattle.xml_writer.specs.CanonXml.{IsLeafText, IsCodeText, currency_text, IsAttributes, start_tag, end_tag, IsContent, AreElements}
use Rattle.xml_writer.specs.SpellingLaw.{HasXmlNames}
use Rattle.xml_writer.proofs.SpelledLeaves.{given_leaf, canonical_xml_chars, text_plain, text_written}
use Rattle.xml_writer.proofs.TagTexts.{currency_entry, HasText, start_is, end_is, within_is}

-- ---- attributes

currency_part : IsPart (codes "Ccy")
unfolding lib.Utf8.encode
currency_part = record { first = 67; others = codes "cy"; start = inl (omega arith, omega arith); more = (inl (inr (inr (inl (omega arith, omega arith)))), (inl (inr (inr (inl (omega arith, omega arith)))), tt)); spelled = refl }

no_namespace : [] ≢ xmlns_namespace
no_namespace e = absurd cc

not_xmlns : codes "Ccy" ≢ codes "xmlns"
not_xmlns e = absurd cc

coded_plain : (code : List ℕ) → AllByRecursion IsXmlChar code → ArePlainEntries (currency_entry (encode_utf8_all code) ∷ [])
coded_plain code all =
    let name : IsPlainName (name_in_namespace [] (codes "Ccy")) = record { local = currency_part; namespace = ([], tt, refl); no_declaration = no_namespace } in
    let entry : IsPlainEntry (currency_entry (encode_utf8_all code)) = record { name = name; value = (code, all, refl); no_default = λ none. not_xmlns } in
    ((entry, tt), (tt, tt))

module _ {P : Type 0} (m : Message P) (names : HasXmlNames m) where
  -- attributes that write those of a value
  pub record HasAttributes (f : Form P Simple) (v : Value) (text : List ℕ) : Type 0 where
    pub entries : List Entry
    pub text_is : HasText entries text
    pub plain : ArePlainEntries entries
    pub writes : WritesAttributes m.forms f v entries

  coded : (f : Form P Simple) (l : Leaf) (text : List ℕ) → FitsCode f l → IsCodeText f l text
      → (code : List ℕ) × AllByRecursion IsXmlChar code × SpellsCode f code l × (text ≡ flat_map Rattle.fragments.specs.Fragment.value_byte (encode_utf8_all code))
  coded (form.Simple simple) l text fits (w, canonical, e) =
      (w, canonical_xml_chars simple l w fits canonical, given_leaf simple l w fits canonical, e ∙ sym (escaped_by_chars true w))
  coded f l text fits h = absurd h

  no_attributes : (f : Form P Simple) (v : Value) (text : List ℕ) → text ≡ [] → WritesAttributes m.forms f v [] → HasAttributes f v text
  no_attributes f v text e w = record { entries = []; text_is = inl (refl, e); plain = (tt, tt); writes = w }

  pub attributes_of : (f : Form P Simple) (v : Value) → AdmitsAs m.forms f v → (text : List ℕ) → IsAttributes m.forms f v text → HasAttributes f v text
  attributes_of (form.Sequence slots) v admits text h = no_attributes (form.Sequence slots) v text h tt
  attributes_of (form.Choice slots) v admits text h = no_attributes (form.Choice slots) v text h tt
  attributes_of (form.Simple simple) v admits text h = no_attributes (form.Simple simple) v text h tt
  attributes_of (form.Money code number) (value.Amount l n) (fits, others) text (own, is, e) =
      let r = coded (m.forms code) l own fits is in
      let bytes = encode_utf8_all r.0 in
      record {
        entries = currency_entry bytes ∷ [];
        text_is = inr (bytes, refl, e ∙ ap currency_text r.3);
        plain = coded_plain r.0 r.1;
        writes = (bytes, (refl, (inr refl, tt)), subst (λ t. SpellsCode (m.forms code) t l) (chars_from_encodes r.0 bytes (xml_text_is_utf8 bytes (r.0, r.1, refl)) refl) r.2);
      }
  attributes_of form.Envelope v admits text h = no_attributes form.Envelope v text h tt
  attributes_of f v admits text h = absurd admits

  -- ---- content

  -- tokens within any element in the message's namespace
  abbrev pub StandsInside : Nodes → List ℕ → (ℕ → Type 0) → Type 0
  StandsInside nodes text Short = (before : List Token) (op : Opening) (tags : List Opening) → in_cdata before ≡ false → open_tags before ≡ op ∷ tags
      → Knows (op ∷ tags) (Some m.namespace) → Stays before (flat_nodes nodes) text Short

  pub record IsSpelled (f : Form P Simple) (v : Value) (text : List ℕ) : Type 1 where
    pub nodes : Nodes
    pub holds : MayHold f nodes
    pub writes : WritesContent m.forms m.namespace f v nodes
    pub Short : ℕ → Type 0
    pub stands : StandsInside nodes text Short

  pub record AreSpelled (slots : List (Slot P)) (children : Children) (text : List ℕ) : Type 1 where
    pub nodes : Nodes
    pub none : slots ≡ [] → nodes ≡ tree.Nothing
    pub writes : (f : Form P Simple) → form_slots f ≡ slots → WritesContent m.forms m.namespace f (value.Component children) nodes
    pub Short : ℕ → Type 0
    pub stands : StandsInside nodes text Short

  text_stands : (w text : List ℕ) → AllByRecursion IsXmlChar w → nodes_text (Some m.namespace) (text_nodes w) ≡ text
      → StandsInside (text_nodes w) text (λ limit. HaveShortTags limit (Some m.namespace) (text_nodes w))
  text_stands w text all e before op tags cdata are knows =
      subst (λ t. Stays before (flat_nodes (text_nodes w)) t (λ limit. HaveShortTags limit (Some m.namespace) (text_nodes w))) e
      (nodes_stay (text_nodes w) before op tags (Some m.namespace) (text_plain w all) cdata are knows)

  -- a leaf in an element
  pub record HasLeafNodes (simple : Simple) (l : Leaf) (text : List ℕ) : Type 1 where
    pub nodes : Nodes
    pub spells : SpellsText simple l nodes
    pub Short : ℕ → Type 0
    pub stands : StandsInside nodes text Short

  leaf_nodes : (simple : Simple) (l : Leaf) (text : List ℕ) → Fits simple l → IsLeafText simple l text → HasLeafNodes simple l text
  leaf_nodes simple l text fits (w, canonical, e) = record {
    nodes = text_nodes w;
    spells = (w, refl, given_leaf simple l w fits canonical);
    Short = λ limit. HaveShortTags limit (Some m.namespace) (text_nodes w);
    stands = text_stands w text (canonical_xml_chars simple l w fits canonical) (text_written (Some m.namespace) w ∙ sym e);
  }

  abbrev envelope_nodes : Tree → Nodes
  envelope_nodes t = Element t.name t.attributes t.children tree.Nothing

  envelope_stands : (t : Tree) (text : List ℕ) → Rattle.fragments.specs.Plain.IsPlain t → text ≡ fragment t → StandsInside (envelope_nodes t) text (λ limit. HaveShortTags limit None (envelope_nodes t))
  envelope_stands t text plain e before op tags cdata are knows =
      let inside = inside_of before op tags cdata are in
      subst (λ x. Stays before (flat t) x (λ limit. HaveShortTags limit None (envelope_nodes t))) (sym e) (fragment_within t before (op ∷ tags) plain cdata are (not_over before inside.open_some) knows.xml)

  sequence_holds : (slots : List (Slot P)) (nodes : Nodes) → (slots ≡ [] → nodes ≡ tree.Nothing) → MayHold (form.Sequence slots) nodes
  sequence_holds [] nodes h = h refl
  sequence_holds (s ∷ slots) nodes h = tt

  pub tag_plain : (tag : List ℕ) → IsPart tag → IsPlainName (name_in_namespace m.namespace tag)
  tag_plain tag part = record { local = part; namespace = names.namespace; no_declaration = names.no_declaration }

  none_there : (slots : List (Slot P)) (k : ℕ) (s : Slot P) → slice_get slots k ≡ Some s → slots ≡ [] → ⊥
  none_there [] k s at e = absurd cc
  none_there (x ∷ slots) k s at e = absurd cc

  -- an element, and those behind it
  child_spelled : (slots : List (Slot P)) (k : ℕ) (s : Slot P) (v : Value) (rest : Children) (a inner one more text : List ℕ) → slice_get slots k ≡ Some s → IsPart s.tag
      → one ≡ start_tag s.tag a ++ (inner ++ end_tag s.tag) → text ≡ one ++ more → HasAttributes (m.forms s.target) v a → IsSpelled (m.forms s.target) v inner → AreSpelled slots rest more
      → AreSpelled slots (Child k v rest) text
  child_spelled slots k s v rest a inner one more text at part one_is text_is es x ys =
      let name = name_in_namespace m.namespace s.tag in
      let start = start_text (Some m.namespace) name es.entries in
      let end = end_text name in
      let First : ℕ → Type 0 = λ limit. (length start ≤ limit) × (length end ≤ limit) × x.Short limit in
      let all : (start ++ (inner ++ end)) ++ more ≡ text =
      ap (λ t. t ++ more) (ap₂ (λ p q. p ++ (inner ++ q)) (start_is m.namespace names.no_xml s.tag a es.entries es.text_is) (end_is m.namespace names.no_xml s.tag) ∙ sym one_is) ∙ sym text_is in
      record {
        nodes = Element name es.entries x.nodes ys.nodes;
        none = λ e. absurd (none_there slots k s at e);
        writes = λ f e. ((s, ap (λ l. slice_get l k) e ∙ at, (refl, es.writes, x.holds, x.writes)), ys.writes f e);
        Short = λ limit. First limit × ys.Short limit;
        stands = λ before op tags cdata are knows.
            let inside = inside_of before op tags cdata are in
            let first = element_stays before (op ∷ tags) (Some m.namespace) name es.entries (flat_nodes x.nodes) inner x.Short cdata are (not_over before inside.open_some) knows (tag_plain s.tag part) es.plain
            (λ within c o. x.stands within (opening_of (Some m.namespace) name es.entries) (op ∷ tags) c o
            (subst (λ d. Knows (opening_of (Some m.namespace) name es.entries ∷ (op ∷ tags)) d) (within_is m.namespace names.no_xml (Some m.namespace) s.tag)
            (knows_within (Some m.namespace) name es.entries (op ∷ tags) es.plain.0 knows))) in
            let second = ys.stands (tokens_behind before first.run.tokens) op tags (first.cdata ∙ cdata) (first.tags ∙ are) knows in
            retext before _ _ _ _ (λ limit. First limit × ys.Short limit) (λ limit. First limit × ys.Short limit)
            (ap (λ (l : List Item). Starts name es.entries ∷ l) (append_assoc (flat_nodes x.nodes) (Ends name ∷ []) (flat_nodes ys.nodes))) all (λ limit. (λ h. h, λ h. h))
            (stays-append before _ (flat_nodes ys.nodes) _ more First ys.Short first second);
      }

  mutual
    pub spelled : (p : P) (f : Form P Simple) → m.forms p ≡ f → (v : Value) → AdmitsAs m.forms f v → (text : List ℕ) → IsContent m.forms f v text → IsSpelled f v text
    spelled p (form.Sequence slots) e (value.Component children) (word, each) text is =
        let r = children_spelled p slots (ap form_slots e) children each text is in
        record { nodes = r.nodes; holds = sequence_holds slots r.nodes r.none; writes = r.writes (form.Sequence slots) refl; Short = r.Short; stands = r.stands }
    spelled p (form.Choice slots) e (value.Component children) (word, each) text is =
        let r = children_spelled p slots (ap form_slots e) children each text is in
        record { nodes = r.nodes; holds = tt; writes = r.writes (form.Choice slots) refl; Short = r.Short; stands = r.stands }
    spelled p (form.Simple simple) e (value.Simple l) fits text is =
        let r = leaf_nodes simple l text fits is in
        record { nodes = r.nodes; holds = tt; writes = r.spells; Short = r.Short; stands = r.stands }
    spelled p (form.Money code number) e (value.Amount l n) (code_fits, fits) text is =
        let r = leaf_nodes number (Number n) text fits is in
        record { nodes = r.nodes; holds = tt; writes = r.spells; Short = r.Short; stands = r.stands }
    spelled p form.Envelope e (value.External t) plain text is =
        record { nodes = envelope_nodes t; holds = tt; writes = (refl, tt); Short = λ limit. HaveShortTags limit None (envelope_nodes t); stands = envelope_stands t text plain is }
    spelled p f e v admits text is = absurd admits

    children_spelled : (p : P) (slots : List (Slot P)) → form_slots (m.forms p) ≡ slots → (children : Children) → AdmitsChildren m.forms slots children → (text : List ℕ)
        → AreElements m.forms slots children text → AreSpelled slots children text
    children_spelled p slots e Nothing each text is = record {
      nodes = tree.Nothing;
      none = λ h. refl;
      writes = λ f h. tt;
      Short = λ limit. Unit {0};
      stands = λ before op tags cdata are knows. subst (λ t. Stays before [] t (λ limit. Unit {0})) (sym is) (stays_none before);
    }
    children_spelled p slots e (Child k v rest) ((s, at, admits), each) text (one, more, (t, there, (a, inner, attributes, content, one_is)), elements, text_is) =
        let same : t ≡ s = cc in
        let here : IsAttributes m.forms (m.forms s.target) v a = rw (← same) attributes in
        let inside : IsContent m.forms (m.forms s.target) v inner = rw (← same) content in
        let whole : one ≡ start_tag s.tag a ++ (inner ++ end_tag s.tag) = rw (← same) one_is in
        child_spelled slots k s v rest a inner one more text at (names.tags p k s (ap (λ l. slice_get l k) e ∙ at)) whole text_is (attributes_of (m.forms s.target) v admits a here)
        (spelled s.target (m.forms s.target) refl v admits inner inside) (children_spelled p slots e rest each more elements)
