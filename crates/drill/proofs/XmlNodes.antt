-- The canonical content of a value is the text of nodes that have short tags, and has no more bytes than the value's bulk.
use Rattle.std.proofs.Common.{◌≡◌, ◌≢◌, inl, inr, ℕ, zero, suc, ◌+◌, ◌*◌, ◌≤◌, false, ◌==◌, List, [], ◌∷◌, ◌++◌, Option, Some, codes, length, refl, sym, ap, ap₂, subst, ◌∙◌, arith, length-append, append_assoc}
use Rattle.std.specs.Prelude.{slice_get, encode_utf8_all}
use Rattle.std.specs.List.{AllByRecursion}
use Rattle.std.proofs.lemmas.Bool.{cases_Bool}
use Rattle.lexical_core.specs.Characters.{IsXmlText}
use Rattle.lexical_core.specs.Tree.{Nodes, Element}
use Rattle.lexical_core.specs.Tree as tree
use Rattle.lexical_core.specs.Names.{xml_namespace, xmlns_namespace}
use Rattle.data_types.specs.Canonical.{escaped_text}
use Rattle.data_types.specs.Escaping.{escaped_byte, escaped_bytes}
use Rattle.data_types.specs.Leaf.{Leaf, Bytes, Number, Flag, Code}
use Rattle.data_types.specs.Value.{Value, Children, Child}
use Rattle.data_types.specs.Value as value
use Rattle.data_types.proofs.EscapeLemmas.{escaped_chars}
use Rattle.facets.specs.declared.simple.Simple.{Simple}
use Rattle.fragments.specs.Plain.{IsPart, IsPlainName, ArePlain}
use Rattle.fragments.specs.Fragment.{default_within, start_text, end_text, nodes_text}
use Rattle.respell.specs.ShortTags.{HaveShortTags}
use Rattle.reference_check.specs.Forms.{Graph, Form, Slot, form_slots}
use Rattle.reference_check.specs.Forms as form
use Rattle.message_model.specs.Writes.{name_in_namespace, text_nodes}
use Rattle.xml_writer.specs.CanonXml.{IsLeafText, IsAttributes, start_tag, end_tag, IsContent, AreElements}
use Rattle.xml_writer.proofs.SpelledLeaves.{text_plain, text_written}
use Rattle.xml_writer.proofs.TagTexts.{start_is, end_is, within_is}
use Rattle.drill.specs.BuiltIn.{drill_text_type}
use Rattle.drill.proofs.Bulks.{bulk, bulks}

-- ---- texts

byte_size : (b : ℕ) → length (escaped_byte false b) ≤ 5
unfolding lib.Utf8.encode
byte_size b = elim (cases_Bool (b == 38)) as (λ _. length (escaped_byte false b) ≤ 5) [
  | inl h ↦ rw h (omega arith)
  | inr h ↦ elim (cases_Bool (b == 60)) as (λ _. length (escaped_byte false b) ≤ 5) [
    | inl g ↦ rw (h, g) (omega arith)
    | inr g ↦ elim (cases_Bool (b == 62)) as (λ _. length (escaped_byte false b) ≤ 5) [
      | inl f ↦ rw (h, g, f) (omega arith)
      | inr f ↦ elim (cases_Bool (b == 13)) as (λ _. length (escaped_byte false b) ≤ 5) [
        | inl e ↦ rw (h, g, f, e) (omega arith)
        | inr e ↦ rw (h, g, f, e) (omega arith)
      ]
    ]
  ]
]

bytes_size : (bytes : List ℕ) → length (escaped_bytes false bytes) ≤ 5 * length bytes
bytes_size [] = omega arith
bytes_size (b ∷ bytes) =
    let one = byte_size b in
    let more = bytes_size bytes in
    let all = length-append (escaped_byte false b) (escaped_bytes false bytes) in
    omega arith

text_size : (chars bytes : List ℕ) → bytes ≡ encode_utf8_all chars → length (escaped_text chars) ≤ 5 * length bytes
text_size chars bytes e =
    let same = ap length (escaped_chars chars) in
    let all = bytes_size (encode_utf8_all chars) in
    let len = ap length e in
    omega arith

text_short : (limit : ℕ) (default : Option (List ℕ)) (chars : List ℕ) → HaveShortTags limit default (text_nodes chars)
text_short limit default [] = tt
text_short limit default (c ∷ chars) = text_short limit default chars

-- ---- forms

-- the tag of an element that is known to be short
pub record IsShortPart (tag : List ℕ) : Type 0 where
  pub part : IsPart tag
  pub short : length tag ≤ 8

abbrev pub HaveShortParts : List (Slot ℕ) → Type 0
HaveShortParts slots = AllByRecursion (λ s. IsShortPart s.tag) slots

-- a sequence of elements with short tags, or a text
abbrev pub IsFormOfNodes : Form ℕ Simple → Type 0
IsFormOfNodes (form.Sequence slots) = HaveShortParts slots
IsFormOfNodes (form.Simple simple) = simple ≡ drill_text_type
IsFormOfNodes form.Missing = Unit {0}
IsFormOfNodes f = ⊥

slots_known : (f : Form ℕ Simple) → IsFormOfNodes f → HaveShortParts (form_slots f)
slots_known (form.Sequence slots) h = h
slots_known (form.Simple simple) h = tt
slots_known form.Missing h = tt
slots_known f h = absurd h

slot_known : (slots : List (Slot ℕ)) (k : ℕ) (s : Slot ℕ) → HaveShortParts slots → slice_get slots k ≡ Some s → IsShortPart s.tag
slot_known [] k s h at = absurd cc
slot_known (x ∷ slots) zero s h at = (let same : x ≡ s = cc in subst (λ (y : Slot ℕ). IsShortPart y.tag) same h.0)
slot_known (x ∷ slots) (suc k) s h at = slot_known slots k s h.1 at

no_attributes : (g : Graph ℕ Simple) (f : Form ℕ Simple) (v : Value) (text : List ℕ) → IsFormOfNodes f → IsAttributes g f v text → text ≡ []
no_attributes g (form.Sequence slots) v text h is = is
no_attributes g (form.Simple simple) v text h is = is
no_attributes g form.Missing v text h is = is
no_attributes g f v text h is = absurd h

start_size : (tag : List ℕ) → length (start_tag tag []) ≡ 2 + length tag
unfolding lib.Utf8.encode
start_size tag = (let all = length-append tag (codes ">") in omega arith)

end_size : (tag : List ℕ) → length (end_tag tag) ≡ 3 + length tag
unfolding lib.Utf8.encode
end_size tag = (let all = length-append tag (codes ">") in omega arith)

-- ---- content

module _ (g : Graph ℕ Simple) (known : (p : ℕ) → IsFormOfNodes (g p)) (ns : List ℕ) (namespace : IsXmlText ns) (apart : ns ≢ xml_namespace) (no_declaration : ns ≢ xmlns_namespace) (limit : ℕ) (room : 11 ≤ limit) where
  -- nodes whose text this is, where so many bytes more stand round it
  pub record AreNodes (text : List ℕ) (round size : ℕ) : Type 0 where
    pub nodes : Nodes
    pub text_is : nodes_text (Some ns) nodes ≡ text
    pub plain : ArePlain nodes
    pub short : HaveShortTags limit (Some ns) nodes
    pub within : length text + round ≤ size

  pub tag_plain : (tag : List ℕ) → IsPart tag → IsPlainName (name_in_namespace ns tag)
  tag_plain tag part = record { local = part; namespace = namespace; no_declaration = no_declaration }

  leaf_nodes : (leaf : Leaf) (text : List ℕ) → IsLeafText drill_text_type leaf text → AreNodes text 64 (bulk (value.Simple leaf))
  leaf_nodes (Bytes bytes) text (chars, (all, spelled), e) = record {
    nodes = text_nodes chars;
    text_is = text_written (Some ns) chars ∙ sym e;
    plain = text_plain chars all;
    short = text_short limit (Some ns) chars;
    within = (let size = text_size chars bytes spelled in let same = ap length e in omega arith);
  }
  leaf_nodes (Number number) text (chars, canonical, e) = absurd canonical
  leaf_nodes (Flag flag) text (chars, canonical, e) = absurd canonical
  leaf_nodes (Code place) text (chars, canonical, e) = absurd canonical

  -- an element, and those behind it
  element_nodes : (tag a inner one more text : List ℕ) (size sizes : ℕ) → IsShortPart tag → a ≡ [] → one ≡ start_tag tag a ++ (inner ++ end_tag tag) → text ≡ one ++ more
      → AreNodes inner 64 size → AreNodes more 0 sizes → AreNodes text 0 (size + sizes)
  element_nodes tag a inner one more text size sizes tag_short none one_is text_is x ys =
      let name = name_in_namespace ns tag in
      let start : start_text (Some ns) name [] ≡ start_tag tag [] = start_is ns apart tag [] [] (inl (refl, refl)) in
      let end : end_text name ≡ end_tag tag = end_is ns apart tag in
      let within : default_within (Some ns) name ≡ Some ns = within_is ns apart (Some ns) tag in
      let whole : one ≡ start_tag tag [] ++ (inner ++ end_tag tag) = one_is ∙ ap (λ t. start_tag tag t ++ (inner ++ end_tag tag)) none in
      let start_len = start_size tag in
      let end_len = end_size tag in
      let tag_len = tag_short.short in
      record {
        nodes = Element name [] x.nodes ys.nodes;
        text_is = ap₂ (λ p q. p ++ q) start (ap₂ (λ p q. p ++ q) (ap (λ d. nodes_text d x.nodes) within ∙ x.text_is) (ap₂ (λ p q. p ++ q) end ys.text_is))
            ∙ (ap (λ t. start_tag tag [] ++ t) (sym (append_assoc inner (end_tag tag) more))
            ∙ (sym (append_assoc (start_tag tag []) (inner ++ end_tag tag) more)
            ∙ (ap (λ t. t ++ more) (sym whole) ∙ sym text_is)));
        plain = (tag_plain tag tag_short.part, (tt, tt), x.plain, ys.plain);
        short = (
          (let same = ap length start in omega arith),
          (let same = ap length end in omega arith),
          subst (λ d. HaveShortTags limit d x.nodes) (sym within) x.short,
          ys.short,
        );
        within = (
            let all = ap length text_is in
            let parts = length-append one more in
            let own = ap length whole in
            let first = length-append (start_tag tag []) (inner ++ end_tag tag) in
            let second = length-append inner (end_tag tag) in
            let inner_within = x.within in
            let more_within = ys.within in
            omega arith
            );
      }

  mutual
    pub content_nodes : (f : Form ℕ Simple) → IsFormOfNodes f → (v : Value) (text : List ℕ) → IsContent g f v text → AreNodes text 64 (bulk v)
    content_nodes f own (value.Component children) text is =
        let r = elements_nodes (form_slots f) (slots_known f own) children text is in
        let within = r.within in
        record { nodes = r.nodes; text_is = r.text_is; plain = r.plain; short = r.short; within = omega arith }
    content_nodes (form.Simple simple) own (value.Simple leaf) text is = leaf_nodes leaf text (subst (λ s. IsLeafText s leaf text) own is)
    content_nodes (form.Money code number) own (value.Amount l n) text is = absurd own
    content_nodes form.Envelope own (value.External t) text is = absurd own
    content_nodes f own v text is = absurd is

    elements_nodes : (slots : List (Slot ℕ)) → HaveShortParts slots → (children : Children) (text : List ℕ) → AreElements g slots children text → AreNodes text 0 (bulks children)
    elements_nodes slots parts value.Nothing text is = record { nodes = tree.Nothing; text_is = sym is; plain = tt; short = tt; within = (let none = ap length is in omega arith) }
    elements_nodes slots parts (Child k v rest) text (one, more, (s, at, (a, inner, attributes, content, one_is)), others, text_is) =
        element_nodes s.tag a inner one more text (bulk v) (bulks rest) (slot_known slots k s parts at) (no_attributes g (g s.target) v a (known s.target) attributes) one_is text_is
        (content_nodes (g s.target) (known s.target) v inner content) (elements_nodes slots parts rest more others)
