-- The canonical XML of an instance has short tags, and is no longer than what is read.
use Rattle.std.proofs.Common.{◌≡◌, inl, ℕ, zero, suc, ◌+◌, ◌≤◌, List, [], ◌++◌, codes, length, refl, sym, ap, ◌∙◌, arith, rules, length-append}
use Rattle.data_types.specs.Value.{Value}
use Rattle.data_types.proofs.VisibleTexts.{AreVisible, visible_xml}
use Rattle.markup.specs.Marks.{tag_limit}
use Rattle.message_model.specs.Tables.{types_of, message_namespace, message_of}
use Rattle.xml_writer.specs.CanonXml.{start_tag, end_tag, xml_declaration, namespace_text, IsCanonXml}
use Rattle.xml_writer.specs.SpellingLaw.{HasNoLongTag}
use Rattle.xml_writer.proofs.MessageNames.{namespace_visible, visible_literal, not_xml_namespace, not_xmlns_namespace}
use Rattle.drill.specs.BuiltIn.{message_id, drill_tables}
use Rattle.drill.specs.Growing.{instance}
use Rattle.drill.specs.Drilled.{XmlIsReadable}
use Rattle.drill.proofs.Bulks.{bulk}
use Rattle.drill.proofs.GrownBulks.{instance_small}
use Rattle.drill.proofs.XmlNodes.{IsShortPart, IsFormOfNodes, content_nodes}
use Rattle.drill.proofs.XmlTokens.{no_long_tag}
use Rattle.drill.proofs.XmlDocuments.{document_tokens, root_tag_size, document_tag_size}

-- ---- the tags

tree_short : IsShortPart (codes "Tree")
unfolding lib.Utf8.encode
tree_short = record { part = record { first = 84; others = codes "ree"; start = inl (omega arith, omega arith); more = search rules; spelled = refl }; short = omega arith }

block_short : IsShortPart (codes "Nd")
unfolding lib.Utf8.encode
block_short = record { part = record { first = 78; others = codes "d"; start = inl (omega arith, omega arith); more = search rules; spelled = refl }; short = omega arith }

name_short : IsShortPart (codes "Nm")
unfolding lib.Utf8.encode
name_short = record { part = record { first = 78; others = codes "m"; start = inl (omega arith, omega arith); more = search rules; spelled = refl }; short = omega arith }

child_short : IsShortPart (codes "Chld")
unfolding lib.Utf8.encode
child_short = record { part = record { first = 67; others = codes "hld"; start = inl (omega arith, omega arith); more = search rules; spelled = refl }; short = omega arith }

types_known : (p : ℕ) → IsFormOfNodes (types_of drill_tables p)
types_known zero = (tree_short, tt)
types_known (suc zero) = (block_short, tt)
types_known (suc (suc zero)) = refl
types_known (suc (suc (suc zero))) = (name_short, (child_short, tt))
types_known (suc (suc (suc (suc p)))) = tt

-- ---- the namespace

abbrev namespace : List ℕ
namespace = message_namespace drill_tables

visible : AreVisible namespace
visible = namespace_visible message_id refl

namespace_size : length namespace ≡ 46
unfolding lib.Utf8.encode
namespace_size = refl

declaration_size : length xml_declaration ≤ 64
unfolding lib.Utf8.encode
declaration_size = omega arith

line_size : length (codes "\n") ≡ 1
unfolding lib.Utf8.encode
line_size = refl

-- ---- the document

pub record IsReadable (bytes : List ℕ) (size : ℕ) : Type 0 where
  pub no_long_tag : HasNoLongTag bytes
  pub within : length bytes ≤ size

document_within : (own content : List ℕ) (size : ℕ) → length content + 64 ≤ size → own ≡ []
    → length (xml_declaration ++ ((start_tag (codes "Document") (namespace_text namespace ++ own) ++ (content ++ end_tag (codes "Document"))) ++ codes "\n")) ≤ size + 256
document_within own content size within none =
    let start = start_tag (codes "Document") (namespace_text namespace ++ own) in
    let end = end_tag (codes "Document") in
    let front = declaration_size in
    let start_size = ap (λ t. length (start_tag (codes "Document") (namespace_text namespace ++ t))) none ∙ root_tag_size namespace in
    let end_size = document_tag_size in
    let ns_size = namespace_size in
    let line = line_size in
    let a = length-append xml_declaration ((start ++ (content ++ end)) ++ codes "\n") in
    let b = length-append (start ++ (content ++ end)) (codes "\n") in
    let c = length-append start (content ++ end) in
    let d = length-append content end in
    omega arith

pub canonical_readable : (v : Value) (bytes : List ℕ) → IsCanonXml (message_of drill_tables) v bytes → IsReadable bytes (bulk v + 256)
canonical_readable v bytes (root, (attributes, content, (own, none, attributes_is), content_is, root_is), bytes_is) =
    let xml = visible_xml namespace visible in
    let apart = not_xml_namespace message_id in
    let undeclared = not_xmlns_namespace message_id in
    let literal = visible_literal namespace visible in
    let size = namespace_size in
    let x = content_nodes (types_of drill_tables) types_known namespace xml apart undeclared tag_limit (omega arith) (types_of drill_tables 0) (types_known 0) v content content_is in
    let within = x.within in
    let r = document_tokens namespace xml apart undeclared literal x.nodes tag_limit content (omega arith) x.text_is x.plain x.short in
    let whole : bytes ≡ xml_declaration ++ ((start_tag (codes "Document") (namespace_text namespace ++ own) ++ (content ++ end_tag (codes "Document"))) ++ codes "\n") =
    bytes_is ∙ ap (λ t. xml_declaration ++ (t ++ codes "\n")) (root_is ∙ ap (λ t. start_tag (codes "Document") t ++ (content ++ end_tag (codes "Document"))) attributes_is) in
    let plain = ap (λ t. xml_declaration ++ ((start_tag (codes "Document") (namespace_text namespace ++ t) ++ (content ++ end_tag (codes "Document"))) ++ codes "\n")) none in
    let len = document_within own content (bulk v) within none in
    record {
      no_long_tag = no_long_tag bytes r.tokens (r.bytes ∙ sym (whole ∙ plain)) r.stand r.short;
      within = (let same = ap length whole in omega arith);
    }

pub xml_is_readable : XmlIsReadable
xml_is_readable number size text h canonical =
    let r = canonical_readable (instance number size) text canonical in
    let small = instance_small number size h in
    let within = r.within in
    (r.no_long_tag, omega arith)
