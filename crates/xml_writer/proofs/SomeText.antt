-- A value that the types admit has a canonical XML.
use Rattle.std.proofs.Common.{ℕ, true, List, [], ◌++◌, codes, flat_map, refl}
use Rattle.lexical_core.specs.Escapes.{escape_of}
use Rattle.data_types.specs.Canonical.{escaped_text}
use Rattle.data_types.specs.Leaf.{Leaf, Number}
use Rattle.data_types.specs.Value.{Value, Children, Nothing, Child}
use Rattle.data_types.specs.Value as value
use Rattle.facets.specs.LeafUnder.{Fits}
use Rattle.facets.specs.declared.simple.Simple.{Simple}
use Rattle.fragments.specs.Fragment.{fragment}
use Rattle.reference_check.specs.Forms.{Graph, Form, Slot}
use Rattle.reference_check.specs.Forms as form
use Rattle.message_model.specs.Admits.{AdmitsAs, AdmitsChildren, FitsCode}
use Rattle.message_model.specs.Message.{Message}
use Rattle.xml_writer.specs.CanonXml.{IsLeafText, IsCodeText, currency_text, IsAttributes, IsContent, AreElements, start_tag, end_tag, namespace_text, xml_declaration, IsCanonXml}

pub text_some : (simple : Simple) (l : Leaf) → Fits simple l → (bytes : List ℕ) × IsLeafText simple l bytes
text_some simple l (w, canonical, given) = (escaped_text w, (w, canonical, refl))

pub code_some : {P : Type 0} (f : Form P Simple) (l : Leaf) → FitsCode f l → (bytes : List ℕ) × IsCodeText f l bytes
code_some (form.Simple simple) l (w, canonical, given) = (flat_map (escape_of true) w, (w, canonical, refl))
code_some f l fits = absurd fits

module _ {P : Type 0} (g : Graph P Simple) where
  pub attributes_some : (f : Form P Simple) (v : Value) → AdmitsAs g f v → (bytes : List ℕ) × IsAttributes g f v bytes
  attributes_some (form.Sequence slots) v admits = ([], refl)
  attributes_some (form.Choice slots) v admits = ([], refl)
  attributes_some (form.Simple simple) v admits = ([], refl)
  attributes_some (form.Money code number) (value.Amount l n) (fits, others) = (let text = code_some (g code) l fits in (currency_text text.0, (text.0, text.1, refl)))
  attributes_some form.Envelope v admits = ([], refl)
  attributes_some f v admits = absurd admits

  mutual
    pub content_some : (f : Form P Simple) (v : Value) → AdmitsAs g f v → (bytes : List ℕ) × IsContent g f v bytes
    content_some (form.Sequence slots) (value.Component children) (word, each) = elements_some slots children each
    content_some (form.Choice slots) (value.Component children) (word, each) = elements_some slots children each
    content_some (form.Simple simple) (value.Simple l) fits = text_some simple l fits
    content_some (form.Money code number) (value.Amount l n) (code_fits, fits) = text_some number (Number n) fits
    content_some form.Envelope (value.External tree) plain = (fragment tree, refl)
    content_some f v admits = absurd admits

    pub elements_some : (slots : List (Slot P)) (children : Children) → AdmitsChildren g slots children → (bytes : List ℕ) × AreElements g slots children bytes
    elements_some slots Nothing each = ([], refl)
    elements_some slots (Child k v rest) ((s, at, admits), each) =
        let attributes = attributes_some (g s.target) v admits in
        let content = content_some (g s.target) v admits in
        let more = elements_some slots rest each in
        let one = start_tag s.tag attributes.0 ++ (content.0 ++ end_tag s.tag) in
        (one ++ more.0, (one, more.0, (s, at, (attributes.0, content.0, attributes.1, content.1, refl)), more.1, refl))

pub canonical_some : {P : Type 0} (m : Message P) (v : Value) → AdmitsAs m.forms (m.forms m.root) v → (bytes : List ℕ) × IsCanonXml m v bytes
canonical_some m v admits =
    let attributes = attributes_some m.forms (m.forms m.root) v admits in
    let content = content_some m.forms (m.forms m.root) v admits in
    let all = namespace_text m.namespace ++ attributes.0 in
    let root = start_tag (codes "Document") all ++ (content.0 ++ end_tag (codes "Document")) in
    (xml_declaration ++ (root ++ codes "\n"), (root, (all, content.0, (attributes.0, attributes.1, refl), content.1, refl), refl))
