-- The canonical XML of a value (XML 1.0 §2.1, §2.8, §3.1; Namespaces in XML 1.0 §6.2): one declaration, one namespace, no white space
-- between elements, every element with a start tag and an end tag; what is escaped in texts is as in Canonical XML 1.0 §2.3, but that
-- references are decimal, and `>` is escaped in attributes too.
use Rattle.std.specs.Prelude.{◌≡◌, ℕ, true, List, [], ◌++◌, codes, flat_map}
use Rattle.lexical_core.specs.Escapes.{escape_of}
use Rattle.data_types.specs.Canonical.{escaped_text}
use Rattle.data_types.specs.Leaf as leaf
use Rattle.data_types.specs.Value.{Value, Children, Nothing, Child}
use Rattle.data_types.specs.Value as value
use Rattle.facets.specs.LeafUnder.{IsCanonicalUnder}
use Rattle.facets.specs.declared.simple.Simple.{Simple}
use Rattle.fragments.specs.Fragment.{fragment}
use Rattle.reference_check.specs.Forms.{Graph, Form, Slot, form_slots}
use Rattle.reference_check.specs.Forms as form
use Rattle.message_model.specs.Message.{Message}
use Rattle.message_model.specs.Writes.{AtSlot}

-- the bytes are the canonical text of the leaf in an element: of a code its text, and of all else that of the kind (§2.4)
abbrev pub IsLeafText : Simple → leaf.Leaf → List ℕ → Type 0
IsLeafText simple l bytes = (w : List ℕ) × IsCanonicalUnder simple l w × (bytes ≡ escaped_text w)

-- the same in the value of an attribute (§3.3.3)
abbrev pub IsCodeText : {P : Type 0} → Form P Simple → leaf.Leaf → List ℕ → Type 0
IsCodeText (form.Simple simple) l bytes = (w : List ℕ) × IsCanonicalUnder simple l w × (bytes ≡ flat_map (escape_of true) w)
IsCodeText _ l bytes = ⊥

-- the attribute with this text
abbrev pub currency_text : List ℕ → List ℕ
currency_text text = codes " Ccy=\"" ++ (text ++ codes "\"")

-- the attributes in the start tag of an element with this value: an amount has its code (§3.1)
abbrev pub IsAttributes : {P : Type 0} → Graph P Simple → Form P Simple → Value → List ℕ → Type 0
IsAttributes g (form.Money code number) (value.Amount l n) bytes = (text : List ℕ) × IsCodeText (g code) l text × (bytes ≡ currency_text text)
IsAttributes g f v bytes = bytes ≡ []

abbrev pub start_tag : List ℕ → List ℕ → List ℕ
start_tag tag attributes = codes "<" ++ (tag ++ (attributes ++ codes ">"))

abbrev pub end_tag : List ℕ → List ℕ
end_tag tag = codes "</" ++ (tag ++ codes ">")

-- an element: its tag, what its start tag says behind it, and its content (§3)
abbrev pub IsElement : List ℕ → (List ℕ → Type 0) → (List ℕ → Type 0) → List ℕ → Type 0
IsElement tag Attributes Content bytes =
    (attributes : List ℕ) × (content : List ℕ) × Attributes attributes × Content content
    × (bytes ≡ start_tag tag attributes ++ (content ++ end_tag tag))

-- the content of an element without elements of the message: an envelope has the canonical fragment of its tree as it stands
abbrev pub IsLeafContent : {P : Type 0} → Form P Simple → Value → List ℕ → Type 0
IsLeafContent (form.Simple simple) (value.Simple l) bytes = IsLeafText simple l bytes
IsLeafContent (form.Money code number) (value.Amount l n) bytes = IsLeafText number (leaf.Number n) bytes
IsLeafContent form.Envelope (value.External tree) bytes = bytes ≡ fragment tree
IsLeafContent _ _ bytes = ⊥

abbrev mutual
  -- the content of an element with this value (§3.1)
  pub IsContent : {P : Type 0} → Graph P Simple → Form P Simple → Value → List ℕ → Type 0
  IsContent g f (value.Component children) bytes = AreElements g (form_slots f) children bytes
  IsContent g f v bytes = IsLeafContent f v bytes

  -- an element for each child under the tag of its slot, one after the other
  pub AreElements : {P : Type 0} → Graph P Simple → List (Slot P) → Children → List ℕ → Type 0
  AreElements g slots Nothing bytes = bytes ≡ []
  AreElements g slots (Child k v rest) bytes =
      (one : List ℕ) × (more : List ℕ) × AtSlot slots k (λ s. IsElement s.tag (IsAttributes g (g s.target) v) (IsContent g (g s.target) v) one)
      × AreElements g slots rest more × (bytes ≡ one ++ more)

-- the declaration of XML, and the end of its line (§2.8, §2.11)
abbrev pub xml_declaration : List ℕ
xml_declaration = codes "<?xml version=\"1.0\" encoding=\"UTF-8\"?>\n"

-- the declaration of the default namespace (Namespaces §6.2)
abbrev pub namespace_text : List ℕ → List ℕ
namespace_text namespace = codes " xmlns=\"" ++ (namespace ++ codes "\"")

-- what the start tag of the root says: the namespace of the message, and the attributes of the value
abbrev pub IsRootAttributes : {P : Type 0} → Message P → Value → List ℕ → Type 0
IsRootAttributes m v bytes = (attributes : List ℕ) × IsAttributes m.forms (m.forms m.root) v attributes × (bytes ≡ namespace_text m.namespace ++ attributes)

-- the bytes are the canonical XML of the value
abbrev pub IsCanonXml : {P : Type 0} → Message P → Value → List ℕ → Type 0
IsCanonXml m v bytes =
    (root : List ℕ) × IsElement (codes "Document") (IsRootAttributes m v) (IsContent m.forms (m.forms m.root) v) root
    × (bytes ≡ xml_declaration ++ (root ++ codes "\n"))
