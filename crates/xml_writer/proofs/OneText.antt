-- A value has at most one canonical XML.
use Rattle.std.proofs.Common.{◌≡◌, ℕ, true, List, ◌++◌, codes, flat_map, sym, ap, ap₂, ◌∙◌}
use Rattle.lexical_core.specs.Escapes.{escape_of}
use Rattle.data_types.specs.Canonical.{escaped_text}
use Rattle.data_types.specs.Leaf.{Leaf, Number}
use Rattle.data_types.specs.Value.{Value, Children, Nothing, Child}
use Rattle.data_types.specs.Value as value
use Rattle.facets.specs.declared.simple.Simple.{Simple}
use Rattle.facets.proofs.CodeVerdicts.{one_canonical_by}
use Rattle.reference_check.specs.Forms.{Graph, Form, Slot, form_slots}
use Rattle.reference_check.specs.Forms as form
use Rattle.message_model.specs.Message.{Message}
use Rattle.xml_writer.specs.CanonXml.{IsLeafText, IsCodeText, currency_text, IsAttributes, IsLeafContent, IsContent, AreElements, IsElement, start_tag, end_tag, namespace_text, xml_declaration, IsRootAttributes, IsCanonXml}

-- ---- leaves

text_one : (simple : Simple) (l : Leaf) (one two : List ℕ) → IsLeafText simple l one → IsLeafText simple l two → one ≡ two
text_one simple l one two (a, h, e) (b, g, d) = e ∙ ap escaped_text (one_canonical_by simple.kind simple.codes l a b h g) ∙ sym d

value_one : {P : Type 0} (f : Form P Simple) (l : Leaf) (one two : List ℕ) → IsCodeText f l one → IsCodeText f l two → one ≡ two
value_one (form.Simple simple) l one two (a, h, e) (b, g, d) = e ∙ ap (flat_map (escape_of true)) (one_canonical_by simple.kind simple.codes l a b h g) ∙ sym d
value_one f l one two h g = absurd h

leaf_one : {P : Type 0} (f : Form P Simple) (v : Value) (one two : List ℕ) → IsLeafContent f v one → IsLeafContent f v two → one ≡ two
leaf_one (form.Simple simple) (value.Simple l) one two h g = text_one simple l one two h g
leaf_one (form.Money code number) (value.Amount l n) one two h g = text_one number (Number n) one two h g
leaf_one form.Envelope (value.External tree) one two h g = h ∙ sym g
leaf_one f v one two h g = absurd h

-- ---- elements

element_one : (tag : List ℕ) (A C : List ℕ → Type 0) → ((x y : List ℕ) → A x → A y → x ≡ y) → ((x y : List ℕ) → C x → C y → x ≡ y)
    → (one two : List ℕ) → IsElement tag A C one → IsElement tag A C two → one ≡ two
element_one tag A C attributes content one two (a, c, ha, hc, e) (b, d, ga, gc, f) =
    e ∙ ap₂ (λ x y. start_tag tag x ++ (y ++ end_tag tag)) (attributes a b ha ga) (content c d hc gc) ∙ sym f

module _ {P : Type 0} (g : Graph P Simple) where
  attributes_one : (f : Form P Simple) (v : Value) (one two : List ℕ) → IsAttributes g f v one → IsAttributes g f v two → one ≡ two
  attributes_one (form.Money code number) (value.Amount l n) one two (a, h, e) (b, k, d) = e ∙ ap currency_text (value_one (g code) l a b h k) ∙ sym d
  attributes_one f v one two h k = h ∙ sym k

  -- the first of children, where the rest has one text
  child_one : (slots : List (Slot P)) (k : ℕ) (v : Value) (rest : Children) → ((s : Slot P) (x y : List ℕ) → IsContent g (g s.target) v x → IsContent g (g s.target) v y → x ≡ y)
      → ((x y : List ℕ) → AreElements g slots rest x → AreElements g slots rest y → x ≡ y)
      → (one two : List ℕ) → AreElements g slots (Child k v rest) one → AreElements g slots (Child k v rest) two → one ≡ two
  child_one slots k v rest content others one two (a, x, (s, at, h), hs, e) (b, y, (t, there, h'), gs, d) =
      let same : t ≡ s = cc in
      let there_too : IsElement s.tag (IsAttributes g (g s.target) v) (IsContent g (g s.target) v) b = rw (← same) h' in
      e ∙ ap₂ (λ p q. p ++ q) (element_one s.tag (IsAttributes g (g s.target) v) (IsContent g (g s.target) v) (attributes_one (g s.target) v) (content s) a b h there_too) (others x y hs gs) ∙ sym d

  mutual
    content_one : (v : Value) (f : Form P Simple) (one two : List ℕ) → IsContent g f v one → IsContent g f v two → one ≡ two
    content_one (value.Component children) f one two h k = elements_one children (form_slots f) one two h k
    content_one (value.Simple l) f one two h k = leaf_one f (value.Simple l) one two h k
    content_one (value.Amount l n) f one two h k = leaf_one f (value.Amount l n) one two h k
    content_one (value.External tree) f one two h k = leaf_one f (value.External tree) one two h k

    elements_one : (children : Children) (slots : List (Slot P)) (one two : List ℕ) → AreElements g slots children one → AreElements g slots children two → one ≡ two
    elements_one Nothing slots one two h k = h ∙ sym k
    elements_one (Child k v rest) slots one two h h' = child_one slots k v rest (λ s. content_one v (g s.target)) (elements_one rest slots) one two h h'

  pub contents_same : (f : Form P Simple) (v : Value) (one two : List ℕ) → IsContent g f v one → IsContent g f v two → one ≡ two
  contents_same f v one two h k = content_one v f one two h k

root_one : {P : Type 0} (m : Message P) (v : Value) (one two : List ℕ) → IsRootAttributes m v one → IsRootAttributes m v two → one ≡ two
root_one m v one two (a, h, e) (b, k, d) = e ∙ ap (λ t. namespace_text m.namespace ++ t) (attributes_one m.forms (m.forms m.root) v a b h k) ∙ sym d

pub canonical_one : {P : Type 0} (m : Message P) (v : Value) (one two : List ℕ) → IsCanonXml m v one → IsCanonXml m v two → one ≡ two
canonical_one m v one two (a, h, e) (b, k, d) =
    e ∙ ap (λ t. xml_declaration ++ (t ++ codes "\n"))
    (element_one (codes "Document") (IsRootAttributes m v) (IsContent m.forms (m.forms m.root) v) (root_one m v) (contents_same m.forms (m.forms m.root) v) a b h k) ∙ sym d
