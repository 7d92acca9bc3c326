-- The tags of canonical XML are those that a fragment has.
use Rattle.std.proofs.Common.{◌≡◌, ◌≢◌, ◌⊎◌, inl, inr, ℕ, false, List, [], ◌∷◌, ◌++◌, Some, None, codes, flat_map, refl, ap, append-nil}
use Rattle.lexical_core.specs.Tree.{Entry}
use Rattle.lexical_core.specs.Names.{xml_namespace}
use Rattle.lexical_core.proofs.EqualBytes.{bytes_equal, other_bytes}
use Rattle.fragments.specs.Fragment.{is_xml, value_byte, start_text, end_text, default_within}
use Rattle.message_model.specs.Writes.{name_in_namespace, currency}
use Rattle.xml_writer.specs.CanonXml.{currency_text, start_tag, end_tag, namespace_text}

-- the attribute with this code
abbrev pub currency_entry : List ℕ → Entry
currency_entry code = record { name = currency; value = code }

-- what attributes write: none, or a code
abbrev pub HasText : List Entry → List ℕ → Type 0
HasText entries text = ((entries ≡ []) × (text ≡ []))
    ⊎ ((code : List ℕ) × (entries ≡ currency_entry code ∷ []) × (text ≡ currency_text (flat_map value_byte code)))

module _ (ns : List ℕ) (apart : ns ≢ xml_namespace) where
  pub not_xml : is_xml ns ≡ false
  not_xml = other_bytes ns xml_namespace apart

  pub within_is : (default : _) (tag : List ℕ) → default_within default (name_in_namespace ns tag) ≡ Some ns
  within_is default tag = rw not_xml refl

  start_plain : (tag : List ℕ) → start_text (Some ns) (name_in_namespace ns tag) [] ≡ start_tag tag []
  start_plain tag = rw (not_xml, bytes_equal ns ns refl) refl

  start_coded : (tag code : List ℕ) → start_text (Some ns) (name_in_namespace ns tag) (currency_entry code ∷ []) ≡ start_tag tag (currency_text (flat_map value_byte code))
  start_coded tag code =
      let own = append-nil (currency_text (flat_map value_byte code)) in
      rw (not_xml, bytes_equal ns ns refl) (ap (λ t. codes "<" ++ (tag ++ (t ++ codes ">"))) own)

  pub start_is : (tag text : List ℕ) (entries : List Entry) → HasText entries text → start_text (Some ns) (name_in_namespace ns tag) entries ≡ start_tag tag text
  start_is tag text entries (inl (e, d)) = rw (e, d) (start_plain tag)
  start_is tag text entries (inr (code, e, d)) = rw (e, d) (start_coded tag code)

  pub end_is : (tag : List ℕ) → end_text (name_in_namespace ns tag) ≡ end_tag tag
  end_is tag = rw not_xml refl

  module _ (literal : flat_map value_byte ns ≡ ns) where
    root_plain : start_text None (name_in_namespace ns (codes "Document")) [] ≡ start_tag (codes "Document") (namespace_text ns ++ [])
    root_plain = rw (not_xml, literal) refl

    root_coded : (code : List ℕ) → start_text None (name_in_namespace ns (codes "Document")) (currency_entry code ∷ [])
        ≡ start_tag (codes "Document") (namespace_text ns ++ currency_text (flat_map value_byte code))
    root_coded code =
        let own = append-nil (currency_text (flat_map value_byte code)) in
        rw (not_xml, literal) (ap (λ t. codes "<Document" ++ ((namespace_text ns ++ t) ++ codes ">")) own)

    pub root_start_is : (text : List ℕ) (entries : List Entry) → HasText entries text → start_text None (name_in_namespace ns (codes "Document")) entries ≡ start_tag (codes "Document") (namespace_text ns ++ text)
    root_start_is text entries (inl (e, d)) = rw (e, d) root_plain
    root_start_is text entries (inr (code, e, d)) = rw (e, d) (root_coded code)
