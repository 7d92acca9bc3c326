-- The canonical text of a leaf spells it, and is of characters of XML.
use Rattle.std.proofs.Common.{◌≡◌, inl, inr, ℕ, false, List, [], ◌∷◌, ◌++◌, Option, Some, None, refl, ap, subst}
use Rattle.std.specs.List.{AllByRecursion}
use Rattle.lexical_core.specs.Characters.{IsXmlChar}
use Rattle.lexical_core.specs.Escapes.{escape_of}
use Rattle.data_types.specs.Canonical.{escaped_text}
use Rattle.data_types.specs.Leaf.{Leaf, Bytes, Code}
use Rattle.data_types.specs.declared.kind.Kind.{Kind}
use Rattle.data_types.specs.declared.kind.Kind.TheVariants as kind
use Rattle.data_types.proofs.VisibleTexts.{all_xml}
use Rattle.facets.specs.LeafUnder.{IsLeafBy, IsCanonicalBy, IsCanonicalUnder, GivesLeaf, Fits}
use Rattle.facets.specs.declared.simple.Simple.{Simple}
use Rattle.facets.proofs.CodeVerdicts.{one_canonical_by}
use Rattle.facets.proofs.FitLemmas.{is_text}
use Rattle.fragments.specs.Plain.{ArePlain}
use Rattle.fragments.specs.Fragment.{nodes_text}
use Rattle.message_model.specs.Writes.{text_nodes}
use Rattle.xml_writer.proofs.ValueTexts.{canonical_visible, leaf_apart, canonical_apart}

text_xml : (codes : Option (List (List ℕ))) (chars : List ℕ) (l : Leaf) → IsLeafBy kind.Text codes chars l → AllByRecursion IsXmlChar chars
text_xml (Some codes) chars (Code place) h = h.0
text_xml (Some codes) chars l h = absurd h
text_xml None chars (Bytes bytes) h = h.0
text_xml None chars l h = absurd h

leaf_xml : (k : Kind) (codes : Option (List (List ℕ))) (chars : List ℕ) (l : Leaf) → IsLeafBy k codes chars l → IsCanonicalBy k codes l chars → AllByRecursion IsXmlChar chars
leaf_xml k codes chars l h c = elim (is_text k) [
  | inl e ↦ text_xml codes chars l (subst (λ (x : Kind). IsLeafBy x codes chars l) e h)
  | inr other ↦ all_xml chars (canonical_visible k l chars chars other (leaf_apart k codes chars l other h) (canonical_apart k codes l chars other c))
]

-- the canonical text of a leaf that fits gives it
pub given_leaf : (simple : Simple) (l : Leaf) (chars : List ℕ) → Fits simple l → IsCanonicalUnder simple l chars → GivesLeaf simple chars l
given_leaf simple l chars (own, canonical, given) c = subst (λ t. GivesLeaf simple t l) (one_canonical_by simple.kind simple.codes l own chars canonical c) given

pub canonical_xml_chars : (simple : Simple) (l : Leaf) (chars : List ℕ) → Fits simple l → IsCanonicalUnder simple l chars → AllByRecursion IsXmlChar chars
canonical_xml_chars simple l chars fits c = leaf_xml simple.kind simple.codes chars l (given_leaf simple l chars fits c).spelled c

-- characters as nodes
pub text_plain : (chars : List ℕ) → AllByRecursion IsXmlChar chars → ArePlain (text_nodes chars)
text_plain [] h = tt
text_plain (c ∷ chars) h = (h.0, text_plain chars h.1)

pub text_written : (default : Option (List ℕ)) (chars : List ℕ) → nodes_text default (text_nodes chars) ≡ escaped_text chars
text_written default [] = refl
text_written default (c ∷ chars) = ap (λ t. escape_of false c ++ t) (text_written default chars)
