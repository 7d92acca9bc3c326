-- A document without attributes, as tokens: none of its tags is long where those of its nodes are short.
use Rattle.std.proofs.Common.{◌≡◌, ◌≢◌, inl, ℕ, ◌+◌, ◌≤◌, List, [], ◌∷◌, ◌++◌, Some, None, codes, length, flat_map, refl, sym, ap, ap₂, subst, ◌∙◌, arith, length-append, append-nil}
use Rattle.lexical_core.specs.Characters.{IsXmlText}
use Rattle.lexical_core.specs.Tree.{Expanded, Nodes, Nothing, Element, Tree, flat}
use Rattle.lexical_core.specs.Names.{xml_namespace, xmlns_namespace}
use Rattle.markup.specs.Token.{Token, LineEnd, Lf, token_bytes}
use Rattle.fragments.specs.Plain.{ArePlain, IsPlain}
use Rattle.fragments.specs.Fragment.{value_byte, start_text, end_text, nodes_text, fragment}
use Rattle.respell.specs.ShortTags.{HaveShortTags}
use Rattle.respell.proofs.Runs.{AllStand, AllShort, stand-append, short-append, tokens-append}
use Rattle.respell.proofs.Trees.{Stays, fragment_within}
use Rattle.message_model.specs.Writes.{name_in_namespace}
use Rattle.xml_writer.specs.CanonXml.{start_tag, end_tag, xml_declaration, namespace_text}
use Rattle.xml_writer.proofs.TagTexts.{end_is, within_is, root_start_is}
use Rattle.xml_writer.proofs.SpelledDocuments.{declaration, first_tokens, first_bytes, first_stand, document_part}

-- ---- the declaration, and the line end behind the root

line_bytes : flat_map token_bytes (LineEnd Lf ∷ []) ≡ codes "\n"
unfolding lib.Utf8.encode
line_bytes = refl

pub root_tag_size : (ns : List ℕ) → length (start_tag (codes "Document") (namespace_text ns ++ [])) ≡ 19 + length ns
unfolding lib.Utf8.encode
root_tag_size ns =
    let quoted = length-append ns (codes "\"") in
    let all = length-append ((ns ++ codes "\"") ++ []) (codes ">") in
    let none = length-append (ns ++ codes "\"") [] in
    omega arith

pub document_tag_size : length (end_tag (codes "Document")) ≡ 11
unfolding lib.Utf8.encode
document_tag_size = refl

-- ---- the document

module _ (ns : List ℕ) (namespace : IsXmlText ns) (apart : ns ≢ xml_namespace) (no_declaration : ns ≢ xmlns_namespace) (literal : flat_map value_byte ns ≡ ns) (nodes : Nodes) where
  abbrev name : Expanded
  name = name_in_namespace ns (codes "Document")

  abbrev root : Tree
  root = record { name = name; attributes = []; children = nodes }

  abbrev root_text : List ℕ → List ℕ
  root_text content = start_tag (codes "Document") (namespace_text ns ++ []) ++ (content ++ end_tag (codes "Document"))

  start : start_text None name [] ≡ start_tag (codes "Document") (namespace_text ns ++ [])
  start = root_start_is ns apart literal [] [] (inl (refl, refl))

  end : end_text name ≡ end_tag (codes "Document")
  end = end_is ns apart (codes "Document")

  root_is : (content : List ℕ) → nodes_text (Some ns) nodes ≡ content → fragment root ≡ root_text content
  root_is content e =
      ap₂ (λ p q. p ++ q) start (ap₂ (λ p q. p ++ q) (ap (λ d. nodes_text d nodes) (within_is ns apart None (codes "Document")) ∙ e) (append-nil (end_text name) ∙ end))

  root_short : (limit : ℕ) → 19 + length ns ≤ limit → HaveShortTags limit (Some ns) nodes → HaveShortTags limit None (Element name [] nodes Nothing)
  root_short limit room h = (
    (let same = ap length start in let size = root_tag_size ns in omega arith),
    (let same = ap length end in let size = document_tag_size in omega arith),
    subst (λ d. HaveShortTags limit d nodes) (sym (within_is ns apart None (codes "Document"))) h,
    tt,
  )

  abbrev before_root : List Token
  before_root = LineEnd Lf ∷ declaration ∷ []

  root_stays : ArePlain nodes → Stays before_root (flat root) (fragment root) (λ limit. HaveShortTags limit None (Element name [] nodes Nothing))
  root_stays plain =
      let own : IsPlain root = record { name = record { local = document_part; namespace = namespace; no_declaration = no_declaration }; attributes = (tt, tt); children = plain } in
      fragment_within root before_root [] own refl refl refl refl

  -- tokens that spell the document, of which none has a long tag
  pub record HasShortTokens (limit : ℕ) (content : List ℕ) : Type 0 where
    pub tokens : List Token
    pub bytes : flat_map token_bytes tokens ≡ xml_declaration ++ (root_text content ++ codes "\n")
    pub stand : AllStand [] tokens
    pub short : AllShort limit tokens

  pub document_tokens : (limit : ℕ) (content : List ℕ) → 19 + length ns ≤ limit → nodes_text (Some ns) nodes ≡ content → ArePlain nodes → HaveShortTags limit (Some ns) nodes → HasShortTokens limit content
  document_tokens limit content room e plain short =
      let r = root_stays plain in
      let inner = r.run.tokens in
      let last : List Token = LineEnd Lf ∷ [] in
      record {
        tokens = first_tokens ++ (inner ++ last);
        bytes = tokens-append first_tokens (inner ++ last) ∙ ap₂ (λ p q. p ++ q) first_bytes (tokens-append inner last ∙ ap₂ (λ p q. p ++ q) (r.run.bytes ∙ root_is content e) line_bytes);
        stand = stand-append [] first_tokens (inner ++ last) first_stand (stand-append before_root inner last r.run.stand ((λ rest. rw r.cdata refl), tt));
        short = (refl, (refl, short-append limit inner last ((r.short limit).0 (root_short limit room short)) (refl, tt)));
      }
