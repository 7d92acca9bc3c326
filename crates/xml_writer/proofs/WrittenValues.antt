-- What the pieces of a value write is its canonical XML.
use Rattle.std.proofs.Common.{◌≡◌, ℕ, true, false, List, [], ◌∷◌, ◌++◌, Option, Some, codes, refl, sym, ap, subst, ◌∙◌, append_assoc, append-nil}
use Rattle.std.specs.Prelude.{slice_get}
use Rattle.data_types.specs.Leaf.{Bytes, Number}
use Rattle.data_types.specs.Value.{Value, Children, Nothing, Child, Edge, Piece, Begins, Ends}
use Rattle.data_types.specs.Value as value
use Rattle.facets.specs.declared.simple.Simple.{Simple}
use Rattle.fragments.specs.Fragment.{fragment}
use Rattle.reference_check.specs.Forms.{Graph, Form, Slot, form_slots}
use Rattle.reference_check.specs.Forms as form
use Rattle.message_model.specs.Admits.{AdmitsAs, AdmitsChildren}
use Rattle.message_model.specs.Tables.{Tables, types_of, message_namespace, message_of, edge_at, pieces, child_pieces, pieces_of}
use Rattle.xml_writer.specs.CanonXml.{currency_text, IsAttributes, start_tag, end_tag, IsContent, AreElements, xml_declaration, namespace_text, IsCanonXml}
use Rattle.xml_writer.specs.inner.PieceTexts.{is_amount, innermost_begun, innermost_ended, begun_tag, IsHeldText, AreWritten, document_head, document_tail, document_text}
use Rattle.xml_writer.specs.declared.innermost.Innermost.{Innermost}
use Rattle.xml_writer.proofs.SomeText.{attributes_some, content_some}

-- what stands between the begun tag of an element and its end tag
abbrev pub inner_text : Form ℕ Simple → List ℕ → List ℕ → List ℕ
inner_text (form.Money code number) attributes content = attributes ++ (codes ">" ++ content)
inner_text f attributes content = content

-- the innermost element, where one of the form begins
abbrev pub begun_as : ℕ → Form ℕ Simple → Innermost
begun_as n f = record { number = n; unended = is_amount f }

-- ---- texts side by side

-- of an amount the attributes stand behind the begun tag
behind_tag : (tag a c end : List ℕ) → start_tag tag a ++ (c ++ end) ≡ begun_tag tag true ++ ((a ++ (codes ">" ++ c)) ++ end)
behind_tag tag a c end =
    ap (λ t. codes "<" ++ t) (
    append_assoc tag (a ++ codes ">") (c ++ end)
    ∙ ap (λ t. tag ++ t) (append_assoc a (codes ">") (c ++ end) ∙ sym (append_assoc a (codes ">" ++ c) end))
    ∙ ap (λ t. t ++ ((a ++ (codes ">" ++ c)) ++ end)) (sym (append-nil tag))
    )

no_attributes : (tag a c end : List ℕ) → a ≡ [] → start_tag tag a ++ (c ++ end) ≡ begun_tag tag false ++ (c ++ end)
no_attributes tag a c end e = ap (λ t. start_tag tag t ++ (c ++ end)) e

-- five texts in a row
in_a_row : (a b c d e : List ℕ) → ((a ++ (b ++ c)) ++ d) ++ e ≡ a ++ (b ++ (c ++ (d ++ e)))
in_a_row a b c d e =
    append_assoc (a ++ (b ++ c)) d e ∙ append_assoc a (b ++ c) (d ++ e) ∙ ap (λ t. a ++ t) (append_assoc b c (d ++ e))

-- the end of a start tag
tag_in_a_row : (a c more : List ℕ) → (a ++ (codes ">" ++ c)) ++ more ≡ (a ++ codes ">") ++ (c ++ more)
tag_in_a_row a c more = append_assoc a (codes ">" ++ c) more ∙ sym (append_assoc a (codes ">") (c ++ more))

module _ (g : Graph ℕ Simple) where
  -- an element, as its pieces write it
  element_split : (f : Form ℕ Simple) (v : Value) (tag a c end : List ℕ) → IsAttributes g f v a
      → start_tag tag a ++ (c ++ end) ≡ begun_tag tag (is_amount f) ++ (inner_text f a c ++ end)
  element_split (form.Sequence slots) v tag a c end h = no_attributes tag a c end h
  element_split (form.Choice slots) v tag a c end h = no_attributes tag a c end h
  element_split (form.Simple simple) v tag a c end h = no_attributes tag a c end h
  element_split (form.Money code number) v tag a c end h = behind_tag tag a c end
  element_split form.Envelope v tag a c end h = no_attributes tag a c end h
  element_split form.LeftOut v tag a c end h = no_attributes tag a c end h
  element_split form.Missing v tag a c end h = no_attributes tag a c end h

  -- ---- a child, and those behind it

  module _ (n k : ℕ) (s : Slot ℕ) (v : Value) (others : Children) (is : slice_get (form_slots (g n)) k ≡ Some s) where
    abbrev edge : Edge
    edge = record { slot = k; target = s.target; parent = n }

    child_list : Option (Slot ℕ) → List Piece
    child_list o = (let e = edge_at n k o in Begins e ∷ (pieces fragment g e.target v ++ (Ends e ∷ child_pieces fragment g n others)))

    child_is : (rest : List Piece) → child_pieces fragment g n (Child k v others) ++ rest ≡ Begins edge ∷ (pieces fragment g s.target v ++ (Ends edge ∷ (child_pieces fragment g n others ++ rest)))
    unfolding child_list
    child_is rest = ap (λ o. child_list o ++ rest) is ∙ ap (λ l. Begins edge ∷ l) (append_assoc (pieces fragment g s.target v) (Ends edge ∷ child_pieces fragment g n others) rest)

    child_written : (a c one behind all : List ℕ) (rest : List Piece) (more : List ℕ) → IsAttributes g (g s.target) v a
        → one ≡ start_tag s.tag a ++ (c ++ end_tag s.tag) → all ≡ one ++ behind
        → ((later : List Piece) (bytes : List ℕ) → AreWritten g (innermost_ended s.target) later bytes
        → AreWritten g (innermost_begun g s.target) (pieces fragment g s.target v ++ later) (inner_text (g s.target) a c ++ bytes))
        → AreWritten g (innermost_ended n) (child_pieces fragment g n others ++ rest) (behind ++ more)
        → AreWritten g (innermost_ended n) (child_pieces fragment g n (Child k v others) ++ rest) (all ++ more)
    child_written a c one behind all rest more attributes one_is all_is value w =
        let begins = begun_tag s.tag (is_amount (g s.target)) in
        let inner = inner_text (g s.target) a c in
        let ends = end_tag s.tag in
        let bytes : all ++ more ≡ begins ++ (inner ++ (ends ++ (behind ++ more))) =
        ap (λ t. t ++ more) (all_is ∙ ap (λ t. t ++ behind) (one_is ∙ element_split (g s.target) v s.tag a c ends attributes)) ∙ in_a_row begins inner ends behind more in
        subst (λ ps. AreWritten g (innermost_ended n) ps (all ++ more)) (sym (child_is rest)) (
          begins,
          inner ++ (ends ++ (behind ++ more)),
          (s, is, refl),
          value (Ends edge ∷ (child_pieces fragment g n others ++ rest)) (ends ++ (behind ++ more)) (ends, behind ++ more, (s, is, refl), w, refl),
          bytes,
        )

  mutual
    value_written : (f : Form ℕ Simple) (n : ℕ) → g n ≡ f → (v : Value) → AdmitsAs g f v → (a c : List ℕ) → IsAttributes g f v a → IsContent g f v c
        → (rest : List Piece) (more : List ℕ) → AreWritten g (innermost_ended n) rest more → AreWritten g (begun_as n f) (pieces fragment g n v ++ rest) (inner_text f a c ++ more)
    value_written (form.Sequence slots) n e (value.Component children) (word, each) a c at is rest more w = children_written slots n (ap form_slots e) children each c is rest more w
    value_written (form.Choice slots) n e (value.Component children) (word, each) a c at is rest more w = children_written slots n (ap form_slots e) children each c is rest more w
    value_written (form.Simple simple) n e (value.Simple l) fits a c at is rest more w =
        (c, more, subst (λ F. IsHeldText g false F l c) (sym e) (fits, is), w, refl)
    value_written (form.Money code number) n e (value.Amount l m) (code_fits, fits) a c (text, is_text, a_is) is rest more w = (
      currency_text text ++ codes ">",
      c ++ more,
      subst (λ F. IsHeldText g true F l (currency_text text ++ codes ">")) (sym e) (code_fits, (text, is_text, refl)),
      (c, more, subst (λ F. IsHeldText g false F (Number m) c) (sym e) (fits, is), w, refl),
      ap (λ t. (t ++ (codes ">" ++ c)) ++ more) a_is ∙ tag_in_a_row (currency_text text) c more,
    )
    value_written form.Envelope n e (value.External tree) plain a c at is rest more w =
        (c, more, subst (λ F. IsHeldText g false F (Bytes (fragment tree)) c) (sym e) is, w, refl)
    value_written f n e v admits a c at is rest more w = absurd admits

    children_written : (slots : List (Slot ℕ)) (n : ℕ) → form_slots (g n) ≡ slots → (children : Children) → AdmitsChildren g slots children → (c : List ℕ) → AreElements g slots children c
        → (rest : List Piece) (more : List ℕ) → AreWritten g (innermost_ended n) rest more → AreWritten g (innermost_ended n) (child_pieces fragment g n children ++ rest) (c ++ more)
    children_written slots n e Nothing each c is rest more w = subst (λ t. AreWritten g (innermost_ended n) rest (t ++ more)) (sym is) w
    children_written slots n e (Child k v others) ((s, at, admits), each) c (one, behind, (t, there, (a, inner, attributes, content, one_is)), elements, c_is) rest more w =
        let same : t ≡ s = cc in
        let here : IsAttributes g (g s.target) v a = rw (← same) attributes in
        let inside : IsContent g (g s.target) v inner = rw (← same) content in
        let whole : one ≡ start_tag s.tag a ++ (inner ++ end_tag s.tag) = rw (← same) one_is in
        child_written n k s v others (ap (λ l. slice_get l k) e ∙ at) a inner one behind c rest more here whole c_is (value_written (g s.target) s.target refl v admits a inner here inside)
        (children_written slots n e others each behind elements rest more w)

  pub written : (v : Value) → AdmitsAs g (g 0) v → (a c : List ℕ) → IsAttributes g (g 0) v a → IsContent g (g 0) v c
      → AreWritten g (innermost_begun g 0) (pieces fragment g 0 v) (inner_text (g 0) a c)
  written v admits a c at is =
      subst (λ t. AreWritten g (innermost_begun g 0) (pieces fragment g 0 v) t) (append-nil (inner_text (g 0) a c))
      (subst (λ ps. AreWritten g (innermost_begun g 0) ps (inner_text (g 0) a c ++ [])) (append-nil (pieces fragment g 0 v)) (value_written (g 0) 0 refl v admits a c at is [] [] refl))

-- ---- the document

document_in_a_row : (d b i e end : List ℕ) → d ++ ((b ++ (i ++ e)) ++ end) ≡ (d ++ b) ++ (i ++ (e ++ end))
document_in_a_row d b i e end =
    ap (λ t. d ++ t) (append_assoc b (i ++ e) end ∙ ap (λ t. b ++ t) (append_assoc i e end)) ∙ sym (append_assoc d b (i ++ (e ++ end)))

root_is : (g : Graph ℕ Simple) (f : Form ℕ Simple) (v : Value) (namespace a c : List ℕ) → IsAttributes g f v a
    → document_head namespace (is_amount f) ++ (inner_text f a c ++ document_tail)
    ≡ xml_declaration ++ ((start_tag (codes "Document") (namespace_text namespace ++ a) ++ (c ++ end_tag (codes "Document"))) ++ codes "\n")
root_is g f v namespace a c h =
    let tag = codes "Document" ++ namespace_text namespace in
    let end = end_tag (codes "Document") in
    let start : start_tag (codes "Document") (namespace_text namespace ++ a) ≡ start_tag tag a = ap (λ t. codes "<Document" ++ t) (append_assoc (namespace_text namespace) a (codes ">")) in
    sym (
    ap (λ t. xml_declaration ++ (t ++ codes "\n")) (ap (λ t. t ++ (c ++ end)) start ∙ element_split g f v tag a c end h)
    ∙ document_in_a_row xml_declaration (begun_tag tag (is_amount f)) (inner_text f a c) end (codes "\n")
    )

-- what the pieces write, and that it is the canonical XML within the root
pub record IsWrittenValue (T : Tables) (v : Value) : Type 0 where
  pub content : List ℕ
  pub pieces_write : AreWritten (types_of T) (innermost_begun (types_of T) 0) (pieces_of fragment T v) content
  pub canonical : IsCanonXml (message_of T) v (document_text T content)

pub written_value : (T : Tables) (v : Value) → AdmitsAs (types_of T) (types_of T 0) v → IsWrittenValue T v
written_value T v admits =
    let attributes = attributes_some (types_of T) (types_of T 0) v admits in
    let content = content_some (types_of T) (types_of T 0) v admits in
    let all = namespace_text (message_namespace T) ++ attributes.0 in
    record {
      content = inner_text (types_of T 0) attributes.0 content.0;
      pieces_write = written (types_of T) v admits attributes.0 content.0 attributes.1 content.1;
      canonical = (
        start_tag (codes "Document") all ++ (content.0 ++ end_tag (codes "Document")),
        (all, content.0, (attributes.0, attributes.1, refl), content.1, refl),
        root_is (types_of T) (types_of T 0) v (message_namespace T) attributes.0 content.0 attributes.1,
      );
    }
