-- What a start tag says, spelled: attributes to the grammar, which give names and values back.
use Rattle.std.proofs.Common.{◌≡◌, ℕ, true, List, [], ◌∷◌, ◌++◌, map, refl, ap, ap₂, ◌∙◌, append_assoc, append-nil}
use Rattle.std.specs.Prelude.{encode_utf8_all, codes}
use Rattle.std.specs.List.{flat_map, list_all, AllByRecursion}
use Rattle.std.proofs.lemmas.Bool.{and_from}
use Rattle.std.proofs.lemmas.Str.{encodes-append}
use Rattle.lexical_core.specs.Characters.{IsXmlText}
use Rattle.markup.specs.Chars.{is_space}
use Rattle.markup.specs.Name.{name_text}
use Rattle.markup.specs.Attribute.{Attribute, is_attribute, attribute_text, piece_text}
use Rattle.markup.specs.Events.{given_attribute}
use Rattle.markup.specs.declared.tag.Given.{Given}
use Rattle.fragments.specs.Fragment.{Written, written_text}
use Rattle.respell.proofs.Values.{value_of}
use Rattle.respell.proofs.Names.{IsSpelling, name_of, read_as}

-- what may be written in a start tag
pub record IsWritten (w : Written) : Type 0 where
  pub name : IsSpelling w.name
  pub value : IsXmlText w.value

-- as the reader keeps it
abbrev pub given_as : Written → Given
given_as w = record { name = read_as w.name; value = w.value }

written_bytes : (n v : List ℕ) → encode_utf8_all (32 ∷ [] ++ n ++ [] ++ codes "=" ++ [] ++ 34 ∷ [] ++ v ++ 34 ∷ []) ≡ 32 ∷ encode_utf8_all n ++ 61 ∷ 34 ∷ encode_utf8_all v ++ 34 ∷ []
unfolding lib.Utf8.encode
written_bytes n v =
    let flat : ((((n ++ []) ++ 61 ∷ []) ++ []) ++ 34 ∷ []) ≡ n ++ 61 ∷ 34 ∷ [] = rw (append-nil n, append-nil (n ++ 61 ∷ [])) (append_assoc n (61 ∷ []) (34 ∷ [])) in
    let front : encode_utf8_all ((((n ++ []) ++ 61 ∷ []) ++ []) ++ 34 ∷ []) ≡ encode_utf8_all n ++ 61 ∷ 34 ∷ [] = ap encode_utf8_all flat ∙ encodes-append n (61 ∷ 34 ∷ []) in
    let y : List ℕ = (((n ++ []) ++ 61 ∷ []) ++ []) ++ 34 ∷ [] in
    ap (λ (l : List ℕ). 32 ∷ l) (
    encodes-append (y ++ v) (34 ∷ []) ∙ (ap (λ (l : List ℕ). l ++ 34 ∷ []) (encodes-append y v ∙ ap (λ (l : List ℕ). l ++ encode_utf8_all v) front)
    ∙ (ap (λ (l : List ℕ). l ++ 34 ∷ []) (append_assoc (encode_utf8_all n) (61 ∷ 34 ∷ []) (encode_utf8_all v)))))

pub record HasAttribute (w : Written) : Type 0 where
  pub attribute : Attribute
  pub is : is_attribute attribute ≡ true
  pub bytes : encode_utf8_all (attribute_text attribute) ≡ written_text w
  pub reads : given_attribute attribute ≡ given_as w

pub attribute_of : (w : Written) → IsWritten w → HasAttribute w
unfolding is_space
attribute_of w i =
    let n = name_of w.name i.name in let v = value_of w.value i.value in
    let a : Attribute = record { gap = 32 ∷ []; name = n.name; before = []; after = []; quote = 34; value = v.pieces } in record {
      attribute = a;
      is = rw (n.is, v.are) refl;
      bytes = written_bytes (name_text n.name) (flat_map piece_text v.pieces) ∙ ap₂ (λ (x y : List ℕ). 32 ∷ x ++ 61 ∷ 34 ∷ y ++ 34 ∷ []) n.bytes v.spelled;
      reads = ap₂ (λ x y. record { name = x; value = y }) n.reads v.gives;
    }

pub record HasAttributes (ws : List Written) : Type 0 where
  pub attributes : List Attribute
  pub are : list_all is_attribute attributes ≡ true
  pub bytes : encode_utf8_all (flat_map attribute_text attributes) ≡ flat_map written_text ws
  pub reads : map given_attribute attributes ≡ map given_as ws

pub attributes_of : (ws : List Written) → AllByRecursion IsWritten ws → HasAttributes ws
attributes_of [] h = record { attributes = []; are = refl; bytes = refl; reads = refl }
attributes_of (w ∷ ws) h =
    let a = attribute_of w h.0 in let r = attributes_of ws h.1 in record {
      attributes = a.attribute ∷ r.attributes;
      are = and_from _ _ a.is r.are;
      bytes = encodes-append (attribute_text a.attribute) (flat_map attribute_text r.attributes) ∙ ap₂ (λ (x y : List ℕ). x ++ y) a.bytes r.bytes;
      reads = ap₂ (λ (x : Given) (y : List Given). x ∷ y) a.reads r.reads;
    }
