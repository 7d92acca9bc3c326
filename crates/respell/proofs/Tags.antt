-- The tags of an element of a fragment, as tokens.
use Rattle.std.proofs.Common.{◌≡◌, ℕ, ◌≤◌, length, true, false, List, [], ◌∷◌, ◌++◌, drop, refl, ap, ap₂, ◌∙◌, Option, None, append_assoc, append-nil}
use Rattle.std.specs.Prelude.{◌↔◌, codes, encode_utf8_all}
use Rattle.std.specs.List.{flat_map}
use Rattle.std.proofs.lemmas.Str.{encodes-append}
use Rattle.lexical_core.specs.Tree.{Expanded, Entry, Starts, Ends}
use Rattle.lexical_core.proofs.EqualBytes.{bytes_equal}
use Rattle.markup.specs.declared.tag.Spelled.{Spelled}
use Rattle.markup.specs.declared.tag.Given.{Given}
use Rattle.markup.specs.declared.tag.Opening.{Opening}
use Rattle.markup.specs.Attribute.{attribute_text}
use Rattle.markup.specs.Name.{name_text}
use Rattle.markup.specs.Token.{Token, Start, End, StartTag, token_bytes}
use Rattle.markup.specs.Marks.{stands, in_cdata, is_short}
use Rattle.markup.specs.Events.{items_of, open_tags, opening, start_items}
use Rattle.markup.specs.Faults.{rule_of, is_over, start_rule}
use Rattle.fragments.specs.Plain.{IsPlainName, ArePlainEntries}
use Rattle.fragments.specs.Fragment.{element_spelling, tag_contents, start_text, end_text}
use Rattle.respell.proofs.Runs.{short_text}
use Rattle.respell.proofs.Names.{name_of}
use Rattle.respell.proofs.Attributes.{attributes_of}
use Rattle.respell.proofs.Writable.{element_spells, contents_written}
use Rattle.respell.proofs.TagNames.{opening_of, Knows, element_is}
use Rattle.respell.proofs.TagEntries.{entries_are}
use Rattle.respell.proofs.TagRules.{start_clean}

-- the start tag of an element, as a token
pub record HasStart (before : List Token) (default : Option (List ℕ)) (name : Expanded) (attributes : List Entry) : Type 0 where
  pub token : Token
  pub bytes : token_bytes token ≡ start_text default name attributes
  pub stand : (rest : List ℕ) → stands before token rest ≡ true
  pub rule : rule_of before token ≡ None
  pub items : items_of before token ≡ Starts name attributes ∷ []
  pub tags : open_tags (token ∷ before) ≡ opening_of default name attributes ∷ open_tags before
  pub short : (limit : ℕ) → (length (start_text default name attributes) ≤ limit) ↔ (is_short limit token ≡ true)
  pub cdata : in_cdata (token ∷ before) ≡ in_cdata before

tag_bytes : (n a : List ℕ) → encode_utf8_all (codes "<" ++ n ++ a ++ [] ++ codes ">") ≡ 60 ∷ encode_utf8_all n ++ (encode_utf8_all a ++ 62 ∷ [])
unfolding lib.Utf8.encode
tag_bytes n a =
    let flat : (((n ++ a) ++ []) ++ 62 ∷ []) ≡ n ++ (a ++ 62 ∷ []) = rw (append-nil (n ++ a)) (append_assoc n a (62 ∷ [])) in
    ap (λ (l : List ℕ). 60 ∷ l) (ap encode_utf8_all flat ∙ (encodes-append n (a ++ 62 ∷ []) ∙ ap (λ (l : List ℕ). encode_utf8_all n ++ l) (encodes-append a (62 ∷ []))))

pub start_of : (before : List Token) (tags : List Opening) (default : Option (List ℕ)) (name : Expanded) (attributes : List Entry)
    → in_cdata before ≡ false → open_tags before ≡ tags → is_over before ≡ false → Knows tags default → IsPlainName name → ArePlainEntries attributes → HasStart before default name attributes
start_of before tags default name attributes cdata are over k p q =
    let n = name_of (element_spelling name) (element_spells name p) in
    let a = attributes_of (tag_contents default name attributes) (contents_written default name attributes p q.0) in
    let tag : StartTag = record { name = n.name; attributes = a.attributes; gap = []; is_empty = false } in
    let op : opening tag ≡ opening_of default name attributes = ap₂ (λ (x : Spelled) (y : List Given). record { name = x; given = y; is_empty = false }) n.reads a.reads in
    let b : token_bytes (Start tag) ≡ start_text default name attributes = tag_bytes (name_text n.name) (flat_map attribute_text a.attributes) ∙ ap₂ (λ (x y : List ℕ). 60 ∷ x ++ (y ++ 62 ∷ [])) n.bytes a.bytes in
    record {
      token = Start tag;
      bytes = b;
      short = λ limit. short_text limit (token_bytes (Start tag)) (start_text default name attributes) b;
      stand = λ rest. rw (cdata, n.is, a.are) refl;
      rule = ap (λ (o : Opening). start_rule (is_over before) (open_tags before) o) op ∙ rw (over, are) (start_clean default name attributes tags p q k);
      items = ap (λ (o : Opening). start_items (open_tags before) o) op ∙ rw are (rw (element_is default name attributes tags q.0 k, entries_are default name attributes tags q k) refl);
      tags = ap (λ (o : Opening). o ∷ open_tags before) op;
      cdata = refl;
    }

-- its end tag
pub record HasEnd (before : List Token) (tags : List Opening) (name : Expanded) : Type 0 where
  pub token : Token
  pub bytes : token_bytes token ≡ end_text name
  pub stand : (rest : List ℕ) → stands before token rest ≡ true
  pub rule : rule_of before token ≡ None
  pub items : items_of before token ≡ Ends name ∷ []
  pub tags_are : open_tags (token ∷ before) ≡ tags
  pub short : (limit : ℕ) → (length (end_text name) ≤ limit) ↔ (is_short limit token ≡ true)
  pub cdata : in_cdata (token ∷ before) ≡ in_cdata before

end_bytes : (n : List ℕ) → encode_utf8_all (codes "</" ++ n ++ [] ++ codes ">") ≡ 60 ∷ 47 ∷ encode_utf8_all n ++ 62 ∷ []
unfolding lib.Utf8.encode
end_bytes n =
    let flat : ((n ++ []) ++ 62 ∷ []) ≡ n ++ 62 ∷ [] = rw (append-nil n) refl in
    ap (λ (l : List ℕ). 60 ∷ 47 ∷ l) (ap encode_utf8_all flat ∙ encodes-append n (62 ∷ []))

pub end_of : (before : List Token) (tags : List Opening) (default : Option (List ℕ)) (name : Expanded) (attributes : List Entry)
    → in_cdata before ≡ false → open_tags before ≡ opening_of default name attributes ∷ tags → Knows tags default → IsPlainName name → ArePlainEntries attributes → HasEnd before tags name
end_of before tags default name attributes cdata are k p q =
    let n = name_of (element_spelling name) (element_spells name p) in
    let b : token_bytes (End n.name []) ≡ end_text name = end_bytes (name_text n.name) ∙ ap (λ (x : List ℕ). 60 ∷ 47 ∷ x ++ 62 ∷ []) n.bytes in record {
      token = End n.name [];
      bytes = b;
      short = λ limit. short_text limit (token_bytes (End n.name [])) (end_text name) b;
      stand = λ rest. rw (cdata, n.is) refl;
      rule = rw (n.reads, are, bytes_equal (element_spelling name).prefix (element_spelling name).prefix refl, bytes_equal name.local name.local refl) refl;
      items = rw are (rw (element_is default name attributes tags q.0 k) refl);
      tags_are = ap (λ (l : List Opening). drop 1 l) are;
      cdata = refl;
    }
