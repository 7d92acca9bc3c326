-- The texts of the built-in repository are texts of XML.
use Rattle.std.proofs.Common.{◌≡◌, ℕ, ◌≤◌, Bool, true, false, List, [], ◌∷◌, All, refl, arith, inl}
use Rattle.std.specs.Prelude.{nat_le, ◌&&◌}
use Rattle.std.specs.List.{AllByRecursion, list_all}
use Rattle.std.specs.Str.{encode_utf8_all}
use Rattle.std.proofs.lemmas.Bool.Decides.{nat_tests}
use Rattle.std.proofs.lemmas.List.Elements.{All-from_recursion}
use Rattle.std.proofs.lemmas.Str.{encode_ascii}
use Rattle.lexical_core.specs.Characters.{IsXmlChar, IsXmlText}
use Rattle.repo_objects.specs.Objects.{HasObjectTexts, HasMessageTexts, HasElementTexts, HasCodeTexts}
use Rattle.drill.specs.BuiltIn.{text_id, node_id, text_object, node_object, tree_message, name_element, child_element, node_block}

-- a character of ASCII that is seen, or the space
abbrev is_plain : ℕ → Bool
is_plain c = nat_le 32 c && nat_le c 126

both : (a b : Bool) → a && b ≡ true → (a ≡ true) × (b ≡ true)
both true b h = (refl, h)
both false b h = absurd cc

plain_bounds : (c : ℕ) → is_plain c ≡ true → (32 ≤ c) × (c ≤ 126)
plain_bounds c h = grind (arith, nat_tests)

plain_chars : (cs : List ℕ) → list_all is_plain cs ≡ true → AllByRecursion IsXmlChar cs
plain_chars [] h = tt
plain_chars (c ∷ cs) h =
    let parts = both (is_plain c) (list_all is_plain cs) h in
    let bounds = plain_bounds c parts.0 in
    (inl (bounds.0, omega (arith, bounds.1)), plain_chars cs parts.1)

plain_bytes : (cs : List ℕ) → list_all is_plain cs ≡ true → encode_utf8_all cs ≡ cs
plain_bytes [] h = refl
plain_bytes (c ∷ cs) h =
    let parts = both (is_plain c) (list_all is_plain cs) h in
    let bounds = plain_bounds c parts.0 in
    rw (encode_ascii c (omega (arith, bounds.1)), plain_bytes cs parts.1)

plain_text : (cs : List ℕ) → list_all is_plain cs ≡ true → IsXmlText cs
plain_text cs h = (cs, plain_chars cs h, plain_bytes cs h)

pub text_id_text : IsXmlText text_id
text_id_text = plain_text _ refl

pub node_id_text : IsXmlText node_id
node_id_text = plain_text _ refl

no_codes : All HasCodeTexts []
no_codes = All-from_recursion HasCodeTexts [] tt

pub text_texts : HasObjectTexts text_object
text_texts = record {
  name = plain_text _ refl;
  word = plain_text _ refl;
  pattern = tt;
  elements = All-from_recursion HasElementTexts [] tt;
  codes = no_codes;
  trace = tt;
  currency = tt;
}

name_texts : HasElementTexts name_element
name_texts = record { name = plain_text _ refl; tag = plain_text _ refl; simple = text_id_text; complex = tt; plain = tt }

child_texts : HasElementTexts child_element
child_texts = record { name = plain_text _ refl; tag = plain_text _ refl; simple = tt; complex = node_id_text; plain = tt }

block_texts : HasElementTexts node_block
block_texts = record { name = plain_text _ refl; tag = plain_text _ refl; simple = tt; complex = node_id_text; plain = tt }

pub node_texts : HasObjectTexts node_object
node_texts = record {
  name = plain_text _ refl;
  word = plain_text _ refl;
  pattern = tt;
  elements = All-from_recursion HasElementTexts (name_element ∷ (child_element ∷ [])) (name_texts, (child_texts, tt));
  codes = no_codes;
  trace = tt;
  currency = tt;
}

pub message_texts : HasMessageTexts tree_message
message_texts = record {
  id = plain_text _ refl;
  name = plain_text _ refl;
  tag = plain_text _ refl;
  blocks = All-from_recursion HasElementTexts (node_block ∷ []) (block_texts, tt);
}
