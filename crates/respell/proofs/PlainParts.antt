-- The names, values and characters of tokens are those of XML.
use Rattle.std.proofs.Common.{◌≡◌, ℕ, Bool, true, false, ◌==◌, ◌&&◌, List, [], ◌∷◌, refl, if◌then◌else◌}
use Rattle.std.specs.Prelude.{encode_utf8_all}
use Rattle.std.specs.List.{list_all, AllByRecursion}
use Rattle.std.proofs.lemmas.Bool.{and_parts}
use Rattle.lexical_core.specs.Characters.{IsXmlChar, IsNameChar, IsXmlText}
use Rattle.markup.specs.Chars.{is_xml_char, is_space, is_name_char}
use Rattle.markup.specs.Name.{Name, Plain, Prefixed, is_part, is_name}
use Rattle.markup.specs.Reference.{is_reference, referred_character}
use Rattle.markup.specs.Attribute.{ValuePiece, Literal, Refers, is_piece, value_chars, begins_lf}
use Rattle.markup.specs.Events.{spelled_name}
use Rattle.markup.proofs.AttributeLemmas.{literal_facts}
use Rattle.markup.proofs.CharLemmas.{classes}
use Rattle.markup.proofs.PlainCharacters.{referred_is_xml, blank_is_xml}
use Rattle.fragments.specs.Plain.{IsPart}

all_names : (cs : List ℕ) → list_all is_name_char cs ≡ true → AllByRecursion IsNameChar cs
all_names [] h = tt
all_names (c ∷ cs) h = let p = and_parts _ _ h in ((classes.name c).0 p.0, all_names cs p.1)

part_is : (cs : List ℕ) → is_part cs ≡ true → IsPart (encode_utf8_all cs)
part_is [] h = absurd cc
part_is (c ∷ cs) h = let p = and_parts _ _ h in record { first = c; others = cs; start = (classes.start c).0 p.0; more = all_names cs p.1; spelled = refl }

-- the local part of a name
pub local_is_part : (n : Name) → is_name n ≡ true → IsPart (spelled_name n).local
local_is_part (Plain l) h = part_is l h
local_is_part (Prefixed p l) h = part_is l (and_parts _ _ h).1

pub line_feed_is_xml : is_xml_char 10 ≡ true
unfolding is_xml_char
line_feed_is_xml = refl

value_is_xml : (quote : ℕ) (ps : List ValuePiece) → list_all (is_piece quote) ps ≡ true → AllByRecursion IsXmlChar (value_chars ps)
value_is_xml quote [] h = tt
value_is_xml quote (Refers r ∷ ps) h = let p = and_parts (is_reference r) _ h in ((classes.xml (referred_character r)).0 (referred_is_xml r p.0), value_is_xml quote ps p.1)
value_is_xml quote (Literal c ∷ ps) h =
    let p = and_parts (is_piece quote (Literal c)) _ h in
    step (c == 13 && begins_lf ps) (is_space c) c (value_chars ps) (literal_facts quote c p.0).xml (value_is_xml quote ps p.1)
  where
    step : (b s : Bool) (c : ℕ) (cs : List ℕ) → is_xml_char c ≡ true → AllByRecursion IsXmlChar cs → AllByRecursion IsXmlChar (if b then cs else (if s then 32 else c) ∷ cs)
    step true s c cs x h = h
    step false true c cs x h = ((classes.xml 32).0 blank_is_xml, h)
    step false false c cs x h = ((classes.xml c).0 x, h)

-- the value of an attribute
pub value_is_text : (quote : ℕ) (ps : List ValuePiece) → list_all (is_piece quote) ps ≡ true → IsXmlText (encode_utf8_all (value_chars ps))
value_is_text quote ps h = (value_chars ps, value_is_xml quote ps h, refl)
