-- The characters that references and texts stand for are those of XML.
use Rattle.std.proofs.Common.{◌≡◌, ℕ, true, List, [], ◌∷◌, refl}
use Rattle.std.specs.List.{list_all, AllByRecursion}
use Rattle.std.proofs.lemmas.Bool.{and_parts}
use Rattle.lexical_core.specs.Characters.{IsXmlChar}
use Rattle.markup.specs.Chars.{is_xml_char}
use Rattle.markup.specs.Reference.{Reference, Named, Numbered, Ampersand, Less, Greater, Apostrophe, Quote, is_reference, referred_character}
use Rattle.markup.proofs.CharLemmas.{classes}

pub all_chars : (cs : List ℕ) → list_all is_xml_char cs ≡ true → AllByRecursion IsXmlChar cs
all_chars [] h = tt
all_chars (c ∷ cs) h = let p = and_parts _ _ h in ((classes.xml c).0 p.0, all_chars cs p.1)

pub referred_is_xml : (r : Reference) → is_reference r ≡ true → is_xml_char (referred_character r) ≡ true
unfolding is_xml_char
referred_is_xml (Named Ampersand) h = refl
referred_is_xml (Named Less) h = refl
referred_is_xml (Named Greater) h = refl
referred_is_xml (Named Apostrophe) h = refl
referred_is_xml (Named Quote) h = refl
referred_is_xml (Numbered radix digits) h = (and_parts _ _ h).1

pub blank_is_xml : is_xml_char 32 ≡ true
unfolding is_xml_char
blank_is_xml = refl
