-- Facts on the tables of characters.
use Rattle.std.proofs.Common.{◌≡◌, ℕ, true, List, [], ◌∷◌, ◌++◌, inl, inr, refl, arith}
use Rattle.std.proofs.lemmas.Bool.Decides.{nat_tests}
use Rattle.std.specs.Char.{IsScalar}
use Rattle.std.specs.List.{AllByRecursion}
use Rattle.std.specs.Str.{IsUtf8}
use Rattle.std.proofs.Math.Utf8.{scalars}
use Rattle.lexical_core.specs.Characters.{IsXmlChar, IsXmlText}

-- a character of XML is no surrogate
pub IsScalar-xml_char : (c : ℕ) → IsXmlChar c → IsScalar c
IsScalar-xml_char c (inl h) = grind (arith, nat_tests)
IsScalar-xml_char c (inr (inl h)) = grind (arith, nat_tests)
IsScalar-xml_char c (inr (inr (inl h))) = grind (arith, nat_tests)
IsScalar-xml_char c (inr (inr (inr (inl h)))) = grind (arith, nat_tests)
IsScalar-xml_char c (inr (inr (inr (inr (inl h))))) = grind (arith, nat_tests)
IsScalar-xml_char c (inr (inr (inr (inr (inr h))))) = absurd h

xml_scalars : (cs : List ℕ) → AllByRecursion IsXmlChar cs → scalars cs ≡ true
xml_scalars [] h = refl
xml_scalars (c ∷ cs) (first, rest) = rw (IsScalar-xml_char c first) (xml_scalars cs rest)

-- a text of XML is UTF-8
pub xml_text_is_utf8 : (text : List ℕ) → IsXmlText text → IsUtf8 text
xml_text_is_utf8 text (cs, all, spelled) = (cs, (xml_scalars cs all, spelled))

pub chars_joined : (cs ds : List ℕ) → AllByRecursion IsXmlChar cs → AllByRecursion IsXmlChar ds → AllByRecursion IsXmlChar (cs ++ ds)
chars_joined [] ds h g = g
chars_joined (c ∷ cs) ds h g = (h.0, chars_joined cs ds h.1 g)
