-- The fixed words of tokens.
use Rattle.std.specs.Prelude.{ℕ, List, codes, Option, slice_get}
use Rattle.markup.specs.declared.word.Word.{Word}
use Rattle.markup.specs.declared.word.Word.TheVariants.{Cdata, Doctype, Ampersand, Less, Greater, Apostrophe, Quote, Version, Encoding, Standalone, One, Utf8, Yes, No}

-- the word's letters
abbrev pub word_text : Word → List ℕ
word_text Cdata = codes "CDATA["
word_text Doctype = codes "DOCTYPE"
word_text Ampersand = codes "amp"
word_text Less = codes "lt"
word_text Greater = codes "gt"
word_text Apostrophe = codes "apos"
word_text Quote = codes "quot"
word_text Version = codes "version"
word_text Encoding = codes "encoding"
word_text Standalone = codes "standalone"
word_text One = codes "1.0"
word_text Utf8 = codes "utf-8"
word_text Yes = codes "yes"
word_text No = codes "no"

-- the letter at that place
abbrev pub letter_of : Word → ℕ → Option ℕ
letter_of w at = slice_get (word_text w) at
