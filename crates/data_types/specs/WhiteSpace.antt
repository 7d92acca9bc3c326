-- White space collapsed: XML Schema part 2 §4.3.6.
use Rattle.std.specs.Prelude.{◌≡◌, ℕ, ◌<◌, List, [], ◌∷◌, ◌++◌, length, map, flat_map}
use Rattle.std.specs.List.{AllByRecursion}
use Rattle.lexical_core.specs.Characters.{IsSpace}

-- some characters, none of them white space
pub record IsWord (word : List ℕ) : Type 0 where
  pub some : 0 < length word
  pub no_space : AllByRecursion (λ c. IsSpace c → ⊥) word

-- a word with the white space before it
pub record SpacedWord : Type 0 where
  pub gap : List ℕ
  pub word : List ℕ

-- a word after others: there is white space before it
pub record IsLaterPart (part : SpacedWord) : Type 0 where
  pub some : 0 < length part.gap
  pub gap : AllByRecursion IsSpace part.gap
  pub word : IsWord part.word

-- the words of a text: only the first may have no white space before it
abbrev pub AreSpacedWords : List SpacedWord → Type 0
AreSpacedWords [] = Unit {0}
AreSpacedWords (part ∷ parts) = AllByRecursion IsSpace part.gap × IsWord part.word × AllByRecursion IsLaterPart parts

abbrev pub spaced_word_text : SpacedWord → List ℕ
spaced_word_text part = part.gap ++ part.word

-- the words with one space between each two
abbrev pub join_words : List (List ℕ) → List ℕ
join_words [] = []
join_words (word ∷ []) = word
join_words (word ∷ next ∷ words) = word ++ (32 ∷ join_words (next ∷ words))

abbrev pub words_of : List SpacedWord → List (List ℕ)
words_of parts = map (λ (part : SpacedWord). part.word) parts

-- the second text is the first one collapsed: its words, with white space before each and behind the last
abbrev pub IsCollapsed : List ℕ → List ℕ → Type 0
IsCollapsed text collapsed =
    (parts : List SpacedWord) × (rest : List ℕ) × AreSpacedWords parts × AllByRecursion IsSpace rest × (text ≡ flat_map spaced_word_text parts ++ rest)
    × (collapsed ≡ join_words (words_of parts))
