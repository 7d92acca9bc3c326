-- What is kept of a text while its white space is collapsed.
use Rattle.std.specs.Prelude.{◌≡◌, ℕ, Bool, true, false, ◌<◌, ◌⊎◌, List, [], ◌∷◌, ◌++◌, length, flat_map}
use Rattle.std.specs.List.{AllByRecursion}
use Rattle.lexical_core.specs.Characters.{IsSpace}
use Rattle.data_types.specs.declared.collapse.Collapsed.{Collapsed}
use Rattle.data_types.specs.declared.collapse.Collapsed.TheVariants.{Nothing, Char, SpaceAndChar}
use Rattle.data_types.specs.declared.collapse.Place.{Place}
use Rattle.data_types.specs.declared.collapse.Place.TheVariants.{Before, Within, Behind}
use Rattle.data_types.specs.declared.collapse.Collapse.{Collapse}
use Rattle.data_types.specs.WhiteSpace.{IsWord, SpacedWord, AreSpacedWords, spaced_word_text, join_words, words_of}

-- the characters that the collapsed text gains at this character
abbrev pub gain_of : Collapsed → ℕ → List ℕ
gain_of Nothing c = []
gain_of Char c = c ∷ []
gain_of SpaceAndChar c = 32 ∷ c ∷ []

-- the space that a word has before it, where it has one
abbrev pub gap_text : Bool → List ℕ
gap_text true = 32 ∷ []
gap_text false = []

-- the whole words so far, and the white space after them
pub record HasWords (text collapsed : List ℕ) (parts : List SpacedWord) (rest : List ℕ) : Type 0 where
  pub are : AreSpacedWords parts
  pub spaces : AllByRecursion IsSpace rest
  pub spelled : text ≡ flat_map spaced_word_text parts ++ rest
  pub joined_is : collapsed ≡ join_words (words_of parts)

-- the same, with a word that is begun
pub record HasWord (text collapsed : List ℕ) (parts : List SpacedWord) (gap word : List ℕ) : Type 0 where
  pub are : AreSpacedWords parts
  pub spaces : AllByRecursion IsSpace gap
  pub apart : (parts ≡ []) ⊎ (0 < length gap)
  pub is_word : IsWord word
  pub spelled : text ≡ flat_map spaced_word_text parts ++ (gap ++ word)
  pub joined_is : collapsed ≡ join_words (words_of parts ++ word ∷ [])

abbrev pub HasCollapsedAt : Place → List ℕ → List ℕ → Type 0
HasCollapsedAt Before text collapsed = AllByRecursion IsSpace text × (collapsed ≡ [])
HasCollapsedAt Within text collapsed = (parts : List SpacedWord) × (gap : List ℕ) × (word : List ℕ) × HasWord text collapsed parts gap word
HasCollapsedAt Behind text collapsed =
    (parts : List SpacedWord) × (rest : List ℕ) × HasWords text collapsed parts rest × (0 < length parts) × (0 < length rest)

-- the reader was given the first text, and gave the second
abbrev pub HasCollapsed : Collapse → List ℕ → List ℕ → Type 0
HasCollapsed s text collapsed = HasCollapsedAt s.place text collapsed
