-- A text has one collapsed text, and a text without white space is its own.
use Rattle.std.proofs.Common.{◌≡◌, ℕ, ◌<◌, List, [], ◌∷◌, ◌++◌, length, flat_map, refl, sym, ap, ◌∙◌, arith, append_assoc, Bool, true, false, cond, ◌||◌, ◌==◌}
use Rattle.std.proofs.lemmas.List.{append-nil}
use Rattle.std.proofs.lemmas.Bool.Decides.{nat_tests}
use Rattle.std.specs.List.{AllByRecursion}
use Rattle.lexical_core.specs.Characters.{IsSpace}
use Rattle.data_types.specs.WhiteSpace.{IsWord, SpacedWord, IsLaterPart, AreSpacedWords, spaced_word_text, join_words, words_of, IsCollapsed}

-- the white space characters, as a test
space : ℕ → Bool
space c = (c == 32) || ((c == 9) || ((c == 10) || (c == 13)))

space_true : (c : ℕ) → IsSpace c → space c ≡ true
unfolding space
space_true c h = grind (arith, nat_tests)

space_false : (c : ℕ) → (IsSpace c → ⊥) → space c ≡ false
unfolding space
space_false c h = grind (arith, nat_tests)

-- what a text collapses to: before the first word, within one, and behind one
abbrev mutual
  before : List ℕ → List ℕ
  before [] = []
  before (c ∷ cs) = cond (space c) (before cs) (c ∷ within cs)

  within : List ℕ → List ℕ
  within [] = []
  within (c ∷ cs) = cond (space c) (behind cs) (c ∷ within cs)

  behind : List ℕ → List ℕ
  behind [] = []
  behind (c ∷ cs) = cond (space c) (behind cs) (32 ∷ c ∷ within cs)

before_spaces : (gap more : List ℕ) → AllByRecursion IsSpace gap → before (gap ++ more) ≡ before more
before_spaces [] more all = refl
before_spaces (c ∷ gap) more all = ap (λ b. cond b (before (gap ++ more)) (c ∷ within (gap ++ more))) (space_true c all.0) ∙ before_spaces gap more all.1

behind_spaces : (gap more : List ℕ) → AllByRecursion IsSpace gap → behind (gap ++ more) ≡ behind more
behind_spaces [] more all = refl
behind_spaces (c ∷ gap) more all = ap (λ b. cond b (behind (gap ++ more)) (32 ∷ c ∷ within (gap ++ more))) (space_true c all.0) ∙ behind_spaces gap more all.1

within_spaces : (gap more : List ℕ) → 0 < length gap → AllByRecursion IsSpace gap → within (gap ++ more) ≡ behind more
within_spaces [] more some all = absurd (omega (arith, some))
within_spaces (c ∷ gap) more some all = ap (λ b. cond b (behind (gap ++ more)) (c ∷ within (gap ++ more))) (space_true c all.0) ∙ behind_spaces gap more all.1

within_word : (word more : List ℕ) → AllByRecursion (λ c. IsSpace c → ⊥) word → within (word ++ more) ≡ word ++ within more
within_word [] more all = refl
within_word (c ∷ word) more all = ap (λ b. cond b (behind (word ++ more)) (c ∷ within (word ++ more))) (space_false c all.0) ∙ ap (λ t. c ∷ t) (within_word word more all.1)

before_word : (word more : List ℕ) → IsWord word → before (word ++ more) ≡ word ++ within more
before_word [] more is = absurd (let some = is.some in omega (arith, some))
before_word (c ∷ word) more is = ap (λ b. cond b (before (word ++ more)) (c ∷ within (word ++ more))) (space_false c is.no_space.0) ∙ ap (λ t. c ∷ t) (within_word word more is.no_space.1)

behind_word : (word more : List ℕ) → IsWord word → behind (word ++ more) ≡ 32 ∷ word ++ within more
behind_word [] more is = absurd (let some = is.some in omega (arith, some))
behind_word (c ∷ word) more is = ap (λ b. cond b (behind (word ++ more)) (32 ∷ c ∷ within (word ++ more))) (space_false c is.no_space.0) ∙ ap (λ t. 32 ∷ c ∷ t) (within_word word more is.no_space.1)

-- the rest behind the last word gives nothing
within_rest : (rest : List ℕ) → AllByRecursion IsSpace rest → within rest ≡ []
within_rest [] all = refl
within_rest (c ∷ rest) all =
    ap (λ b. cond b (behind rest) (c ∷ within rest)) (space_true c all.0) ∙ (ap behind (sym (append-nil rest)) ∙ behind_spaces rest [] all.1)

-- the words after the first, each with a space before it
later_words : List SpacedWord → List ℕ
later_words [] = []
later_words (part ∷ parts) = 32 ∷ part.word ++ later_words parts

within_parts : (parts : List SpacedWord) (rest : List ℕ) → AllByRecursion IsLaterPart parts → AllByRecursion IsSpace rest
    → within (flat_map spaced_word_text parts ++ rest) ≡ later_words parts
unfolding later_words
within_parts [] rest all spaces = within_rest rest spaces
within_parts (part ∷ parts) rest all spaces =
    let more = flat_map spaced_word_text parts ++ rest in
    ap within (append_assoc (part.gap ++ part.word) (flat_map spaced_word_text parts) rest ∙ append_assoc part.gap part.word more)
    ∙ (within_spaces part.gap (part.word ++ more) all.0.some all.0.gap
    ∙ (behind_word part.word more all.0.word
    ∙ ap (λ t. 32 ∷ part.word ++ t) (within_parts parts rest all.1 spaces)))

joined_words : (part : SpacedWord) (parts : List SpacedWord) → join_words (words_of (part ∷ parts)) ≡ part.word ++ later_words parts
unfolding later_words
joined_words part [] = sym (append-nil part.word)
joined_words part (next ∷ parts) = ap (λ t. part.word ++ 32 ∷ t) (joined_words next parts)

before_parts : (parts : List SpacedWord) (rest : List ℕ) → AreSpacedWords parts → AllByRecursion IsSpace rest
    → before (flat_map spaced_word_text parts ++ rest) ≡ join_words (words_of parts)
before_parts [] rest are spaces = ap before (sym (append-nil rest)) ∙ before_spaces rest [] spaces
before_parts (part ∷ parts) rest are spaces =
    let more = flat_map spaced_word_text parts ++ rest in
    ap before (append_assoc (part.gap ++ part.word) (flat_map spaced_word_text parts) rest ∙ append_assoc part.gap part.word more)
    ∙ (before_spaces part.gap (part.word ++ more) are.0
    ∙ (before_word part.word more are.1
    ∙ (ap (λ t. part.word ++ t) (within_parts parts rest are.2 spaces) ∙ sym (joined_words part parts))))

collapsed_is : (text collapsed : List ℕ) → IsCollapsed text collapsed → collapsed ≡ before text
collapsed_is text collapsed (parts, rest, are, spaces, spelled, joined_is) =
    joined_is ∙ (sym (before_parts parts rest are spaces) ∙ ap before (sym spelled))

pub one_collapsed : (text one two : List ℕ) → IsCollapsed text one → IsCollapsed text two → one ≡ two
one_collapsed text one two a b = collapsed_is text one a ∙ sym (collapsed_is text two b)

-- a text without white space is its own collapsed text
pub own_collapsed : (text : List ℕ) → AllByRecursion (λ c. IsSpace c → ⊥) text → IsCollapsed text text
own_collapsed [] all = ([], [], tt, tt, refl, refl)
own_collapsed (c ∷ cs) all =
    let part : SpacedWord = record { gap = []; word = c ∷ cs } in
    let is : IsWord (c ∷ cs) = record { some = omega arith; no_space = all } in
    (part ∷ [], [], (tt, is, tt), tt, sym (append-nil _ ∙ append-nil _), refl)
