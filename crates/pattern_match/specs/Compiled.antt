-- What a pattern is compiled to, and the marks of a matcher behind a word: the state of a machine. The contracts of private functions alone cite it,
-- but for HasRead and IsMadeFor: what the public ones say that a matcher has read, and with which pattern.
use Rattle.std.specs.Prelude.{ℕ, ◌≡◌, ◌+◌, Bool, true, false, Some, List, [], ◌∷◌, length, replicate}
use Rattle.std.specs.Str.{chars}
use Rattle.pattern_match.specs.Token.{admits}
use Rattle.pattern_match.specs.Tokens.{emit_tokens}
use Rattle.pattern_match.specs.Building.{built_whole, position_limit}
use Rattle.pattern_match.specs.Marking.{first_pass, second_pass}
use Rattle.pattern_match.specs.Recall.{Matching, reached_marks, IsRightTable, IsRow}
use Rattle.pattern_match.specs.Marks.{Walk, IsDone}
use Rattle.pattern_match.specs.Reading.{HasPositionsWithin}
use Rattle.pattern_match.specs.declared.control.Control.TheVariants.{Start}
use Rattle.pattern_match.specs.declared.instruction.Instruction.{Instruction}
use Rattle.pattern_match.specs.declared.token.Token.{Token}

-- the tokens of a text, and their code
abbrev pub tokens_of_text : List ℕ → List Token
tokens_of_text text = emit_tokens (Some Start) text

-- the code of the tokens of a text
abbrev pub code_of_text : List ℕ → List Instruction
code_of_text text = (built_whole (tokens_of_text text)).code

-- the bytes are the text of a pattern that is not too large, with these tokens and this code
pub record IsCompiled (bytes : List ℕ) (tokens : List Token) (code : List Instruction) : Type 0 where
  pub pattern : HasPositionsWithin (chars bytes) position_limit
  pub tokens_are : tokens ≡ tokens_of_text (chars bytes)
  pub code_is : code ≡ code_of_text (chars bytes)

-- the marks before the first character
abbrev pub first_marks : List Instruction → List Bool
first_marks code = second_pass code (replicate (length code + 1) false) true []

-- the marks behind one more character
abbrev pub next_marks : List Token → List Instruction → ℕ → List Bool → List Bool
next_marks tokens code c marks = second_pass code (first_pass (λ at. admits tokens at c) code marks false []) false []

-- the marks behind more characters
abbrev pub marks_from : List Token → List Instruction → List Bool → List ℕ → List Bool
marks_from tokens code marks [] = marks
marks_from tokens code marks (c ∷ w) = marks_from tokens code (next_marks tokens code c marks) w

-- the marks are those behind the word, of the pattern of the text
pub record IsMarked (bytes : List ℕ) (marks : List Bool) (w : List ℕ) : Type 0 where
  pub marks_are : marks ≡ marks_from (tokens_of_text (chars bytes)) (code_of_text (chars bytes)) (first_marks (code_of_text (chars bytes))) w

-- the marks that follow by a character, in the pattern of the text
abbrev pub follows : List ℕ → ℕ → List Bool → List Bool
follows bytes c marks = next_marks (tokens_of_text (chars bytes)) (code_of_text (chars bytes)) c marks

-- the marks before the first character, of the pattern of the text
pub record IsStart (bytes : List ℕ) (start : Walk) : Type 0 where
  pub done : IsDone (code_of_text (chars bytes)) start
  pub marks : start.cells ≡ first_marks (code_of_text (chars bytes))

-- the matcher has read the word with the pattern of the text, what it remembers is right, and its marks are those of the pattern's code
pub record HasReadWord (bytes : List ℕ) (matcher : Matching) (w : List ℕ) : Type 0 where
  pub marked : IsMarked bytes (reached_marks matcher) w
  pub table : IsRightTable (follows bytes) matcher.known
  pub at : IsRow matcher.known matcher.at (reached_marks matcher)
  pub first : IsRow matcher.known matcher.first (first_marks (code_of_text (chars bytes)))
  pub done : IsDone (code_of_text (chars bytes)) matcher.walk
  pub start : IsStart bytes matcher.start

-- the matcher was made for the pattern of the text: it has read some word with it
abbrev pub IsMadeFor : List ℕ → Matching → Type 0
IsMadeFor bytes matcher = (w : List ℕ) × HasReadWord bytes matcher w
