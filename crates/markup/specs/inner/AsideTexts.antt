-- Texts of comments and instructions up to their ends, and whole tokens that tell only that something is skipped.
use Rattle.std.specs.Prelude.{◌≡◌, ℕ, Bool, ◌+◌, ◌&&◌, not, true, List, [], ◌∷◌, ◌++◌, length, encode_utf8_all}
use Rattle.std.specs.List.{list_all}
use Rattle.markup.specs.Ascii.{is_ascii, hyphen_minus, greater_than, question_mark}
use Rattle.markup.specs.Chars.{is_space}
use Rattle.markup.specs.Token.{Token, is_comment, is_instruction_text, is_xml_word, token_bytes}
use Rattle.markup.specs.PlainTags.{is_plain_name}
use Rattle.markup.specs.Asides.{is_aside_in}
use Rattle.markup.specs.inner.ScanRuns.{ended_of}
use Rattle.markup.specs.inner.Contexts.{without_brackets}
use Rattle.markup.specs.inner.Tokenizers.{behind_token}
use Rattle.markup.specs.declared.classes.Passed.{Passed}
use Rattle.markup.specs.declared.classes.Passed.TheVariants.{Comment, Instruction}
use Rattle.markup.specs.declared.reader.Reader.{Reader}
use Rattle.markup.specs.declared.scan.Ended.{Ended}
use Rattle.markup.specs.declared.scan.Scan.TheVariants.{Begin}
use Rattle.markup.specs.declared.tokenizer.Tokenizer.{Tokenizer}

-- the end of a comment (XML 1.0 §2.5)
abbrev pub comment_end : List ℕ
comment_end = hyphen_minus ∷ hyphen_minus ∷ greater_than ∷ []

-- that of an instruction (XML 1.0 §2.6)
abbrev pub instruction_end : List ℕ
instruction_end = question_mark ∷ greater_than ∷ []

-- of either
abbrev pub text_end : Passed → List ℕ
text_end Comment = comment_end
text_end Instruction = instruction_end

-- the text of either
abbrev pub is_text_of : Passed → List ℕ → Bool
is_text_of Comment = is_comment
is_text_of Instruction = is_instruction_text

-- behind what its end begins with, this byte does not come in the text
abbrev pub behind_mark : Passed → ℕ
behind_mark Comment = hyphen_minus
behind_mark Instruction = greater_than

-- what stands between a target and the end: nothing, or a text that begins with white space (XML 1.0 §2.6, PI)
abbrev pub is_behind_target : List ℕ → Bool
is_behind_target [] = true
is_behind_target (c ∷ text) = is_space c && is_instruction_text (c ∷ text)

-- a target that is a plain name (XML 1.0 §2.6, PITarget)
abbrev pub is_plain_target : List ℕ → Bool
is_plain_target target = is_plain_name target && not (is_xml_word target)

-- The bytes are such a text, then its end, and then what stands behind.
pub record IsTextEnded (is : List ℕ → Bool) (end bytes text after : List ℕ) : Type 0 where
  pub allowed : is text ≡ true
  pub spelled : bytes ≡ encode_utf8_all text ++ (end ++ after)

-- Where what is left is such a text so is the whole, and where the whole is one in ASCII so is what is left, with the same end.
pub record LeadsToEnd (is : List ℕ → Bool) (end piece left : List ℕ) : Type 0 where
  pub back : (text after : List ℕ) → IsTextEnded is end left text after → (whole : List ℕ) × IsTextEnded is end piece whole after
  pub on : (text after : List ℕ) → list_all is_ascii text ≡ true → IsTextEnded is end piece text after → (others : List ℕ) × (list_all is_ascii others ≡ true) × IsTextEnded is end left others after

-- So many bytes at the front of the piece are such a text with its end.
pub record IsEndedTextAt (is : List ℕ → Bool) (end piece : List ℕ) (size : ℕ) : Type 0 where
  pub text : List ℕ
  pub after : List ℕ
  pub ended : IsTextEnded is end piece text after
  pub size_is : size + length after ≡ length piece

-- So many bytes at the front of the piece are a token that tells only that something is skipped, in a CDATA section or outside.
pub record IsAsideAt (cdata : Bool) (piece : List ℕ) (ended : Ended) (size : ℕ) : Type 0 where
  pub token : Token
  pub after : List ℕ
  pub is : is_aside_in cdata token ≡ true
  pub ended_is : ended_of token ≡ ended
  pub spelled : piece ≡ token_bytes token ++ after
  pub size_is : size ≡ length (token_bytes token)

-- a token of so many bytes has come where none was open
abbrev pub after_token : Tokenizer → Ended → ℕ → Tokenizer
after_token z e n = record { alloc = z.alloc; limit = z.limit; utf8 = z.utf8; position = behind_token z.position e; scan = Begin (behind_token z.position e); draft = z.draft; start = z.place + n; place = z.place + n }

-- and the reader behind it, where it is no `]`
abbrev pub passed_aside : Reader → Ended → ℕ → Reader
passed_aside r e n = record { tokenizer = after_token r.tokenizer e n; context = without_brackets r.context; failed = r.failed }
