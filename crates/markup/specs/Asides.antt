-- Tokens that a reader takes whole and that tell only that something is skipped: comments, instructions, and the two ends of CDATA sections.
use Rattle.std.specs.Prelude.{◌≡◌, ℕ, Bool, ◌&&◌, true, false, List, reverse}
use Rattle.std.specs.List.{list_all}
use Rattle.markup.specs.Ascii.{is_ascii}
use Rattle.markup.specs.Token.{Token, Comment, Instruction, Opener, Closer, is_comment, is_instruction}
use Rattle.markup.specs.PlainTags.{is_plain_name}
use Rattle.markup.specs.Marks.{in_cdata}
use Rattle.markup.specs.Events.{Placed}
use Rattle.markup.specs.Reading.{IsInsideUnder}
use Rattle.markup.specs.declared.reader.Reader.{Reader}

-- such a token, which may stand in a CDATA section or outside (XML 1.0 §2.5, §2.6, §2.7)
abbrev pub is_aside_in : Bool → Token → Bool
is_aside_in false (Comment text) = is_comment text
is_aside_in false (Instruction target text) = is_instruction target text
is_aside_in false Opener = true
is_aside_in true Closer = true
is_aside_in _ _ = false

-- and of which a reader takes each that stands whole in a piece: a comment in ASCII, an instruction in ASCII whose target is a plain name, and the ends of a section
abbrev pub is_plain_aside : Token → Bool
is_plain_aside (Comment text) = list_all is_ascii text
is_plain_aside (Instruction target text) = is_plain_name target && list_all is_ascii text
is_plain_aside Opener = true
is_plain_aside Closer = true
is_plain_aside _ = false

-- it may come behind these tokens, the latest first
abbrev pub IsAside : List Token → Token → Type 0
IsAside before t = (is_aside_in (in_cdata before) t ≡ true) × (is_plain_aside t ≡ true)

-- Behind whole tokens, where an element is open, such a token may come.
pub record MayTakeAsideUnder (limit : ℕ) (reader : Reader) (bytes : List ℕ) (told : List Placed) (t : Token) : Type 0 where
  pub before : IsInsideUnder limit reader bytes told
  pub is : IsAside (reverse before.0) t
