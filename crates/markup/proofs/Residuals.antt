-- What may complete a token that a scan is in, in the grammar's own terms, read from the front.
use Rattle.std.proofs.Common.{◌≡◌, ℕ, Bool, true, false, ◌==◌, ◌||◌, ◌&&◌, ◌⊎◌, List, [], ◌∷◌, ◌++◌, map, drop}
use Rattle.std.specs.List.{list_all, flat_map}
use Rattle.std.specs.Char.{is_digit, to_ascii_lowercase}
use Rattle.markup.specs.Chars.{is_xml_char, is_name_start, is_name_char, is_space}
use Rattle.markup.specs.Name.{Name, is_name, name_text}
use Rattle.markup.specs.Reference.{Reference, is_reference, number}
use Rattle.markup.specs.Attribute.{ValuePiece, is_piece, piece_text, Attribute, is_attribute, attribute_text}
use Rattle.markup.specs.Declaration.{is_declaration, is_encoding, is_standalone}
use Rattle.markup.specs.Token.{Token, Mark, Declaration, Comment, Instruction, Opener, Closer, TypeDeclaration, Start, End, Refer, LineEnd, Character, is_start_tag, is_comment, is_instruction, is_instruction_text, token_text}
use Rattle.markup.specs.inner.Words.{word_text}
use Rattle.markup.specs.inner.Scans.{name_word}
use Rattle.markup.specs.declared.word.Word.{Word}
use Rattle.markup.specs.declared.word.Word.TheVariants.{One, Utf8, Yes, No}
use Rattle.markup.specs.declared.reference.ReferenceScan.{ReferenceScan}
use Rattle.markup.specs.declared.reference.ReferenceScan.TheVariants.{Begun, LetterA, Name as NameOf, Hash, HashX, Decimal, Hexadecimal}
use Rattle.markup.specs.declared.reference.ReferenceTurn.{ReferenceTurn}
use Rattle.markup.specs.declared.reference.ReferenceTurn.TheVariants.{Continues, Gives, Breaks}
use Rattle.markup.specs.declared.scan.NameScan.{NameScan}
use Rattle.markup.specs.declared.scan.NameScan.TheVariants.{First, Colon, Second}
use Rattle.markup.specs.declared.scan.Field.{Field}
use Rattle.markup.specs.declared.scan.Field.TheVariants.{Version, Encoding, Standalone}
use Rattle.markup.specs.declared.scan.Position.{Position}
use Rattle.markup.specs.declared.scan.Scan.{Scan}
use Rattle.markup.specs.declared.scan.Scan.TheVariants.{Begin, AfterReturn, Bracket, Brackets, Reference as InReference, Opened, Bang, BangHyphen, CommentText, CommentHyphen, CommentEnd, Fixed, Question, TargetX, TargetXm, TargetXml, Target, TargetMark, InstructionText, InstructionMark, DeclarationGap, FieldName, FieldBefore, FieldAfter, FieldValue, FieldWord, FieldEnd, FieldGap, DeclarationMark, StartName, Gap, AttributeName, BeforeEquals, AfterEquals, Value, ValueReference, AfterValue, Slash, EndOpened, EndName, EndGap}
use Rattle.markup.specs.declared.scan.Turn.{Turn}
use Rattle.markup.specs.declared.scan.Turn.TheVariants.{Goes, Whole, Stuck}
use Rattle.markup.proofs.ReferenceLemmas.{body}
use Rattle.markup.proofs.TokenLemmas.{close}
use Rattle.markup.proofs.Complete.{starts_blank, is_none_left, begins_so}

-- digits and the semicolon of a numbered reference, before v; n is the number so far
pub record InDigits (radix n : ℕ) (w v : List ℕ) : Type 0 where
  pub digits : List ℕ
  pub text : w ≡ digits ++ 59 ∷ v
  pub are : list_all (λ d. is_digit d radix) digits ≡ true
  pub xml : is_xml_char (number radix n digits) ≡ true

-- a reference behind its `&`, before v
pub record IsReference (w v : List ℕ) : Type 0 where
  pub reference : Reference
  pub is : is_reference reference ≡ true
  pub text : w ≡ body reference ++ 59 ∷ v

-- at least one hexadecimal digit
pub record FirstDigit (w v : List ℕ) : Type 0 where
  pub digit : ℕ
  pub more : List ℕ
  pub text : w ≡ digit ∷ (more ++ 59 ∷ v)
  pub are : list_all (λ d. is_digit d 16) (digit ∷ more) ≡ true
  pub xml : is_xml_char (number 16 0 (digit ∷ more)) ≡ true

abbrev pub ReferenceRest : ReferenceScan → List ℕ → List ℕ → Type 0
ReferenceRest Begun w v = IsReference w v
ReferenceRest LetterA w v = IsReference (97 ∷ w) v
ReferenceRest (NameOf word at) w v = w ≡ drop at (word_text word) ++ 59 ∷ v
ReferenceRest Hash w v = IsReference (35 ∷ w) v
ReferenceRest HashX w v = FirstDigit w v
ReferenceRest (Decimal n) w v = InDigits 10 n w v
ReferenceRest (Hexadecimal n) w v = InDigits 16 n w v

abbrev pub ReferenceThen : List ℕ → List ℕ → ReferenceTurn → Type 0
ReferenceThen w v (Continues r) = ReferenceRest r w v
ReferenceThen w v (Gives c) = w ≡ v
ReferenceThen w v Breaks = ⊥

-- the rest of a name, before a text that the fact holds of
pub record SecondRest (K : List ℕ → Type 0) (w : List ℕ) : Type 0 where
  pub chars : List ℕ
  pub after : List ℕ
  pub text : w ≡ chars ++ after
  pub are : list_all is_name_char chars ≡ true
  pub next : K after

pub record ColonRest (K : List ℕ → Type 0) (w : List ℕ) : Type 0 where
  pub first : ℕ
  pub more : List ℕ
  pub text : w ≡ first ∷ more
  pub starts : is_name_start first ≡ true
  pub next : SecondRest K more

pub record FirstRest (K : List ℕ → Type 0) (w : List ℕ) : Type 0 where
  pub chars : List ℕ
  pub after : List ℕ
  pub text : w ≡ chars ++ after
  pub are : list_all is_name_char chars ≡ true
  pub next : K after ⊎ ((more : List ℕ) × (after ≡ 58 ∷ more) × ColonRest K more)

abbrev pub NameRest : (List ℕ → Type 0) → NameScan → List ℕ → Type 0
NameRest K First w = FirstRest K w
NameRest K Colon w = ColonRest K w
NameRest K Second w = SecondRest K w

-- a whole name before such a text
pub record NameThen (K : List ℕ → Type 0) (w : List ℕ) : Type 0 where
  pub name : Name
  pub after : List ℕ
  pub is : is_name name ≡ true
  pub text : w ≡ name_text name ++ after
  pub next : K after

-- white space before such a text
pub record Spaced (K : List ℕ → Type 0) (w : List ℕ) : Type 0 where
  pub gap : List ℕ
  pub after : List ℕ
  pub are : list_all is_space gap ≡ true
  pub text : w ≡ gap ++ after
  pub next : K after

-- white space that may not be left out, before such a text
pub record Gapped (K : List ℕ → Type 0) (w : List ℕ) : Type 0 where
  pub first : ℕ
  pub more : List ℕ
  pub is : is_space first ≡ true
  pub text : w ≡ first ∷ more
  pub next : Spaced K more

-- attributes, white space and the close of a start tag
pub record Tail (w : List ℕ) : Type 0 where
  pub attributes : List Attribute
  pub gap : List ℕ
  pub is_empty : Bool
  pub are : list_all is_attribute attributes ≡ true
  pub spaces : list_all is_space gap ≡ true
  pub text : w ≡ flat_map attribute_text attributes ++ (gap ++ close is_empty)

-- the pieces of a value, its quote and the rest of the tag
pub record InValue (quote : ℕ) (w : List ℕ) : Type 0 where
  pub pieces : List ValuePiece
  pub after : List ℕ
  pub are : list_all (is_piece quote) pieces ≡ true
  pub text : w ≡ flat_map piece_text pieces ++ quote ∷ after
  pub next : Tail after

pub record Quoted (w : List ℕ) : Type 0 where
  pub quote : ℕ
  pub more : List ℕ
  pub is : (quote == 34 || quote == 39) ≡ true
  pub text : w ≡ quote ∷ more
  pub next : InValue quote more

pub record Equalled (w : List ℕ) : Type 0 where
  pub more : List ℕ
  pub text : w ≡ 61 ∷ more
  pub next : Spaced Quoted more

-- in white space of a start tag: the close, or an attribute from its name on
abbrev pub GapThen : List ℕ → Type 0
GapThen w = ((e : Bool) × (w ≡ close e)) ⊎ NameThen (Spaced Equalled) w

-- the `>` of an end tag
abbrev pub EndClose : List ℕ → Type 0
EndClose w = w ≡ 62 ∷ []

pub record CommentRest (w : List ℕ) : Type 0 where
  pub chars : List ℕ
  pub is : is_comment chars ≡ true
  pub text : w ≡ chars ++ 45 ∷ 45 ∷ 62 ∷ []

pub record InstructionRest (w : List ℕ) : Type 0 where
  pub chars : List ℕ
  pub is : is_instruction_text chars ≡ true
  pub text : w ≡ chars ++ 63 ∷ 62 ∷ []

-- the rest of a target, which is not one that the test tells, and the text
pub record TargetRest (bad : List ℕ → Bool) (w : List ℕ) : Type 0 where
  pub name : List ℕ
  pub chars : List ℕ
  pub are : list_all is_name_char name ≡ true
  pub good : bad name ≡ false
  pub is : is_instruction_text chars ≡ true
  pub blank : starts_blank chars ≡ true
  pub text : w ≡ name ++ (chars ++ 63 ∷ 62 ∷ [])

-- the fields that may stand behind a field
abbrev pub follows : Field → List Attribute → Bool
follows f [] = true
follows Version (a ∷ []) = is_encoding a || is_standalone a
follows Version (a ∷ b ∷ []) = is_encoding a && is_standalone b
follows Encoding (a ∷ []) = is_standalone a
follows f fs = false

pub record FieldsRest (f : Field) (w : List ℕ) : Type 0 where
  pub fields : List Attribute
  pub gap : List ℕ
  pub are : follows f fields ≡ true
  pub spaces : list_all is_space gap ≡ true
  pub text : w ≡ flat_map attribute_text fields ++ (gap ++ 63 ∷ 62 ∷ [])

-- the value that a word is, as it may be written
abbrev pub spells : Word → List ℕ → List ℕ → Type 0
spells Utf8 letters chars = map to_ascii_lowercase chars ≡ letters
spells _ letters chars = chars ≡ letters

-- the rest of a word of a value, its quote and the rest of the declaration
pub record WordRest (f : Field) (word : Word) (quote at : ℕ) (w : List ℕ) : Type 0 where
  pub chars : List ℕ
  pub after : List ℕ
  pub is : spells word (drop at (word_text word)) chars
  pub text : w ≡ chars ++ quote ∷ after
  pub next : FieldsRest f after

-- the words that may be a field's value
abbrev pub is_value_of : Field → Word → Bool
is_value_of Version One = true
is_value_of Encoding Utf8 = true
is_value_of Standalone Yes = true
is_value_of Standalone No = true
is_value_of f word = false

pub record FieldValueRest (f : Field) (quote : ℕ) (w : List ℕ) : Type 0 where
  pub word : Word
  pub is : is_value_of f word ≡ true
  pub rest : WordRest f word quote 0 w

pub record FieldQuoted (f : Field) (w : List ℕ) : Type 0 where
  pub quote : ℕ
  pub more : List ℕ
  pub is : (quote == 34 || quote == 39) ≡ true
  pub text : w ≡ quote ∷ more
  pub next : FieldValueRest f quote more

pub record FieldEqualled (f : Field) (w : List ℕ) : Type 0 where
  pub more : List ℕ
  pub text : w ≡ 61 ∷ more
  pub next : Spaced (FieldQuoted f) more

pub record FieldNamed (f : Field) (at : ℕ) (w : List ℕ) : Type 0 where
  pub after : List ℕ
  pub text : w ≡ drop at (word_text (name_word f)) ++ after
  pub next : Spaced (FieldEqualled f) after

-- a field that may be the next behind a field
abbrev pub is_next : Field → Field → Bool
is_next Version Encoding = true
is_next Version Standalone = true
is_next Encoding Standalone = true
is_next f g = false

-- in white space behind a field: the end, or another field
abbrev pub FieldGapThen : Field → List ℕ → Type 0
FieldGapThen f w = (w ≡ 63 ∷ 62 ∷ []) ⊎ ((g : Field) × (is_next f g ≡ true) × FieldNamed g 0 w)

-- tokens that begin with `<`, where a declaration may stand or not
abbrev pub stands_less : Bool → Token → Bool
stands_less first Mark = false
stands_less first (Declaration fs g) = first && is_declaration fs && list_all is_space g
stands_less first (Comment text) = is_comment text
stands_less first (Instruction p s) = is_instruction p s
stands_less first Opener = true
stands_less first Closer = false
stands_less first TypeDeclaration = true
stands_less first (Start t) = is_start_tag t
stands_less first (End n g) = is_name n && list_all is_space g
stands_less first (Refer r) = false
stands_less first (LineEnd l) = false
stands_less first (Character c) = false

pub record LessToken (first : Bool) (w : List ℕ) : Type 0 where
  pub token : Token
  pub is : stands_less first token ≡ true
  pub text : token_text token ≡ w

-- what completes a token at its first character is left to the place where it stands
module _ (Whole_at : Position → List ℕ → Type 0) where
  abbrev pub Rest : Scan → List ℕ → Type 0
  Rest (Begin p) w = Whole_at p w
  Rest AfterReturn w = w ≡ 10 ∷ []
  Rest Bracket w = w ≡ 93 ∷ 62 ∷ []
  Rest Brackets w = w ≡ 62 ∷ []
  Rest (InReference r) w = ReferenceRest r w []
  Rest (Opened first) w = LessToken first (60 ∷ w)
  Rest Bang w = LessToken false (60 ∷ 33 ∷ w)
  Rest BangHyphen w = LessToken false (60 ∷ 33 ∷ 45 ∷ w)
  Rest CommentText w = CommentRest w
  Rest CommentHyphen w = CommentRest (45 ∷ w)
  Rest CommentEnd w = w ≡ 62 ∷ []
  Rest (Fixed word at) w = w ≡ drop at (word_text word)
  Rest (Question first) w = LessToken first (60 ∷ 63 ∷ w)
  Rest (TargetX first) w = TargetRest (begins_so 109 (begins_so 108 is_none_left)) w ⊎ ((first ≡ true) × (v : List ℕ) × (w ≡ 109 ∷ 108 ∷ v) × Gapped (FieldNamed Version 0) v)
  Rest (TargetXm first) w = TargetRest (begins_so 108 is_none_left) w ⊎ ((first ≡ true) × (v : List ℕ) × (w ≡ 108 ∷ v) × Gapped (FieldNamed Version 0) v)
  Rest (TargetXml first) w = TargetRest is_none_left w ⊎ ((first ≡ true) × Gapped (FieldNamed Version 0) w)
  Rest Target w = TargetRest (λ _. false) w
  Rest TargetMark w = w ≡ 62 ∷ []
  Rest InstructionText w = InstructionRest w
  Rest InstructionMark w = InstructionRest (63 ∷ w)
  Rest DeclarationGap w = Spaced (FieldNamed Version 0) w
  Rest (FieldName f at) w = FieldNamed f at w
  Rest (FieldBefore f) w = Spaced (FieldEqualled f) w
  Rest (FieldAfter f) w = Spaced (FieldQuoted f) w
  Rest (FieldValue f q) w = FieldValueRest f q w
  Rest (FieldWord f word q at) w = WordRest f word q at w
  Rest (FieldEnd f) w = FieldsRest f w
  Rest (FieldGap f) w = Spaced (FieldGapThen f) w
  Rest DeclarationMark w = w ≡ 62 ∷ []
  Rest (StartName n) w = NameRest Tail n w
  Rest Gap w = Spaced GapThen w
  Rest (AttributeName n) w = NameRest (Spaced Equalled) n w
  Rest BeforeEquals w = Spaced Equalled w
  Rest AfterEquals w = Spaced Quoted w
  Rest (Value q after_return) w = InValue q w
  Rest (ValueReference q r) w = (v : List ℕ) × ReferenceRest r w v × InValue q v
  Rest AfterValue w = Tail w
  Rest Slash w = w ≡ 62 ∷ []
  Rest EndOpened w = NameThen (Spaced EndClose) w
  Rest (EndName n) w = NameRest (Spaced EndClose) n w
  Rest EndGap w = Spaced EndClose w

  -- what completes it behind one more character
  abbrev pub Then : List ℕ → Turn → Type 0
  Then w (Goes s) = Rest s w
  Then w (Whole e) = w ≡ []
  Then w Stuck = ⊥
