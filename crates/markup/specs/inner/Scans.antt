-- What one more character makes of a token that is begun. What a token is stands in Token and Marks.
use Rattle.std.specs.Prelude.{ℕ, Bool, ◌==◌, ◌||◌, ◌&&◌, ◌+◌, not, true, false, Option, Some, None, if◌then◌else◌, is_none}
use Rattle.std.specs.Char.{to_ascii_lowercase}
use Rattle.markup.specs.Chars.{is_xml_char, is_name_start, is_name_char, is_space}
use Rattle.markup.specs.inner.Words.{letter_of}
use Rattle.markup.specs.inner.ReferenceScans.{reference_step}
use Rattle.markup.specs.declared.word.Word.{Word}
use Rattle.markup.specs.declared.word.Word.TheVariants.{Cdata as CdataWord, Doctype as DoctypeWord, Version as VersionWord, Encoding as EncodingWord, Standalone as StandaloneWord, One, Utf8, Yes, No}
use Rattle.markup.specs.declared.reference.ReferenceScan.{ReferenceScan}
use Rattle.markup.specs.declared.reference.ReferenceScan.TheVariants.{Begun}
use Rattle.markup.specs.declared.reference.ReferenceTurn.{ReferenceTurn}
use Rattle.markup.specs.declared.reference.ReferenceTurn.TheVariants.{Continues, Gives, Breaks}
use Rattle.markup.specs.declared.scan.Position.{Position}
use Rattle.markup.specs.declared.scan.Position.TheVariants.{Start as AtStart, AfterMark, Text, Cdata}
use Rattle.markup.specs.declared.scan.NameScan.{NameScan}
use Rattle.markup.specs.declared.scan.NameScan.TheVariants.{First, Colon, Second}
use Rattle.markup.specs.declared.scan.NameTurn.{NameTurn}
use Rattle.markup.specs.declared.scan.NameTurn.TheVariants.{Remains, Ends, Fails}
use Rattle.markup.specs.declared.scan.Field.{Field}
use Rattle.markup.specs.declared.scan.Field.TheVariants.{Version, Encoding, Standalone}
use Rattle.markup.specs.declared.scan.Scan.{Scan}
use Rattle.markup.specs.declared.scan.Scan.TheVariants.{Begin, AfterReturn, Bracket, Brackets, Reference, Opened, Bang, BangHyphen, CommentText, CommentHyphen, CommentEnd, Fixed, Question, TargetX, TargetXm, TargetXml, Target, TargetMark, InstructionText, InstructionMark, DeclarationGap, FieldName, FieldBefore, FieldAfter, FieldValue, FieldWord, FieldEnd, FieldGap, DeclarationMark, StartName, Gap, AttributeName, BeforeEquals, AfterEquals, Value, ValueReference, AfterValue, Slash, EndOpened, EndName, EndGap}
use Rattle.markup.specs.declared.scan.Ended.{Ended}
use Rattle.markup.specs.declared.scan.Ended.TheVariants.{Mark, Declaration, Passed, Opener, Closer, TypeDeclaration, Start, End, Refer, LineEnd, Character}
use Rattle.markup.specs.declared.scan.Turn.{Turn}
use Rattle.markup.specs.declared.scan.Turn.TheVariants.{Goes, Whole, Stuck}

-- the turn, where the test holds
abbrev pub goes_if : Bool → Turn → Turn
goes_if b t = if b then t else Stuck

-- in a line of text
abbrev pub line_step : ℕ → Turn
line_step c = if c == 13 then Goes AfterReturn else (if c == 10 then Whole LineEnd else goes_if (is_xml_char c) (Whole (Character c)))

-- in text
abbrev pub text_step : Bool → ℕ → Turn
text_step first c = if c == 60 then Goes (Opened first) else (if c == 38 then Goes (Reference Begun) else line_step c)

-- in a CDATA section
abbrev pub cdata_step : ℕ → Turn
cdata_step c = if c == 93 then Goes Bracket else line_step c

-- at the first character
abbrev pub begin_step : Position → ℕ → Turn
begin_step AtStart c = if c == 0xFEFF then Whole Mark else text_step true c
begin_step AfterMark c = text_step true c
begin_step Text c = text_step false c
begin_step Cdata c = cdata_step c

-- in a name
abbrev pub name_step : NameScan → ℕ → NameTurn
name_step First c = if is_name_char c then Remains First else (if c == 58 then Remains Colon else Ends)
name_step Colon c = if is_name_start c then Remains Second else Fails
name_step Second c = if is_name_char c then Remains Second else Ends

-- what a turn of a name is to the token
abbrev pub name_turn : (NameScan → Scan) → Turn → NameTurn → Turn
name_turn at behind (Remains n) = Goes (at n)
name_turn at behind Ends = behind
name_turn at behind Fails = Stuck

-- what a turn of a reference is to the token
abbrev pub referring : ReferenceTurn → Turn
referring (Continues r) = Goes (Reference r)
referring (Gives c) = Whole (Refer c)
referring Breaks = Stuck

abbrev pub reference_turn : ReferenceScan → ℕ → Turn
reference_turn r c = referring (reference_step r c)

-- and to an attribute's value
abbrev pub referring_in : ℕ → ReferenceTurn → Turn
referring_in q (Continues r) = Goes (ValueReference q r)
referring_in q (Gives c) = Goes (Value q false)
referring_in q Breaks = Stuck

abbrev pub value_reference_turn : ℕ → ReferenceScan → ℕ → Turn
value_reference_turn q r c = referring_in q (reference_step r c)

-- behind `<`
abbrev pub opened_step : Bool → ℕ → Turn
opened_step first c = if c == 33 then Goes Bang else (if c == 63 then Goes (Question first) else (if c == 47 then Goes EndOpened else goes_if (is_name_start c) (Goes (StartName First))))

-- behind `<!`
abbrev pub bang_step : ℕ → Turn
bang_step c = if c == 45 then Goes BangHyphen else (if c == 91 then Goes (Fixed CdataWord 0) else goes_if (c == 68) (Goes (Fixed DoctypeWord 1)))

-- in a comment
abbrev pub comment_step : Scan → ℕ → Turn
comment_step hyphen c = if c == 45 then Goes hyphen else goes_if (is_xml_char c) (Goes CommentText)

-- the token that a fixed word ends
abbrev pub fixed_ended : Word → Ended
fixed_ended CdataWord = Opener
fixed_ended _ = TypeDeclaration

-- in a fixed word
abbrev pub fixed_letter : Word → ℕ → ℕ → Option ℕ → Turn
fixed_letter w at c None = Stuck
fixed_letter w at c (Some letter) = if c == letter then (if is_none (letter_of w (at + 1)) then Whole (fixed_ended w) else Goes (Fixed w (at + 1))) else Stuck

abbrev pub fixed_step : Word → ℕ → ℕ → Turn
fixed_step w at c = fixed_letter w at c (letter_of w at)

-- in the target of an instruction
abbrev pub target_step : ℕ → Turn
target_step c = if is_name_char c then Goes Target else (if is_space c then Goes InstructionText else goes_if (c == 63) (Goes TargetMark))

abbrev pub question_step : Bool → ℕ → Turn
question_step first c = if c == 120 then Goes (TargetX first) else (if c == 88 then Goes (TargetX false) else goes_if (is_name_start c) (Goes Target))

abbrev pub target_x_step : Bool → ℕ → Turn
target_x_step first c = if c == 109 then Goes (TargetXm first) else (if c == 77 then Goes (TargetXm false) else target_step c)

abbrev pub target_xm_step : Bool → ℕ → Turn
target_xm_step first c = if c == 108 then Goes (TargetXml first) else (if c == 76 then Goes (TargetXml false) else target_step c)

abbrev pub target_xml_step : Bool → ℕ → Turn
target_xml_step first c = if is_name_char c then Goes Target else goes_if (first && is_space c) (Goes DeclarationGap)

-- in an instruction's text
abbrev pub instruction_step : ℕ → Turn
instruction_step c = if c == 63 then Goes InstructionMark else goes_if (is_xml_char c) (Goes InstructionText)

abbrev pub mark_step : ℕ → Turn
mark_step c = if c == 62 then Whole Passed else instruction_step c

-- in a declaration
abbrev pub declaration_gap_step : ℕ → Turn
declaration_gap_step c = if is_space c then Goes DeclarationGap else goes_if (c == 118) (Goes (FieldName Version 1))

abbrev pub name_word : Field → Word
name_word Version = VersionWord
name_word Encoding = EncodingWord
name_word Standalone = StandaloneWord

abbrev pub field_before_step : Field → ℕ → Turn
field_before_step f c = if is_space c then Goes (FieldBefore f) else goes_if (c == 61) (Goes (FieldAfter f))

abbrev pub field_letter : Field → ℕ → ℕ → Option ℕ → Turn
field_letter f at c None = field_before_step f c
field_letter f at c (Some letter) = goes_if (c == letter) (Goes (FieldName f (at + 1)))

abbrev pub field_name_step : Field → ℕ → ℕ → Turn
field_name_step f at c = field_letter f at c (letter_of (name_word f) at)

abbrev pub field_after_step : Field → ℕ → Turn
field_after_step f c = if is_space c then Goes (FieldAfter f) else goes_if (c == 34 || c == 39) (Goes (FieldValue f c))

abbrev pub field_value_step : Field → ℕ → ℕ → Turn
field_value_step Version q c = goes_if (c == 49) (Goes (FieldWord Version One q 1))
field_value_step Encoding q c = goes_if (c == 117 || c == 85) (Goes (FieldWord Encoding Utf8 q 1))
field_value_step Standalone q c = if c == 121 then Goes (FieldWord Standalone Yes q 1) else goes_if (c == 110) (Goes (FieldWord Standalone No q 1))

abbrev pub fits_letter : Word → ℕ → ℕ → Bool
fits_letter Utf8 letter c = to_ascii_lowercase c == letter
fits_letter _ letter c = c == letter

abbrev pub field_word_letter : Field → Word → ℕ → ℕ → ℕ → Option ℕ → Turn
field_word_letter f w q at c None = goes_if (c == q) (Goes (FieldEnd f))
field_word_letter f w q at c (Some letter) = goes_if (fits_letter w letter c) (Goes (FieldWord f w q (at + 1)))

abbrev pub field_word_step : Field → Word → ℕ → ℕ → ℕ → Turn
field_word_step f w q at c = field_word_letter f w q at c (letter_of w at)

abbrev pub field_end_step : Field → ℕ → Turn
field_end_step f c = if is_space c then Goes (FieldGap f) else goes_if (c == 63) (Goes DeclarationMark)

abbrev pub field_gap_step : Field → ℕ → Turn
field_gap_step Version c = if c == 101 then Goes (FieldName Encoding 1) else (if c == 115 then Goes (FieldName Standalone 1) else field_end_step Version c)
field_gap_step Encoding c = if c == 115 then Goes (FieldName Standalone 1) else field_end_step Encoding c
field_gap_step Standalone c = field_end_step Standalone c

-- behind a start tag's name and its attributes
abbrev pub close_step : ℕ → Turn
close_step c = if c == 47 then Goes Slash else goes_if (c == 62) (Whole (Start false))

abbrev pub behind_attribute_step : ℕ → Turn
behind_attribute_step c = if is_space c then Goes Gap else close_step c

abbrev pub start_name_step : NameScan → ℕ → Turn
start_name_step n c = name_turn StartName (behind_attribute_step c) (name_step n c)

abbrev pub gap_step : ℕ → Turn
gap_step c = if is_name_start c then Goes (AttributeName First) else behind_attribute_step c

-- behind an attribute's name
abbrev pub before_equals_step : ℕ → Turn
before_equals_step c = if is_space c then Goes BeforeEquals else goes_if (c == 61) (Goes AfterEquals)

abbrev pub attribute_name_step : NameScan → ℕ → Turn
attribute_name_step n c = name_turn AttributeName (before_equals_step c) (name_step n c)

abbrev pub after_equals_step : ℕ → Turn
after_equals_step c = if is_space c then Goes AfterEquals else goes_if (c == 34 || c == 39) (Goes (Value c false))

abbrev pub value_step : ℕ → ℕ → Turn
value_step q c = if c == q then Goes AfterValue else (if c == 38 then Goes (ValueReference q Begun) else goes_if (is_xml_char c && not (c == 60)) (Goes (Value q (c == 13))))

-- in an end tag
abbrev pub end_gap_step : ℕ → Turn
end_gap_step c = if is_space c then Goes EndGap else goes_if (c == 62) (Whole End)

abbrev pub end_name_step : NameScan → ℕ → Turn
end_name_step n c = name_turn EndName (end_gap_step c) (name_step n c)

-- what the character makes of the token
abbrev pub step : Scan → ℕ → Turn
step (Begin p) c = begin_step p c
step AfterReturn c = goes_if (c == 10) (Whole LineEnd)
step Bracket c = goes_if (c == 93) (Goes Brackets)
step Brackets c = goes_if (c == 62) (Whole Closer)
step (Reference r) c = reference_turn r c
step (Opened first) c = opened_step first c
step Bang c = bang_step c
step BangHyphen c = goes_if (c == 45) (Goes CommentText)
step CommentText c = comment_step CommentHyphen c
step CommentHyphen c = comment_step CommentEnd c
step CommentEnd c = goes_if (c == 62) (Whole Passed)
step (Fixed w at) c = fixed_step w at c
step (Question first) c = question_step first c
step (TargetX first) c = target_x_step first c
step (TargetXm first) c = target_xm_step first c
step (TargetXml first) c = target_xml_step first c
step Target c = target_step c
step TargetMark c = goes_if (c == 62) (Whole Passed)
step InstructionText c = instruction_step c
step InstructionMark c = mark_step c
step DeclarationGap c = declaration_gap_step c
step (FieldName f at) c = field_name_step f at c
step (FieldBefore f) c = field_before_step f c
step (FieldAfter f) c = field_after_step f c
step (FieldValue f q) c = field_value_step f q c
step (FieldWord f w q at) c = field_word_step f w q at c
step (FieldEnd f) c = field_end_step f c
step (FieldGap f) c = field_gap_step f c
step DeclarationMark c = goes_if (c == 62) (Whole Declaration)
step (StartName n) c = start_name_step n c
step Gap c = gap_step c
step (AttributeName n) c = attribute_name_step n c
step BeforeEquals c = before_equals_step c
step AfterEquals c = after_equals_step c
step (Value q after_return) c = value_step q c
step (ValueReference q r) c = value_reference_turn q r c
step AfterValue c = behind_attribute_step c
step Slash c = goes_if (c == 62) (Whole (Start true))
step EndOpened c = goes_if (is_name_start c) (Goes (EndName First))
step (EndName n) c = end_name_step n c
step EndGap c = end_gap_step c
