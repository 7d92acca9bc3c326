-- What the reader of tokens keeps and gives.
use Rattle.std.specs.Prelude.{◌≡◌, ℕ, Bool, ◌==◌, ◌&&◌, ◌||◌, ◌+◌, ◌-◌, ◌<◌, nat_le, not, true, false, List, [], ◌∷◌, ◌++◌, length, Option, Some, if◌then◌else◌, encode_utf8_all}
use Rattle.lexical_core.specs.Utf8.{Steps, IsFront}
use Rattle.lexical_core.specs.declared.utf8.Utf8.{Utf8}
use Rattle.lexical_core.specs.declared.utf8.Utf8.TheVariants.{More as MoreBytes, Char, Bad}
use Rattle.lexical_core.specs.declared.rule.Rule.{Rule}
use Rattle.lexical_core.specs.declared.rule.Rule.TheVariants.{BadUtf8, BadMarkup, BadReference, BadChar, Truncated}
use Rattle.markup.specs.Chars.{is_xml_char}
use Rattle.markup.specs.Token.{Token, LineEnd, Character, Cr, token_bytes}
use Rattle.markup.specs.Marks.{stands, is_short, IsLimit}
use Rattle.markup.specs.Faults.{IsTagBegun, Next}
use Rattle.markup.specs.inner.Drafts.{no_draft, note_character}
use Rattle.markup.specs.inner.Scans.{step}
use Rattle.markup.specs.inner.TokenRules.{ends_tag}
use Rattle.markup.specs.inner.ScanRuns.{run, At, position, ended_of, draft_of}
use Rattle.markup.specs.declared.draft.Draft.{Draft}
use Rattle.markup.specs.declared.scan.Position.{Position}
use Rattle.markup.specs.declared.scan.Position.TheVariants.{AfterMark, Text, Cdata}
use Rattle.markup.specs.declared.scan.Scan.{Scan}
use Rattle.markup.specs.declared.scan.Scan.TheVariants.{Begin, AfterReturn, Bracket, Brackets, Reference, StartName, Gap, AttributeName, BeforeEquals, AfterEquals, Value, ValueReference, AfterValue, Slash, EndOpened, EndName, EndGap}
use Rattle.markup.specs.declared.scan.Ended.{Ended}
use Rattle.markup.specs.declared.scan.Ended.TheVariants.{Mark, Opener, Closer, Character as CharacterEnded}
use Rattle.markup.specs.declared.scan.Turn.{Turn}
use Rattle.markup.specs.declared.scan.Turn.TheVariants.{Goes, Whole, Stuck}
use Rattle.markup.specs.declared.tokenizer.Tokenizer.{Tokenizer}
use Rattle.markup.specs.declared.tokenizer.Settled.{Settled}
use Rattle.markup.specs.declared.tokenizer.Settled.TheVariants.{Nothing, Return, Bracket as OneBracket, Brackets as TwoBrackets}
use Rattle.markup.specs.declared.tokenizer.Finish.{Finish}
use Rattle.markup.specs.declared.tokenizer.Finish.TheVariants.{Nothing as NothingOpen, Return as ReturnOpen, Open}
use Rattle.markup.specs.declared.tokenizer.Progress.{Progress}
use Rattle.markup.specs.declared.tokenizer.Progress.TheVariants.{More as Continues, Token as Ends, Refused as Refuses}

-- what a byte makes of the open token, with what it has said, where it is a tag that has ended
pub data Outcome : Type 0 where
  More : Outcome
  EndedToken : (ended : Ended) (draft : Draft) → Outcome
  Refused : (rule : Rule) → Outcome

-- where a token begins behind others
abbrev pub after_other : Position → Position
after_other Cdata = Cdata
after_other _ = Text

-- where one begins behind a token that ended so
abbrev pub behind_token : Position → Ended → Position
behind_token p Mark = AfterMark
behind_token p Opener = Cdata
behind_token p Closer = Text
behind_token p _ = after_other p

-- a start tag or an end tag is open
abbrev pub is_tag : Scan → Bool
is_tag (StartName n) = true
is_tag Gap = true
is_tag (AttributeName n) = true
is_tag BeforeEquals = true
is_tag AfterEquals = true
is_tag (Value q r) = true
is_tag (ValueReference q r) = true
is_tag AfterValue = true
is_tag Slash = true
is_tag EndOpened = true
is_tag (EndName n) = true
is_tag EndGap = true
is_tag _ = false

-- a reference is open
abbrev pub is_reference_open : Scan → Bool
is_reference_open (Reference r) = true
is_reference_open (ValueReference q r) = true
is_reference_open _ = false

-- the rule that a character breaks with which no token goes on
abbrev pub stuck_rule : Scan → ℕ → Rule
stuck_rule s c = if not (is_xml_char c) then BadChar else (if is_reference_open s then BadReference else BadMarkup)

-- A tag that has not ended has fewer bytes than the limit.
abbrev pub bound_outcome : Tokenizer → Outcome
bound_outcome z = if is_tag z.scan && nat_le z.limit (z.place - z.start) then Refused BadMarkup else More

-- what a tag has said is handed out
abbrev pub without_draft : Tokenizer → Tokenizer
without_draft z = record { alloc = z.alloc; limit = z.limit; utf8 = z.utf8; position = z.position; scan = z.scan; draft = no_draft; start = z.start; place = z.place }

-- where it has ended
abbrev pub handed_out : Ended → Tokenizer → Tokenizer
handed_out e z = if ends_tag e then without_draft z else z

-- It is part of what the byte makes of the open token.
abbrev pub outcome : Progress → Tokenizer → Outcome × Tokenizer
outcome Continues z = (More, z)
outcome (Ends e) z = (EndedToken e z.draft, without_draft z)
outcome (Refuses rule) z = (Refused rule, z)

-- a token has ended
abbrev pub token_ended : Tokenizer → Ended → Outcome × Tokenizer
token_ended z e = (EndedToken e z.draft, record { alloc = z.alloc; limit = z.limit; utf8 = z.utf8; position = behind_token z.position e; scan = Begin (behind_token z.position e); draft = no_draft; start = z.place; place = z.place })

abbrev pub with_scan : Tokenizer → Scan → Draft → Tokenizer
with_scan z s d = record { alloc = z.alloc; limit = z.limit; utf8 = z.utf8; position = z.position; scan = s; draft = d; start = z.start; place = z.place }

abbrev pub on_turn : Tokenizer → ℕ → Turn → Outcome × Tokenizer
on_turn z c (Goes s) = (bound_outcome (with_scan z s (note_character z.scan s c z.draft)), with_scan z s (note_character z.scan s c z.draft))
on_turn z c (Whole e) = token_ended z e
on_turn z c Stuck = (Refused (stuck_rule z.scan c), z)

-- a character is taken
abbrev pub after_character : Tokenizer → ℕ → Outcome × Tokenizer
after_character z c = on_turn z c (step z.scan c)

abbrev pub byte_counted : Tokenizer → Option (List ℕ) → Tokenizer
byte_counted z u = record { alloc = z.alloc; limit = z.limit; utf8 = u; position = z.position; scan = z.scan; draft = z.draft; start = z.start; place = z.place + 1 }

abbrev pub on_utf8 : Tokenizer → Utf8 → Outcome × Tokenizer
on_utf8 z MoreBytes = (bound_outcome z, z)
on_utf8 z Bad = (Refused BadUtf8, z)
on_utf8 z (Char c) = after_character z c

-- a byte is taken
pub record AdvancedBy (old new : Tokenizer) (byte : ℕ) (progress : Outcome) : Type 0 where
  pub utf8 : Utf8
  pub begun : Option (List ℕ)
  pub steps : Steps old.utf8 byte utf8 begun
  pub value : progress ≡ (on_utf8 (byte_counted old begun) utf8).0
  pub after : new ≡ (on_utf8 (byte_counted old begun) utf8).1

-- what has been read may be a token or go on, as the next byte shows
abbrev pub is_pending : Scan → Bool
is_pending AfterReturn = true
is_pending Bracket = true
is_pending Brackets = true
is_pending _ = false

-- the byte is one with which it goes on
abbrev pub IsAwaited : Scan → ℕ → Type 0
IsAwaited AfterReturn byte = byte ≡ 10
IsAwaited Bracket byte = byte ≡ 93
IsAwaited Brackets byte = byte ≡ 62
IsAwaited _ byte = Unit {0}

-- the open token behind these tokens has these bytes so far, where a tag has at most so many
pub record IsTokenOpen (limit : ℕ) (z : Tokenizer) (before : List Token) (bytes : List ℕ) : Type 0 where
  pub chars : List ℕ
  pub part : List ℕ
  pub bytes_are : bytes ≡ encode_utf8_all chars ++ part
  pub utf8_is : z.utf8 ≡ Some part
  pub front : IsFront part
  pub scan_is : run (Begin (position before)) no_draft chars ≡ At z.scan z.draft
  pub position_is : z.position ≡ position before
  pub place_is : z.place ≡ z.start + length bytes
  pub limit_is : z.limit ≡ limit
  pub limited : IsLimit limit
  pub short : IsTagBegun chars → length bytes < limit
  pub settled : is_pending z.scan ≡ true → part ≡ []

-- a token that has ended with these bytes, and the next one that is open behind it
pub record EndsToken (limit : ℕ) (new : Tokenizer) (before : List Token) (bytes : List ℕ) (e : Ended) (d : Draft) : Type 0 where
  pub token : Token
  pub is : (after : List ℕ) → stands before token after ≡ true
  pub bytes_are : token_bytes token ≡ bytes
  pub short : is_short limit token ≡ true
  pub ended_is : ended_of token ≡ e
  pub draft_is : draft_of token ≡ d
  pub next : IsTokenOpen limit new (token ∷ before) []

-- what the byte that ends these bytes has made of the open token
abbrev pub Advances : ℕ → Tokenizer → List Token → List ℕ → Outcome → Type 0
Advances limit new before bytes More = IsTokenOpen limit new before bytes
Advances limit new before bytes (EndedToken e d) = EndsToken limit new before bytes e d
Advances limit new before bytes (Refused rule) = (more : List ℕ) → Next limit before (bytes ++ more) rule 0

-- A byte gives the next token where it ends it, and the next fault where it shows it, behind any tokens.
abbrev pub AdvancesBy : Tokenizer → Tokenizer → ℕ → Outcome → Type 0
AdvancesBy old new byte progress = (limit : ℕ) (before : List Token) (bytes : List ℕ) → IsTokenOpen limit old before bytes → IsAwaited old.scan byte → Advances limit new before (bytes ++ byte ∷ []) progress

-- a byte that is a character by itself, in text or in a CDATA section (XML 1.0 §2.4, §2.7)
abbrev pub is_plain_in : Bool → ℕ → Bool
is_plain_in text byte = nat_le 32 byte && nat_le byte 127 && not (byte == 60) && not (byte == 38) && (text || not (byte == 93))

-- a token begins behind another that is not the byte order mark
abbrev pub is_between : Scan → Bool
is_between (Begin Text) = true
is_between (Begin Cdata) = true
is_between _ = false

-- a token begins behind another that is not the byte order mark, in no CDATA section
abbrev pub is_text : Scan → Bool
is_text (Begin Text) = true
is_text _ = false

-- none of its bytes has come, and this one is all of it
abbrev pub starts_plain : Tokenizer → ℕ → Bool
starts_plain z byte = is_between z.scan && z.place == z.start && is_plain_in (is_text z.scan) byte

-- no token is open, and one begins behind another that is not the byte order mark
abbrev pub is_ready : Tokenizer → Bool
is_ready z = is_between z.scan && z.place == z.start

-- none of its bytes has come
abbrev pub is_in_text : Tokenizer → Bool
is_in_text z = is_text z.scan && z.place == z.start

-- so many bytes come, which are whole tokens
abbrev pub after_whole_tokens : Tokenizer → ℕ → Tokenizer
after_whole_tokens z n = record { alloc = z.alloc; limit = z.limit; utf8 = z.utf8; position = z.position; scan = z.scan; draft = z.draft; start = z.place + n; place = z.place + n }

-- The byte makes this of the open token: it settles nothing, and leaves nothing for the next byte to settle.
pub record TakesAlone (old new : Tokenizer) (byte : ℕ) (progress : Outcome) : Type 0 where
  pub advances : AdvancesBy old new byte progress
  pub settled : is_pending old.scan ≡ false
  pub leaves : is_pending new.scan ≡ false
  pub place : new.place ≡ old.place + 1

-- The byte is a character that is the next token, and nothing was open before it.
abbrev pub TakesPlain : Tokenizer → Tokenizer → ℕ → Type 0
TakesPlain old new byte = TakesAlone old new byte (EndedToken (CharacterEnded byte) no_draft)

-- the next token begins
abbrev pub at_next_token : Tokenizer → Tokenizer
at_next_token z = record { alloc = z.alloc; limit = z.limit; utf8 = z.utf8; position = after_other z.position; scan = Begin (after_other z.position); draft = z.draft; start = z.place; place = z.place }

-- the first of two brackets has ended
abbrev pub second_bracket : Tokenizer → Tokenizer
second_bracket z = record { alloc = z.alloc; limit = z.limit; utf8 = z.utf8; position = z.position; scan = Bracket; draft = z.draft; start = z.place - 1; place = z.place }

-- what ends since it does not go on with the byte
abbrev pub settled_at : Scan → Tokenizer → ℕ → Settled × Tokenizer
settled_at AfterReturn z byte = if byte == 10 then (Nothing, z) else (Return, at_next_token z)
settled_at Bracket z byte = if byte == 93 then (Nothing, z) else (OneBracket, at_next_token z)
settled_at Brackets z byte = if byte == 62 then (Nothing, z) else (if byte == 93 then (OneBracket, second_bracket z) else (TwoBrackets, at_next_token z))
settled_at s z byte = (Nothing, z)

abbrev pub settle_character : Tokenizer → ℕ → Settled × Tokenizer
settle_character z byte = settled_at z.scan z byte

-- a token that stands before the byte, and those that are open behind it
pub record SettlesOne (limit : ℕ) (new : Tokenizer) (before : List Token) (bytes : List ℕ) (byte : ℕ) (t : Token) : Type 0 where
  pub rest : List ℕ
  pub bytes_are : bytes ≡ token_bytes t ++ rest
  pub is : (more : List ℕ) → stands before t (rest ++ byte ∷ more) ≡ true
  pub next : IsTokenOpen limit new (t ∷ before) rest

-- two brackets that stand before the byte
pub record SettlesTwo (limit : ℕ) (new : Tokenizer) (before : List Token) (bytes : List ℕ) (byte : ℕ) : Type 0 where
  pub bytes_are : bytes ≡ 93 ∷ 93 ∷ []
  pub first : (more : List ℕ) → stands before (Character 93) (93 ∷ byte ∷ more) ≡ true
  pub second : (more : List ℕ) → stands (Character 93 ∷ before) (Character 93) (byte ∷ more) ≡ true
  pub next : IsTokenOpen limit new (Character 93 ∷ Character 93 ∷ before) []

abbrev pub Settles : ℕ → Tokenizer → Tokenizer → List Token → List ℕ → ℕ → Settled → Type 0
Settles limit old new before bytes byte Nothing = new ≡ old
Settles limit old new before bytes byte Return = SettlesOne limit new before bytes byte (LineEnd Cr)
Settles limit old new before bytes byte OneBracket = SettlesOne limit new before bytes byte (Character 93)
Settles limit old new before bytes byte TwoBrackets = SettlesTwo limit new before bytes byte

-- What the byte does not go on with are tokens that stand before it, and what is left goes on with it.
abbrev pub SettlesBy : Tokenizer → Tokenizer → ℕ → Settled → Type 0
SettlesBy old new byte result = (limit : ℕ) (before : List Token) (bytes : List ℕ) → IsTokenOpen limit old before bytes → Settles limit old new before bytes byte result × IsAwaited new.scan byte

-- what is open where the input ends
abbrev pub open_at : Scan → Tokenizer → Finish
open_at AfterReturn z = ReturnOpen
open_at s z = if z.place == z.start then NothingOpen else Open

-- and what it is to the input
abbrev pub Finishes : ℕ → List Token → List ℕ → Finish → Type 0
Finishes limit before bytes NothingOpen = bytes ≡ []
Finishes limit before bytes ReturnOpen = (bytes ≡ token_bytes (LineEnd Cr)) × (stands before (LineEnd Cr) [] ≡ true)
Finishes limit before bytes Open = Next limit before bytes Truncated (length bytes)

-- At the end of the input nothing is open, or a CR ends, or the input is cut short there.
abbrev pub FinishesBy : Tokenizer → Finish → Type 0
FinishesBy z result = (limit : ℕ) (before : List Token) (bytes : List ℕ) → IsTokenOpen limit z before bytes → Finishes limit before bytes result
