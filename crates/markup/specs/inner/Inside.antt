-- Bytes that go on with an open token and end none.
use Rattle.std.specs.Prelude.{◌≡◌, ℕ, Bool, ◌+◌, ◌-◌, ◌<◌, ◌==◌, ◌&&◌, ◌||◌, nat_le, not, true, false, List, [], ◌++◌, length, Some, encode_utf8_all}
use Rattle.std.specs.List.{list_all}
use Rattle.markup.specs.Ascii.{is_ascii}
use Rattle.markup.specs.inner.Drafts.{add_value}
use Rattle.markup.specs.inner.Scans.{step}
use Rattle.markup.specs.inner.ScanRuns.{run, At}
use Rattle.markup.specs.inner.Tokenizers.{is_tag, with_scan}
use Rattle.markup.specs.declared.classes.Passed.{Passed}
use Rattle.markup.specs.declared.classes.Passed.TheVariants.{Comment, Instruction}
use Rattle.markup.specs.declared.draft.Draft.{Draft}
use Rattle.markup.specs.declared.tag.Spelled.{Spelled}
use Rattle.markup.specs.declared.scan.Scan.{Scan}
use Rattle.markup.specs.declared.scan.Scan.TheVariants.{Begin, AfterReturn, Bracket, Brackets, Opened, StartName, AttributeName, Value, EndName}
use Rattle.markup.specs.declared.scan.Turn.TheVariants.{Goes}
use Rattle.markup.specs.declared.tokenizer.Tokenizer.{Tokenizer}

-- a character of a comment or an instruction that does not begin its end (XML 1.0 §2.5, §2.6)
abbrev pub is_passed : ℕ → ℕ → Bool
is_passed end byte = (nat_le 32 byte && nat_le byte 127 && not (byte == end)) || byte == 10 || byte == 9 || byte == 13

-- what the end of a comment or an instruction begins with
abbrev pub passed_end : Passed → ℕ
passed_end Comment = 45
passed_end Instruction = 63

-- more characters of a name
abbrev pub extend_name : List ℕ → Spelled → Spelled
extend_name bytes n = record { prefix = n.prefix; local = n.local ++ bytes }

-- what bytes say that leave the scan as it is
abbrev pub noted_all : Scan → List ℕ → Draft → Draft
noted_all (StartName part) bytes d = record { name = extend_name bytes d.name; given = d.given; attribute = d.attribute; value = d.value }
noted_all (EndName part) bytes d = record { name = extend_name bytes d.name; given = d.given; attribute = d.attribute; value = d.value }
noted_all (AttributeName part) bytes d = record { name = d.name; given = d.given; attribute = extend_name bytes d.attribute; value = d.value }
noted_all (Value q after_return) bytes d = add_value bytes d
noted_all _ bytes d = d

-- The bytes are their own characters, with which the token goes on as it stands.
pub record IsStill (scan : Scan) (bytes : List ℕ) : Type 0 where
  pub encoded : encode_utf8_all bytes ≡ bytes
  pub scans : (d : Draft) → run scan d bytes ≡ At scan (noted_all scan bytes d)

-- The bytes are their own characters, with which the token goes on; they are not counted yet.
pub record GoesOver (old new : Tokenizer) (bytes : List ℕ) : Type 0 where
  pub encoded : encode_utf8_all bytes ≡ bytes
  pub scans : run old.scan old.draft bytes ≡ At new.scan new.draft
  pub after : new ≡ with_scan old new.scan new.draft

-- The open token goes on with the byte of ASCII.
pub record GoesByOne (z : Tokenizer) (byte : ℕ) : Type 0 where
  pub ascii : is_ascii byte ≡ true
  pub scan : Scan
  pub goes : step z.scan byte ≡ Goes scan

-- It goes on with these, one after another.
pub record GoesByAll (z : Tokenizer) (bytes : List ℕ) : Type 0 where
  pub ascii : list_all is_ascii bytes ≡ true
  pub scan : Scan
  pub draft : Draft
  pub goes : run z.scan z.draft bytes ≡ At scan draft

-- a token is open, of which the next byte settles nothing
abbrev pub is_inside : Scan → Bool
is_inside (Begin p) = false
is_inside AfterReturn = false
is_inside Bracket = false
is_inside Brackets = false
is_inside _ = true

-- it is a tag, or may become one
abbrev pub may_be_tag : Scan → Bool
may_be_tag (Opened first) = true
may_be_tag s = is_tag s

-- so many bytes are counted
abbrev pub after_count : Tokenizer → ℕ → Tokenizer
after_count z n = record { alloc = z.alloc; limit = z.limit; utf8 = z.utf8; position = z.position; scan = z.scan; draft = z.draft; start = z.start; place = z.place + n }

-- Bytes go on with the open token, and end none; a tag stays shorter than its limit.
pub record GoesInside (old new : Tokenizer) (bytes : List ℕ) : Type 0 where
  pub inside : is_inside old.scan ≡ true
  pub whole : old.utf8 ≡ Some []
  pub between : Tokenizer
  pub over : GoesOver old between bytes
  pub after : new ≡ after_count between (length bytes)
  pub short : may_be_tag old.scan ≡ true → (old.place - old.start) + length bytes < old.limit
