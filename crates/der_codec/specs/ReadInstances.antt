-- What a reader of DER that keeps an instance was given, and what it answers: it is a checker that keeps pieces.
use Rattle.std.specs.Prelude.{◌≡◌, ℕ, List, Option, None}
use Rattle.std.specs.Option.{option_map}
use Rattle.data_types.specs.Value.{Value, Piece}
use Rattle.fragments.specs.Fragment.{fragment}
use Rattle.inst_pool.specs.Pieces.{Region}
use Rattle.message_model.specs.Tables.{Tables, pieces_of}
use Rattle.message_model.specs.declared.fault.InstanceError.{InstanceError}
use Rattle.der_model.specs.DerMessage.{der_message}
use Rattle.der_model.specs.Der.{SpellsDer}
use Rattle.der_codec.specs.Checking.{HasFedDer, IsDerCheckerFor, IsFreed, der_bytes_fed, der_failure, held_contents, token_held}
use Rattle.der_codec.specs.Moved.{ReadsFrom}
use Rattle.der_codec.specs.Reserved.{IsKeeping}
use Rattle.der_codec.specs.declared.reader.DerReader.{DerReader}
use Rattle.der_codec.specs.declared.room.Room.{Room}

-- The reader goes on: it was given these bytes, which break nothing so far, and keeps the pieces that they show.
pub record HasKeptPieces (reader : DerReader) (T : Tables) (bytes : List ℕ) : Type 0 where
  pub given : HasFedDer reader.checker T bytes

-- from this place on the bytes are clean parts and the beginning of one, and what is open then is what the reader has, as far on
abbrev pub HasReadFrom : DerReader → Tables → ℕ → List ℕ → Type 0
HasReadFrom reader T base bytes = ReadsFrom T base reader.checker.decoder bytes

-- the pieces that the reader keeps
abbrev pub kept_pieces : DerReader → Option (List Piece)
kept_pieces reader = option_map (λ (region : Region). region.pieces) reader.checker.pieces

-- how many bytes the reader was given
abbrev pub read_so_far : DerReader → ℕ
read_so_far reader = der_bytes_fed reader.checker

-- the answer that it gives for good, where there is one
abbrev pub der_reader_failure : DerReader → Option InstanceError
der_reader_failure reader = der_failure reader.checker

-- how many octets it keeps of the contents that are due
abbrev pub reader_held : DerReader → ℕ
reader_held reader = held_contents reader.checker

-- how many octets of a header have come, where more of them are due
abbrev pub reader_token_held : DerReader → ℕ
reader_token_held reader = token_held reader.checker

-- no octets are held
abbrev pub IsReaderFreed : DerReader → Type 0
IsReaderFreed reader = IsFreed reader.checker

-- the reader was made for the message of these tables, and keeps pieces
abbrev pub IsDerReaderFor : DerReader → Tables → Type 0
IsDerReaderFor reader T = IsDerCheckerFor reader.checker T × (der_reader_failure reader ≡ None → IsKeeping reader.checker T)

-- how much is reserved
abbrev pub reserved_room : DerReader → Room
reserved_room reader = reader.checker.room

-- the bytes spell an instance that has these pieces
abbrev pub IsSpelledDerAs : Tables → List ℕ → List Piece → Type 0
IsSpelledDerAs T bytes shown = (v : Value) × SpellsDer (der_message T) bytes v × (shown ≡ pieces_of fragment T v)
