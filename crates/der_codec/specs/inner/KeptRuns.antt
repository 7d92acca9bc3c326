-- What a run of components has read where pieces are kept.
use Rattle.std.specs.Prelude.{◌≡◌, ℕ, ◌+◌, ◌-◌, ◌<◌, ◌≤◌, ◌++◌, ◌∷◌, List, true, length, take, Option}
use Rattle.std.specs.Vec.{with_item}
use Rattle.inst_pool.specs.Pieces.{Region}
use Rattle.message_model.specs.Tables.{Tables}
use Rattle.der_model.specs.DerMessage.{DerMessage, der_message}
use Rattle.der_codec.specs.Decoding.{HasReadParts, level_at}
use Rattle.der_codec.specs.KeptPieces.{KeepsShown, StaysAlone, IsLastSpot, GoOnByBegun}
use Rattle.der_codec.specs.Levels.{inwards, rest_of}
use Rattle.der_codec.specs.Reserved.{IsKeeping, HasEnough, HoldBegun}
use Rattle.der_codec.specs.inner.Entering.{HasBegunComponent}
use Rattle.der_codec.specs.inner.Runs.{AreLengthOctets}
use Rattle.der_codec.specs.declared.begun.Begun.{Begun}
use Rattle.der_codec.specs.declared.checker.DerChecker.{DerChecker}
use Rattle.der_codec.specs.declared.decoder.Decoder.{Decoder}
use Rattle.der_codec.specs.declared.level.Level.{Level}
use Rattle.der_codec.specs.declared.usual.Run.{Run}
use Rattle.der_codec.specs.declared.wide.WideBegun.{WideBegun}

-- a run whose innermost level is this
abbrev pub run_at : Level → ℕ → Run
run_at level place = record { level = level; place = place }

-- the reader as it is where the run ends here
abbrev pub decoder_at : Decoder → Run → Decoder
decoder_at d run = record d { levels = with_item d.levels (length d.levels.items - 1) run.level; place = run.place; start = run.place }

-- so is the checker
abbrev pub checker_at : DerChecker → Run → DerChecker
checker_at c run = record c { decoder = decoder_at c.decoder run }

-- the reader was given these bytes, and the pieces that are kept are those that the parts show which were read
abbrev pub RunKeeps : Tables → DerChecker → Run → List ℕ → Type 0
RunKeeps T c run bytes = HasReadParts (der_message T) (decoder_at c.decoder run) bytes × KeepsShown (der_message T) (decoder_at c.decoder run) c.pieces bytes

-- A run goes on: what it does not take part in is as before.
pub record StaysInRun (T : Tables) (old new : DerChecker) : Type 0 where
  pub kept : new.kept ≡ old.kept
  pub sound : new.failed ≡ old.failed
  pub room : new.room ≡ old.room
  pub due : new.decoder.due ≡ old.decoder.due
  pub keeps : IsKeeping old T → IsKeeping new T
  pub alone : StaysAlone old.pieces new.pieces

-- Behind these bytes a component begins, with this octet, that is made of components: its length is the octet n and so many of those behind it. It has begun as one of no octets would.
pub record HasBegunWide (m : DerMessage ℕ) (d : Decoder) (bytes : List ℕ) (o n : ℕ) (behind : List ℕ) (w : WideBegun) : Type 0 where
  pub begun : HasBegunComponent m d bytes o 0 (record { around = w.begun.around; spot = w.begun.spot; constructed = true; end = d.place + 2 + 0 })
  pub within : w.more ≤ length behind
  pub count : ℕ
  pub octets : AreLengthOctets n (take w.more behind) count
  pub end_is : w.begun.end ≡ d.place + (2 + w.more) + count
  pub fits : w.begun.end ≤ w.begun.around.end

-- The component stands first in the piece, and may be entered behind so many octets.
pub record EntersBy (T : Tables) (c : DerChecker) (run : Run) (bytes : List ℕ) (b : Begun) (header : ℕ) (piece : List ℕ) : Type 0 where
  pub last : IsLastSpot (der_message T) b.around b.spot
  pub within : header ≤ length piece
  pub room : HasEnough c T (bytes ++ piece) → HoldBegun (der_message T) b.around c.pieces
  pub goes : (new : Decoder) (kept : Option Region) → 0 < length new.levels.items → new.due ≡ c.decoder.due → inwards new.levels.items ≡ level_at b.spot b.end ∷ b.around ∷ rest_of (inwards c.decoder.levels.items) → GoOnByBegun (der_message T) b.around c.pieces kept
      → HasReadParts (der_message T) (decoder_at new (run_at (level_at b.spot b.end) (run.place + header))) (bytes ++ take header piece)
      × KeepsShown (der_message T) (decoder_at new (run_at (level_at b.spot b.end) (run.place + header))) kept (bytes ++ take header piece)
