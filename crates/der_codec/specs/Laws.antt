-- What the laws of this crate say.
use Rattle.std.specs.Prelude.{◌≡◌, ℕ, ◌<◌, ◌^◌, List, ◌++◌, length, Some}
use Rattle.lexical_core.specs.declared.rule.Rule.TheVariants.{DerTruncated}
use Rattle.data_types.specs.Value.{Value, Piece}
use Rattle.fragments.specs.Fragment.{fragment}
use Rattle.message_model.specs.Tables.{Tables, pieces_of}
use Rattle.der_model.specs.DerMessage.{der_message}
use Rattle.der_model.specs.Der.{SpellsDer}
use Rattle.der_model.specs.Faults.{FaultInDer, DerFault}
use Rattle.der_model.specs.Sound.{IsSoundDer}
use Rattle.der_codec.specs.Checking.{HasFedDer}
use Rattle.der_codec.specs.ReadInstances.{HasKeptPieces, IsDerReaderFor, kept_pieces}
use Rattle.der_codec.specs.declared.checker.DerChecker.{DerChecker}
use Rattle.der_codec.specs.declared.reader.DerReader.{DerReader}

-- What a checker was given has no fault but that it may end too early.
abbrev pub OnlyDerCut : Type 0
OnlyDerCut = (T : Tables) (checker : DerChecker) (bytes : List ℕ) → IsSoundDer (der_message T) → HasFedDer checker T bytes → (f : FaultInDer) → DerFault (der_message T) bytes f → f.rule ≡ DerTruncated

-- A reader keeps pieces, which are a front of those of each instance whose DER begins with what the reader was given.
abbrev pub KeepsAFront : Type 0
KeepsAFront = (T : Tables) (reader : DerReader) (bytes behind : List ℕ) (v : Value) → IsSoundDer (der_message T) → IsDerReaderFor reader T → HasKeptPieces reader T bytes
    → length (bytes ++ behind) < 2 ^ 63 → SpellsDer (der_message T) (bytes ++ behind) v
    → (kept : List Piece) × (later : List Piece) × (kept_pieces reader ≡ Some kept) × (pieces_of fragment T v ≡ kept ++ later)
