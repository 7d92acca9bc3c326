-- What a checker of DER was given, and what it answers.
use Rattle.std.specs.Prelude.{◌≡◌, ◌≢◌, ℕ, suc, ◌+◌, ◌≤◌, ◌^◌, List, [], ◌++◌, length, take, drop, IfOk, IfErr, Option, Some, None, Result}
use Rattle.lexical_core.specs.declared.rule.Rule.TheVariants.{DerTruncated}
use Rattle.data_types.specs.Value.{Value}
use Rattle.facets.specs.LeafVerdicts.{verdict_kept, verdict_in_place}
use Rattle.inst_pool.specs.Pieces.{Region}
use Rattle.respell.specs.FragmentChecks.{fragment_held}
use Rattle.message_model.specs.Tables.{Tables, types_of}
use Rattle.message_model.specs.declared.fault.Fault.{Fault as Told}
use Rattle.message_model.specs.declared.fault.InstanceError.{InstanceError}
use Rattle.message_model.specs.declared.fault.InstanceError.TheVariants.{Refused, Memory}
use Rattle.der_model.specs.DerMessage.{DerMessage, der_message}
use Rattle.der_model.specs.Der.{SpellsDer}
use Rattle.der_model.specs.Faults.{FaultInDer, DerFault}
use Rattle.der_model.specs.States.{State, Start, AwaitsLength, AwaitsContents, Within}
use Rattle.der_codec.specs.Checked.{CheckTypes}
use Rattle.der_codec.specs.Components.{added_text}
use Rattle.der_codec.specs.OpenLeaves.{HoldsAt, IsHeldByCheck, held_with_check}
use Rattle.der_codec.specs.KeptPieces.{KeepsShown}
use Rattle.der_codec.specs.Decoding.{HasReadParts, header_come, IsFault, IsWaiting, end_of_levels}
use Rattle.der_codec.specs.declared.decoder.Decoder.{Decoder}
use Rattle.der_codec.specs.declared.decoder.Due.{Due}
use Rattle.der_codec.specs.declared.decoder.Due.TheVariants as due
use Rattle.der_codec.specs.declared.decoder.Stop.{Stop}
use Rattle.der_codec.specs.declared.decoder.Stop.TheVariants as stop
use Rattle.der_codec.specs.declared.checker.DerChecker.{DerChecker}
use Rattle.der_codec.specs.declared.held.Held.{Held}
use Rattle.der_codec.specs.declared.open_leaf.OpenLeaf.{OpenLeaf}
use Rattle.der_codec.specs.declared.open_leaf.OpenLeaf.TheVariants as opens
use Rattle.der_codec.specs.declared.level.Spot.{Spot}

-- of contents that are due is held what tells what those are that have come
abbrev pub KeepsOctets : Tables → Due → Option Region → ℕ → List ℕ → Option OpenLeaf → List ℕ → Type 0
KeepsOctets T (due.Contents spot left) pieces start bytes opened kept = HoldsAt (der_message T) spot pieces opened kept (drop start bytes)
KeepsOctets T d pieces start bytes opened kept = (kept ≡ []) × (opened ≡ None)

abbrev pub KeepsContents : Tables → Due → Option Region → ℕ → List ℕ → Held → Type 0
KeepsContents T d pieces start bytes kept = KeepsOctets T d pieces start bytes kept.leaf kept.octets.items

-- these contents octets have come at the spot, and that is held of them
abbrev pub HoldsAllOf : DerMessage ℕ → Spot → Decoder → Held → Option Region → List ℕ → Type 0
HoldsAllOf m spot d kept pieces octets = (d.place ≡ d.start + length octets) × HoldsAt m spot pieces kept.leaf kept.octets.items octets

-- no contents are due
abbrev pub IsNoContents : Due → Type 0
IsNoContents (due.Contents spot left) = ⊥
IsNoContents d = Unit {0}

-- the reader was given these bytes, and keeps what has come of contents
abbrev pub KeepsRead : Tables → Decoder → Held → Option Region → List ℕ → Type 0
KeepsRead T d kept pieces bytes = HasReadParts (der_message T) d bytes × KeepsContents T d.due pieces d.start bytes kept

-- The reader goes on: it was given these bytes, which break nothing so far.
pub record IsReading (T : Tables) (d : Decoder) (kept : Held) (pieces : Option Region) (bytes : List ℕ) : Type 0 where
  pub read : HasReadParts (der_message T) d bytes
  pub waits : IsWaiting d.due d.place (end_of_levels d.levels.items)
  pub keeps : KeepsContents T d.due pieces d.start bytes kept
  pub shows : KeepsShown (der_message T) d pieces bytes

-- the checker goes on: it was given these bytes, 2^40 at most, which break nothing so far
pub record HasFedDer (checker : DerChecker) (T : Tables) (bytes : List ℕ) : Type 0 where
  pub reading : IsReading T checker.decoder checker.kept checker.pieces bytes
  pub short : length bytes ≤ 2 ^ 40
  pub sound : checker.failed ≡ None

-- how many bytes the checker was given
abbrev pub der_bytes_fed : DerChecker → ℕ
der_bytes_fed checker = checker.decoder.place

-- how many bytes it holds of the contents that are due: octets, and what the check of an open envelope holds
abbrev pub held_contents : DerChecker → ℕ
held_contents checker = held_with_check checker.kept

-- how many bytes the check of an open leaf keeps, in memory and in place
abbrev pub held_by_leaf : Option OpenLeaf → ℕ
held_by_leaf (Some (opens.Text check)) = verdict_kept check.value + verdict_in_place check.value
held_by_leaf (Some (opens.Envelope check)) = fragment_held check.value.check
held_by_leaf opened = 0

abbrev pub held_by_check : DerChecker → ℕ
held_by_check checker = held_by_leaf checker.kept.leaf

-- so much is held of an open envelope of which these octets have come: what its check holds, which was given them
abbrev pub IsHeldOfEnvelope : DerChecker → List ℕ → ℕ → Type 0
IsHeldOfEnvelope checker octets held = IsHeldByCheck checker.kept.leaf octets held

-- it keeps no pieces
abbrev pub ChecksAlone : DerChecker → Type 0
ChecksAlone checker = checker.pieces ≡ None

-- how many octets of a header have come, where more of them are due
abbrev pub token_held : DerChecker → ℕ
token_held checker = header_come checker.decoder.due checker.decoder.start checker.decoder.place

-- the answer that it gives for good, where there is one
abbrev pub der_failure : DerChecker → Option InstanceError
der_failure checker = checker.failed

-- nothing is held of contents, by a check neither, no leaf and no value is open, and no piece is kept
pub record IsFreed (checker : DerChecker) : Type 0 where
  pub leaf : held_contents checker ≡ 0
  pub opened : checker.kept.leaf ≡ None
  pub header : token_held checker ≡ 0
  pub values : checker.decoder.levels.items ≡ []
  pub pieces : checker.pieces ≡ None

-- the checker was made for the message of these tables, and was given no bytes that it refused without saying so; where it has refused some it holds none
pub record IsDerCheckerFor (checker : DerChecker) (T : Tables) : Type 0 where
  pub checks : CheckTypes (types_of T) checker.checks
  pub given : der_failure checker ≡ None → (bytes : List ℕ) × HasFedDer checker T bytes
  pub freed : (e : InstanceError) → der_failure checker ≡ Some e → IsFreed checker

-- how many values and lists have begun and not ended, that of which a length or contents are due among them
abbrev pub open_count : {P : Type 0} → State P → ℕ
open_count Start = 0
open_count (AwaitsLength constructed spot names around) = suc (length around)
open_count (AwaitsContents spot names count around) = suc (length around)
open_count (Within levels) = length levels

-- a fault that is told, as one of the definitions
abbrev pub der_fault_of : Told → FaultInDer
der_fault_of f = record { rule = f.rule; place = f.place; path = f.path }

-- The bytes have this first fault, whatever follows them, and it is not that they end too early.
pub record ShowsDerFault (T : Tables) (bytes : List ℕ) (fault : Told) : Type 0 where
  pub has_fault : (behind : List ℕ) → DerFault (der_message T) (bytes ++ behind) (der_fault_of fault)
  pub no_cut : fault.rule ≢ DerTruncated

-- The bytes have some first fault, whatever follows them, and it is not that they end too early.
pub record HaveDerFault (T : Tables) (bytes : List ℕ) : Type 0 where
  pub fault : FaultInDer
  pub has_fault : (behind : List ℕ) → DerFault (der_message T) (bytes ++ behind) fault
  pub no_cut : fault.rule ≢ DerTruncated

-- why a checker does not go on
abbrev pub DerStops : Tables → List ℕ → InstanceError → Type 0
DerStops T bytes (Refused fault) = ShowsDerFault T bytes fault
DerStops T bytes Memory = Unit {0}

-- why a reader stops at the front of these bytes
abbrev pub StopsWithin : Tables → Decoder → List ℕ → Stop → Type 0
StopsWithin T d bytes (stop.Fault rule place added) =
    (front behind : List ℕ) × (bytes ≡ front ++ behind) × IsFault (der_message T) d front rule place (added_text (types_of T) added) × (rule ≢ DerTruncated)
StopsWithin T d bytes stop.Memory = Unit {0}

-- A front of the piece is taken, of so many bytes.
pub record TakesDerFront (T : Tables) (old new : DerChecker) (piece : List ℕ) (result : Result ℕ Stop) : Type 0 where
  pub ok : (bytes : List ℕ) → HasFedDer old T bytes → IfOk result (λ n. HasFedDer new T (bytes ++ take n piece))
  pub err : (bytes : List ℕ) → HasFedDer old T bytes → IfErr result (λ stop. StopsWithin T new.decoder (bytes ++ piece) stop)
  pub within : IfOk result (λ n. n ≤ length piece)

-- the bytes spell an instance
abbrev pub IsSpelledDer : Tables → List ℕ → Type 0
IsSpelledDer T bytes = (v : Value) × SpellsDer (der_message T) bytes v

-- why the bytes are refused at their end
abbrev pub DerEndsAs : Tables → List ℕ → InstanceError → Type 0
DerEndsAs T bytes (Refused fault) = DerFault (der_message T) bytes (der_fault_of fault)
DerEndsAs T bytes Memory = Unit {0}
