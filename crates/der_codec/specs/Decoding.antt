-- What a reader of DER has read, and how it stops.
use Rattle.std.specs.Prelude.{◌≡◌, ◌≢◌, ℕ, ◌+◌, ◌-◌, ◌<◌, ◌≤◌, Bool, true, List, [], ◌∷◌, ◌++◌, Option, Some, None, length, vec_len, vec_capacity}
use Rattle.std.specs.Global.{Vec}
use Rattle.lexical_core.specs.declared.rule.Rule.{Rule}
use Rattle.lexical_core.specs.declared.rule.Rule.TheVariants.{DerTruncated}
use Rattle.der_octets.specs.TagSteps as tags
use Rattle.der_octets.specs.LengthSteps as lengths
use Rattle.der_octets.specs.Octets.{universal, identifier, length_octets, IsShortTag, IsShortLength}
use Rattle.der_octets.specs.declared.tag_step.Identifier.{Identifier}
use Rattle.der_model.specs.States.{State, Start, AwaitsLength, AwaitsContents, Within, Part}
use Rattle.der_model.specs.Faults.{DerFront, NextPart}
use Rattle.der_model.specs.DerMessage.{DerMessage}
use Rattle.der_codec.specs.declared.level.Spot.{Spot}
use Rattle.der_codec.specs.declared.level.Spot.TheVariants as spots
use Rattle.der_codec.specs.Levels.{IsSpot, AreLevels, inwards}
use Rattle.der_codec.specs.Components.{added_text}
use Rattle.der_codec.specs.declared.checks.Refusal.{Refusal}
use Rattle.der_codec.specs.declared.checks.Refusal.TheVariants as refused
use Rattle.der_codec.specs.declared.components.Added.TheVariants as added
use Rattle.der_codec.specs.declared.level.Level.{Level}
use Rattle.der_codec.specs.declared.decoder.Decoder.{Decoder}
use Rattle.der_codec.specs.declared.decoder.Due.{Due}
use Rattle.der_codec.specs.declared.decoder.Due.TheVariants as due
use Rattle.der_codec.specs.declared.decoder.Stop.{Stop}
use Rattle.der_codec.specs.declared.decoder.Stop.TheVariants as stop

-- what is open is what the state says
abbrev pub IsOpenState : DerMessage ℕ → List Level → Due → State ℕ → Type 0
IsOpenState m levels (due.Tag step) Start = levels ≡ []
IsOpenState m levels (due.Tag step) (Within (l ∷ ls)) = AreLevels m.forms levels (l ∷ ls)
IsOpenState m levels (due.Length constructed spot step) (AwaitsLength b of names ls) = (constructed ≡ b) × IsSpot m.forms spot of × AreLevels m.forms levels ls
IsOpenState m levels (due.Contents spot left) (AwaitsContents of names count ls) = IsSpot m.forms spot of × AreLevels m.forms levels ls
IsOpenState m levels due.Over (Within []) = levels ≡ []
IsOpenState m levels _ _ = ⊥

-- the octets of the part that has begun
abbrev pub IsBegun : Due → State ℕ → List ℕ → Type 0
IsBegun (due.Tag step) state rest = tags.HasTakenTag step rest
IsBegun (due.Length constructed spot step) state rest = lengths.HasTakenLength step rest
IsBegun (due.Contents spot left) (AwaitsContents of names count ls) rest = left + length rest ≡ count
IsBegun (due.Contents spot left) state rest = ⊥
IsBegun due.Over state rest = rest ≡ []

-- The reader was given these bytes, which are clean parts and the beginning of one.
pub record Reads (m : DerMessage ℕ) (levels : List Level) (d : Due) (start place : ℕ) (bytes : List ℕ) : Type 0 where
  pub parts : List Part
  pub state : State ℕ
  pub at : ℕ
  pub rest : List ℕ
  pub front : DerFront m Start 0 bytes parts state at rest
  pub is_open : IsOpenState m levels d state
  pub is_begun : IsBegun d state rest
  pub start_is : start ≡ at
  pub place_is : place ≡ at + length rest

abbrev pub HasReadParts : DerMessage ℕ → Decoder → List ℕ → Type 0
HasReadParts m d bytes = Reads m (inwards d.levels.items) d.due d.start d.place bytes

-- the bytes have this fault, behind clean parts, where what is open is what the reader has
pub record Fails (m : DerMessage ℕ) (levels : List Level) (d : Due) (bytes : List ℕ) (rule : Rule) (place : ℕ) (added : List ℕ) : Type 0 where
  pub parts : List Part
  pub state : State ℕ
  pub at : ℕ
  pub rest : List ℕ
  pub off : ℕ
  pub front : DerFront m Start 0 bytes parts state at rest
  pub next : NextPart m state at rest rule off added
  pub place_is : place ≡ at + off
  pub is_open : IsOpenState m levels d state

abbrev pub IsFault : DerMessage ℕ → Decoder → List ℕ → Rule → ℕ → List ℕ → Type 0
IsFault m d bytes rule place added = Fails m (inwards d.levels.items) d.due bytes rule place added

abbrev pub IsStopped : DerMessage ℕ → Decoder → List ℕ → Stop → Type 0
IsStopped m d bytes (stop.Fault rule place added) = IsFault m d bytes rule place (added_text m.forms added)
IsStopped m d bytes stop.Memory = Unit {0}

abbrev pub IsBelowEnd : ℕ → Option ℕ → Type 0
IsBelowEnd place None = Unit {0}
IsBelowEnd place (Some end) = place < end

abbrev pub IsPastEnd : ℕ → Option ℕ → Type 0
IsPastEnd place None = ⊥
IsPastEnd place (Some end) = end ≤ place

abbrev pub end_of_first : List Level → Option ℕ
end_of_first [] = None
end_of_first (x ∷ xs) = Some x.end

-- where the innermost open value ends
abbrev pub end_of_levels : List Level → Option ℕ
end_of_levels levels = end_of_first (inwards levels)

-- a header is due
abbrev pub IsHeaderDue : Due → Type 0
IsHeaderDue (due.Tag step) = Unit {0}
IsHeaderDue (due.Length constructed spot step) = Unit {0}
IsHeaderDue _ = ⊥

-- length octets are due
abbrev pub IsLengthDue : Due → Type 0
IsLengthDue (due.Length constructed spot step) = Unit {0}
IsLengthDue _ = ⊥

-- identifier octets are due, and none have come
abbrev pub IsFresh : Due → Type 0
IsFresh (due.Tag step) = step.come ≡ 0
IsFresh _ = ⊥

-- one component more has come
pub record IsAdvanced (old : Level) (number : ℕ) (new : Level) : Type 0 where
  pub spot : new.spot ≡ old.spot
  pub next : new.next ≡ number + 1
  pub count : new.count ≡ old.count + 1
  pub end : new.end ≡ old.end

-- within a value that is open where an octet of a header is awaited
abbrev pub IsSettled : Due → ℕ → Option ℕ → Type 0
IsSettled (due.Tag step) place end = (step.come ≡ 0 → ⊥) → IsBelowEnd place end
IsSettled (due.Length constructed spot step) place end = IsBelowEnd place end
IsSettled d place end = Unit {0}

-- the identifier octets of a sequence
abbrev pub IsOutermost : Identifier → Type 0
IsOutermost id = (id.constructed ≡ true) × (tags.tag_view id ≡ universal 16)

abbrev pub AwaitsInstance : Due → Type 0
AwaitsInstance (due.Length constructed spot step) = (constructed ≡ true) × (spot ≡ spots.Instance) × lengths.HasTakenLength step []
AwaitsInstance _ = ⊥

-- with the octet these are the identifier octets
abbrev pub HasIdentifier : Due → List ℕ → ℕ → Identifier → Type 0
HasIdentifier (due.Tag step) rest octet id = IsShortTag (tags.tag_view id) × (rest ++ octet ∷ [] ≡ identifier id.constructed (tags.tag_view id))
HasIdentifier _ rest octet id = ⊥

-- with the octet these are the length octets of the value
abbrev pub HasLengthOctets : Due → Bool → Spot → List ℕ → ℕ → ℕ → Type 0
HasLengthOctets (due.Length constructed spot step) c s rest octet n = (constructed ≡ c) × (spot ≡ s) × IsShortLength n × (rest ++ octet ∷ [] ≡ length_octets n)
HasLengthOctets _ c s rest octet n = ⊥

abbrev pub level_at : Spot → ℕ → Level
level_at spot end = record { spot = spot; next = 0; count = 0; end = end }

abbrev pub IsFreshOrOver : Due → Type 0
IsFreshOrOver (due.Tag step) = step.come ≡ 0
IsFreshOrOver due.Over = Unit {0}
IsFreshOrOver _ = ⊥

-- what is due where a value has ended, and these are open round it
abbrev pub due_after : Due → List Level → Due
due_after d [] = due.Over
due_after d (x ∷ xs) = d

abbrev pub IsOver : Due → Type 0
IsOver due.Over = Unit {0}
IsOver _ = ⊥

-- an octet is awaited within what is open, or the instance has ended
abbrev pub IsOctetAwaited : Due → ℕ → Option ℕ → Type 0
IsOctetAwaited due.Over place end = Unit {0}
IsOctetAwaited (due.Contents spot left) place end = ⊥
IsOctetAwaited d place end = IsBelowEnd place end

-- the reader waits for an octet, or the instance has ended
abbrev pub IsWaiting : Due → ℕ → Option ℕ → Type 0
IsWaiting (due.Contents spot left) place end = 0 < left
IsWaiting due.Over place end = Unit {0}
IsWaiting d place end = IsBelowEnd place end

-- no more values can be opened without memory
abbrev pub IsFull : Vec Level → Type 0
IsFull levels = vec_capacity levels ≤ vec_len levels

-- the stop is no fault that the bytes end too early
abbrev pub IsNoCut : Stop → Type 0
IsNoCut (stop.Fault rule place added) = rule ≢ DerTruncated
IsNoCut stop.Memory = Unit {0}

-- where contents are due, none of them has come
abbrev pub BeginsContents : Due → ℕ → ℕ → Type 0
BeginsContents (due.Contents spot left) start place = start ≡ place
BeginsContents d start place = Unit {0}

-- a value has begun whose contents octets, or whose length, are due
abbrev pub AwaitsValue : Due → Type 0
AwaitsValue (due.Length constructed spot step) = Unit {0}
AwaitsValue (due.Contents spot left) = Unit {0}
AwaitsValue _ = ⊥

-- a refusal of contents, as it stops the reader
abbrev pub IsRefusedAs : ℕ → Refusal → Stop → Type 0
IsRefusedAs start (refused.Breaks rule) s = s ≡ stop.Fault rule start added.Nothing
IsRefusedAs start refused.Memory s = s ≡ stop.Memory

-- a value of which the length or contents are due is open, beside those round it
abbrev pub due_depth : Due → ℕ
due_depth (due.Length constructed spot step) = 1
due_depth (due.Contents spot left) = 1
due_depth d = 0

-- how many values are open, that of which the length or contents are due among them
abbrev pub depth_of : Decoder → ℕ
depth_of d = length d.levels.items + due_depth d.due

-- of the part that is due, the octets that have come of its identifier or its length
abbrev pub header_come : Due → ℕ → ℕ → ℕ
header_come (due.Tag step) start place = place - start
header_come (due.Length constructed spot step) start place = place - start
header_come d start place = 0
