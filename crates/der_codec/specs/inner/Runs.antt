-- What a run of components has read, and how it goes on.
use Rattle.std.specs.Prelude.{◌≡◌, ℕ, ◌+◌, ◌≤◌, List, [], ◌∷◌, ◌++◌, length}
use Rattle.der_octets.specs.Octets.{identifier, length_octets, IsShortTag, IsShortLength}
use Rattle.der_octets.specs.LengthSteps as lengths
use Rattle.der_octets.specs.declared.length_step.LengthStep.{LengthStep}
use Rattle.der_octets.specs.TagSteps.{tag_view}
use Rattle.der_octets.specs.declared.tag_step.Identifier.{Identifier}
use Rattle.der_model.specs.DerMessage.{DerMessage}
use Rattle.der_codec.specs.Judging.{HoldsContents}
use Rattle.der_codec.specs.Levels.{inwards, rest_of}
use Rattle.der_codec.specs.Decoding.{Reads, IsAdvanced, level_at}
use Rattle.der_codec.specs.declared.level.Spot.{Spot}
use Rattle.der_codec.specs.declared.level.Level.{Level}
use Rattle.der_codec.specs.declared.decoder.Decoder.{Decoder}
use Rattle.der_codec.specs.declared.usual.Run.{Run}

-- The reader was given these bytes, where the innermost level and the place are those of the run.
abbrev pub RunReads : DerMessage ℕ → Decoder → Run → List ℕ → Type 0
RunReads m d run bytes = Reads m (run.level ∷ rest_of (inwards d.levels.items)) d.due run.place run.place bytes

-- the identifier has this octet alone
abbrev pub IsOneOctet : ℕ → Identifier → Type 0
IsOneOctet octet id = IsShortTag (tag_view id) × (octet ∷ [] ≡ identifier id.constructed (tag_view id))

-- The constructed component of this number of the innermost level begins, and fits into it, behind a header of so many octets.
pub record EntersRun (old new : Decoder) (run after : Run) (number : ℕ) (spot : Spot) (header count : ℕ) : Type 0 where
  pub around : Level
  pub is_advanced : IsAdvanced run.level number around
  pub fits : run.place + header + count ≤ run.level.end
  pub level_is : after.level ≡ level_at spot (run.place + header + count)
  pub place_is : after.place ≡ run.place + header
  pub levels_are : rest_of (inwards new.levels.items) ≡ around ∷ rest_of (inwards old.levels.items)

-- The leaf of this number of the innermost level, which has these contents, fits into it behind two octets, and is passed.
pub record PassesInRun (m : DerMessage ℕ) (run after : Run) (number : ℕ) (spot : Spot) (contents : List ℕ) : Type 0 where
  pub is_advanced : IsAdvanced run.level number after.level
  pub fits : run.place + 2 + length contents ≤ run.level.end
  pub place_is : after.place ≡ run.place + 2 + length contents
  pub holds : HoldsContents m spot contents

-- These octets, the first and those behind it, are those of a length, which a reader takes one by one.
pub record AreLengthOctets (first : ℕ) (more : List ℕ) (n : ℕ) : Type 0 where
  pub front : List ℕ
  pub last : ℕ
  pub are : first ∷ more ≡ front ++ last ∷ []
  pub step : LengthStep
  pub taken : lengths.HasTakenLength step front
  pub short : IsShortLength n
  pub octets : first ∷ more ≡ length_octets n
