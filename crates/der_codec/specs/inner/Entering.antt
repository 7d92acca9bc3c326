-- How a reader goes into a component of an open value, or passes a leaf.
use Rattle.std.specs.Prelude.{◌≡◌, ℕ, ◌+◌, ◌<◌, ◌≤◌, ◌++◌, Bool, true, false, List, [], ◌∷◌}
use Rattle.der_octets.specs.TagSteps as tags
use Rattle.der_octets.specs.LengthSteps as lengths
use Rattle.der_octets.specs.declared.length_step.LengthStep.{LengthStep}
use Rattle.der_octets.specs.declared.tag_step.TagStep.{TagStep}
use Rattle.der_model.specs.DerMessage.{DerMessage}
use Rattle.der_codec.specs.Levels.{inwards, rest_of}
use Rattle.der_codec.specs.Decoding.{Reads, IsBelowEnd, end_of_levels, level_at}
use Rattle.der_codec.specs.declared.begun.Begun.{Begun}
use Rattle.der_codec.specs.declared.level.Spot.{Spot}
use Rattle.der_codec.specs.declared.level.Level.{Level}
use Rattle.der_codec.specs.declared.decoder.Decoder.{Decoder}
use Rattle.der_codec.specs.declared.decoder.Due.TheVariants as due

-- Behind these bytes the octets o and n are the header of a component of the innermost level, which goes on as said: it has come, and the component fits into it.
pub record HasBegunComponent (m : DerMessage ℕ) (d : Decoder) (bytes : List ℕ) (o n : ℕ) (b : Begun) : Type 0 where
  pub step : LengthStep
  pub none_taken : lengths.HasTakenLength step []
  pub read : Reads m (b.around ∷ rest_of (inwards d.levels.items)) (due.Length b.constructed b.spot step) (d.place + 1) (d.place + 1) (bytes ++ o ∷ [])
  pub short : n < 128
  pub tag_step : TagStep
  pub due_is : d.due ≡ due.Tag tag_step
  pub below : IsBelowEnd d.place (end_of_levels d.levels.items)
  pub end_is : b.end ≡ d.place + 2 + n
  pub fits : b.end ≤ b.around.end

-- Behind these bytes the piece begins with the header of the component, which ends with the octet n; octets stand behind it.
pub record StandsFirst (m : DerMessage ℕ) (d : Decoder) (bytes : List ℕ) (b : Begun) (n : ℕ) (behind piece : List ℕ) : Type 0 where
  pub first : ℕ
  pub piece_is : piece ≡ first ∷ n ∷ behind
  pub begun : HasBegunComponent m d bytes first n b

-- a value of so many contents octets, which begin at the place, is open or its contents are due, within these levels
abbrev pub Awaits : Decoder → Bool → Spot → ℕ → ℕ → List Level → Type 0
Awaits d true spot place count around = (inwards d.levels.items ≡ level_at spot (place + count) ∷ around) × (step : TagStep) × (d.due ≡ due.Tag step) × tags.HasTakenTag step []
Awaits d false spot place count around = (inwards d.levels.items ≡ around) × (d.due ≡ due.Contents spot count)
