-- Parts of the texts of dates and times. The contracts of private functions alone cite it.
use Rattle.std.specs.Prelude.{◌≡◌, ℕ, ◌+◌, ◌<◌, ◌≤◌, Bool, List, ◌++◌, length, slice_index}
use Rattle.data_types.specs.Dates.{IsFraction, IsZone}

-- the digits of a second after its point, where there are any, and a zone or none
abbrev pub IsFractionAndZone : Bool → List ℕ → Type 0
IsFractionAndZone seconds text = (fraction zone : List ℕ) × (text ≡ fraction ++ zone) × IsFraction seconds fraction × IsZone zone

-- two bytes stand there, and none is below a digit
pub record AreDigits (text : List ℕ) (at : ℕ) : Type 0 where
  pub inside : at + 1 < length text
  pub first : 48 ≤ slice_index text at
  pub second : 48 ≤ slice_index text (at + 1)

-- where the year, the month and the day of a date stand
pub record AreDateDigits (text : List ℕ) : Type 0 where
  pub century : AreDigits text 0
  pub year : AreDigits text 2
  pub month : AreDigits text 5
  pub day : AreDigits text 8

-- where hours, minutes and seconds stand behind a date
pub record AreClockDigits (text : List ℕ) : Type 0 where
  pub hours : AreDigits text 11
  pub minutes : AreDigits text 14
  pub seconds : AreDigits text 17
