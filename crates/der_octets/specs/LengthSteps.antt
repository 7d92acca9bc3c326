-- What a reader of length octets has taken, and what it answers.
use Rattle.std.specs.Prelude.{◌≡◌, ℕ, zero, suc, ◌+◌, ◌<◌, ◌≤◌, List, [], ◌∷◌, ◌++◌, length}
use Rattle.std.specs.Int.Digits.{number_from_digits, AllBelowBase}
use Rattle.der_octets.specs.Octets.{length_octets, IsShortLength}
use Rattle.der_octets.specs.declared.length_step.LengthStep.{LengthStep}
use Rattle.der_octets.specs.declared.length_step.LengthRead.{LengthRead}
use Rattle.der_octets.specs.declared.length_step.LengthRead.TheVariants.{More, Done, Bad}

-- the first octet of those that a count of octets announces: not 0; where it is the only one, from 128 on; of eight, below 128
pub record IsLead (count first : ℕ) : Type 0 where
  pub some : 0 < first
  pub great : count ≡ 1 → 128 ≤ first
  pub small : count ≡ 8 → first < 128

abbrev pub IsLedBy : ℕ → List ℕ → Type 0
IsLedBy count [] = Unit {0}
IsLedBy count (d ∷ ds) = IsLead count d

-- a count of 1 to 8, and fewer octets than that
pub record HasBegun (count come value : ℕ) (octets : List ℕ) : Type 0 where
  pub others : List ℕ
  pub octets_are : octets ≡ (128 + count) ∷ others
  pub come_is : length others ≡ come
  pub fewer : come < count
  pub most : count ≤ 8
  pub value_is : value ≡ number_from_digits 256 others
  pub below : AllBelowBase 256 others
  pub led : IsLedBy count others

-- the reader was given these octets, and more of a length are to come
abbrev pub HasTakenLengthIn : ℕ → ℕ → ℕ → List ℕ → Type 0
HasTakenLengthIn zero come value octets = octets ≡ []
HasTakenLengthIn (suc count) come value octets = HasBegun (suc count) come value octets

abbrev pub HasTakenLength : LengthStep → List ℕ → Type 0
HasTakenLength step octets = HasTakenLengthIn step.count step.come step.value octets

-- the answer to one octet more: more are to come; they are the octets of this length; or no length begins so
abbrev pub IsLengthRead : LengthStep → List ℕ → LengthRead → Type 0
IsLengthRead step octets More = HasTakenLength step octets
IsLengthRead step octets (Done n) = IsShortLength n × (octets ≡ length_octets n)
IsLengthRead step octets Bad = (n : ℕ) (more : List ℕ) → IsShortLength n → length_octets n ≡ octets ++ more → ⊥
