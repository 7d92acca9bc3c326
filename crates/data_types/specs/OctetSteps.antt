-- What the reader of base64 texts keeps of the characters that it was given: said by the characters that may still come.
use Rattle.std.specs.Prelude.{◌≡◌, ◌↔◌, ℕ, List, [], ◌∷◌, ◌++◌, length, take, Option, Result, Ok, Err}
use Rattle.base64.specs.Engines.{standard}
use Rattle.base64.specs.GeneralPurpose.{IsBytes, encode_of}
use Rattle.lexical_core.specs.declared.rule.Rule.{Rule}
use Rattle.lexical_core.specs.declared.rule.Rule.TheVariants.{BadText, BadLength}
use Rattle.data_types.specs.declared.octets.Stage.{Stage}
use Rattle.data_types.specs.declared.octets.Stage.TheVariants.{Open, Ended, Failed}
use Rattle.data_types.specs.declared.octets.OctetStep.{OctetStep}
use Rattle.data_types.specs.Limits.{IsPast, IsCount}
use Rattle.data_types.specs.Kept.{Holds}

-- with these octets and the begun group, these characters are the rest of the text of these octets in all
abbrev pub RestIn : Stage → List ℕ → List ℕ → List ℕ → List ℕ → Type 0
RestIn Open octets begun more all = (rest : List ℕ) × (begun ++ more ≡ encode_of standard rest) × (all ≡ octets ++ rest)
RestIn Ended octets begun more all = (more ≡ []) × (all ≡ octets)
RestIn Failed octets begun more all = ⊥

-- the octets of the whole groups so far are these: they are held as the limit allows, and counted, held or not
abbrev pub HasOctets : OctetStep → Option ℕ → List ℕ → Type 0
HasOctets s most octets = IsBytes octets × Holds s.kept most (length octets) octets × IsCount s.total (length octets)

abbrev pub IsRest : OctetStep → List ℕ → List ℕ → List ℕ → Type 0
IsRest s octets more all = RestIn s.stage octets (take s.count s.group) more all

-- the reader has this limit and was given these characters, since it was made: they and those that follow are the text of octets
-- exactly where those that follow are the rest of it
abbrev pub HasDecoded : OctetStep → Option ℕ → List ℕ → Type 0
HasDecoded s most text =
    (octets : List ℕ) × HasOctets s most octets
    × ((more all : List ℕ) → IsBytes all → (text ++ more ≡ encode_of standard all) ↔ IsRest s octets more all)

-- one more character was taken
abbrev pub IsOctetStep : OctetStep → ℕ → OctetStep → Type 0
IsOctetStep s c t =
    (most : Option ℕ) (octets : List ℕ) → HasOctets s most octets
    → (next : List ℕ) × HasOctets t most next × ((more all : List ℕ) → IsBytes all → IsRest s octets (c ∷ more) all ↔ IsRest t next more all)

-- why the characters are no octets within the limit: they spell none, or too many
abbrev pub IsOctetFault : Option ℕ → List ℕ → Rule → Type 0
IsOctetFault most text BadText = (octets : List ℕ) → IsBytes octets → text ≡ encode_of standard octets → ⊥
IsOctetFault most text BadLength = (octets : List ℕ) × IsBytes octets × (text ≡ encode_of standard octets) × IsPast most (length octets)
IsOctetFault most text rule = ⊥

-- how many octets the characters are the text of, whatever the limit; BadText where they are the text of none
abbrev pub IsTextCount : List ℕ → Result (Option ℕ) Rule → Type 0
IsTextCount text (Ok count) = (octets : List ℕ) × IsBytes octets × (text ≡ encode_of standard octets) × IsCount count (length octets)
IsTextCount text (Err BadText) = (octets : List ℕ) → IsBytes octets → text ≡ encode_of standard octets → ⊥
IsTextCount text (Err rule) = ⊥
