-- The first fault of bytes that may be more than an instance has at most, by what the first fault of bytes is.
use Rattle.std.specs.Prelude.{◌≡◌, ◌≢◌, ℕ, ◌<◌, ◌≤◌, ◌^◌, List, length, take, codes}
use Rattle.lexical_core.specs.declared.rule.Rule.{Rule}
use Rattle.lexical_core.specs.declared.rule.Rule.TheVariants.{InputTooLong}
use Rattle.message_model.specs.declared.fault.Fault.{Fault}

-- how many bytes an instance has at most
abbrev pub most_bytes : ℕ
most_bytes = 2 ^ 40

-- that there are more, with the path of what is open there
abbrev pub too_many : List ℕ → Fault
too_many path = record { rule = InputTooLong; place = most_bytes; path = path }

-- Behind the limit the bytes are too long where those before have no other fault than that they end too early, and where they are an instance.
pub data IsLimited (IsFaulty : List ℕ → Fault → Type 0) (IsInstance : List ℕ → Type 0) (cut_rule : Rule) (bytes : List ℕ) (fault : Fault) : Type 0 where
  within : length bytes ≤ most_bytes → IsFaulty bytes fault → IsLimited IsFaulty IsInstance cut_rule bytes fault
  before : most_bytes < length bytes → IsFaulty (take most_bytes bytes) fault → fault.rule ≢ cut_rule → IsLimited IsFaulty IsInstance cut_rule bytes fault
  open_at : (f : Fault) → most_bytes < length bytes → IsFaulty (take most_bytes bytes) f → f.rule ≡ cut_rule → fault ≡ too_many f.path → IsLimited IsFaulty IsInstance cut_rule bytes fault
  over_at : most_bytes < length bytes → IsInstance (take most_bytes bytes) → fault ≡ too_many (codes "/") → IsLimited IsFaulty IsInstance cut_rule bytes fault
