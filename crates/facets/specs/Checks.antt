-- What the checks of values that are no texts answer.
use Rattle.std.specs.Prelude.{ℕ, List, length, Option, Some, Result, Ok, Err}
use Rattle.lexical_core.specs.Decimals.{Number}
use Rattle.lexical_core.specs.declared.rule.Rule.{Rule}
use Rattle.lexical_core.specs.declared.rule.Rule.TheVariants.{BadLength, Digits, OutOfRange}
use Rattle.data_types.specs.declared.kind.Kind.{Kind}
use Rattle.data_types.specs.declared.kind.Kind.TheVariants as kind
use Rattle.facets.specs.declared.simple.Simple.{Simple}
use Rattle.facets.specs.Facets.{HasLength, HasDigits, IsInRange}

-- a length: within its bounds, or BadLength
abbrev pub IsLengthAnswer : {T : Type 0} → Simple → ℕ → Result T Rule → Type 0
IsLengthAnswer simple n (Ok x) = HasLength simple n
IsLengthAnswer simple n (Err BadLength) = HasLength simple n → ⊥
IsLengthAnswer simple n (Err rule) = ⊥

-- a number: within its digits and bounds; Digits; or OutOfRange where its digits are few enough
abbrev pub IsNumberAnswer : {T : Type 0} → Simple → Number → Result T Rule → Type 0
IsNumberAnswer simple n (Ok x) = HasDigits simple n × IsInRange simple n
IsNumberAnswer simple n (Err Digits) = HasDigits simple n → ⊥
IsNumberAnswer simple n (Err OutOfRange) = HasDigits simple n × (IsInRange simple n → ⊥)
IsNumberAnswer simple n (Err rule) = ⊥

-- how many places of codes there are: those of texts where there are codes
abbrev pub place_count_by : Kind → Option (List (List ℕ)) → ℕ
place_count_by kind.Text (Some codes) = length codes
place_count_by k codes = 0

abbrev pub place_count : Simple → ℕ
place_count simple = place_count_by simple.kind simple.codes
