-- The texts of why a message is refused.
use Rattle.std.specs.Prelude.{ℕ, List, ◌++◌, codes}
use Rattle.std.specs.Fmt.{decimal}
use Rattle.reference_check.specs.declared.reached.ReadyError.{ReadyError}
use Rattle.reference_check.specs.declared.reached.ReadyError.TheVariants.{Broken, Memory}

-- what is printed, with the number of the rule in decimal digits
abbrev pub ready_error_text : ReadyError → List ℕ
ready_error_text (Broken rule object) = codes "the message breaks rule M" ++ decimal rule
ready_error_text Memory = codes "there is no memory for what the message reaches"
