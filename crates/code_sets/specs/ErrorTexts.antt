-- The text of why codes are refused, one line without its end.
use Rattle.std.specs.Prelude.{ℕ, List, ◌++◌, codes}
use Rattle.std.specs.Fmt.{decimal}
use Rattle.code_sets.specs.declared.errors.CodesError.{CodesError}
use Rattle.code_sets.specs.declared.errors.CodesError.TheVariants.{Refused, ReadFault, Memory}

-- the rule and the record, each in decimal digits
abbrev pub codes_error_text : CodesError → List ℕ
codes_error_text (Refused rule number) = codes "C" ++ decimal rule ++ codes " at record " ++ decimal number
codes_error_text ReadFault = codes "the source failed"
codes_error_text Memory = codes "out of memory"
