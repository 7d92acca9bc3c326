-- The text of why a text is not read as a pattern.
use Rattle.std.specs.Prelude.{ℕ, List, ◌++◌, codes}
use Rattle.std.specs.Fmt.{decimal}
use Rattle.pattern_match.specs.declared.error.PatternError.{PatternError}
use Rattle.pattern_match.specs.declared.error.PatternError.TheVariants.{Refused, TooLarge, Memory}

-- one line without its end; a place is in decimal digits
abbrev pub pattern_error_text : PatternError → List ℕ
pattern_error_text (Refused place) = codes "no pattern goes on so at character " ++ decimal place
pattern_error_text TooLarge = codes "the pattern has more than 65536 positions"
pattern_error_text Memory = codes "out of memory"
