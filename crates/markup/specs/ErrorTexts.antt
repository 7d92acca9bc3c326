-- The texts of a fault of markup and of why a reader does not go on, each one line without its end.
use Rattle.std.specs.Prelude.{ℕ, List, ◌++◌, codes}
use Rattle.std.specs.Fmt.{decimal}
use Rattle.lexical_core.specs.Rules.{name_of}
use Rattle.markup.specs.declared.reader.MarkFault.{MarkFault}
use Rattle.markup.specs.declared.reader.MarkError.{MarkError}
use Rattle.markup.specs.declared.reader.MarkError.TheVariants.{Refused, Memory}

-- the rule's name, and the place in decimal digits
abbrev pub mark_fault_text : MarkFault → List ℕ
mark_fault_text f = name_of f.rule ++ codes " at " ++ decimal f.place

abbrev pub mark_error_text : MarkError → List ℕ
mark_error_text (Refused fault) = mark_fault_text fault
mark_error_text Memory = codes "out of memory"
